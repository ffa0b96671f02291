-- What was written of a report that was cut short.
use Rattle.std.proofs.Common.{◌≡◌, ℕ, List, [], ◌∷◌, ◌++◌, Option, Result, Ok, Err, refl, sym, ap, ◌∙◌, subst}
use Rattle.std.proofs.Common.{append_assoc}
use Rattle.std.specs.Prelude.{IfErr, IsErr, IsErrAnd}
use Rattle.std.specs.Io.KnownBytes.{Appends}
use Rattle.pf_errors.specs.declared.fault.OrNoMemory.{OrNoMemory}
use Rattle.pf_errors.specs.declared.fault.OrNoMemory.TheVariants.{NoMemory, Fault}
use Rattle.pf_streams.specs.Streams.{AppendsFront, LeavesFront}
use Rattle.pf_streams.specs.declared.stream.StreamFault.{StreamFault}
use Rattle.pf_streams.proofs.Writes.{appends_both}
use Rattle.pf_model.specs.Meaning.{Event, Report}
use Rattle.pf_model.specs.Text.{event_text, report_text}
use Rattle.pf_model.specs.TermText.{line}
use Rattle.pf_trace.specs.Written.{StopsShort, report_end_text, lines_text}

-- a fault is handed on
pub handed_on : {T E : Type 0} (r : Result T E) (f : E) (P : E → Type 0) → IsErr r × IsErrAnd r (λ e. e ≡ f)
    → P f → IfErr r P
handed_on (Ok x) f P h k = tt
handed_on (Err e) f P h k = subst P (sym h.1) k

-- a beginning of a text is one of a longer text
pub front_of_more : (w0 w1 : Option (List ℕ)) (a b : List ℕ) → AppendsFront w0 w1 a → AppendsFront w0 w1 (a ++ b)
front_of_more w0 w1 a b k = (k.0, k.1 ++ b, ap (λ (t : List ℕ). t ++ b) k.2 ∙ append_assoc k.0 k.1 b, k.3)

-- a text, and the beginning of what goes on after it
pub front_of_both : (w0 w1 w2 : Option (List ℕ)) (a b : List ℕ) → Appends w0 w1 a → AppendsFront w1 w2 b
    → AppendsFront w0 w2 (a ++ b)
front_of_both w0 w1 w2 a b h k = (
  a ++ k.0,
  k.1,
  ap (λ (t : List ℕ). a ++ t) k.2 ∙ sym (append_assoc a k.0 k.1),
  appends_both w0 w1 w2 a k.0 h k.3,
)

module _ (name : ℕ → List ℕ) where
  pub lines_of_both : (xs ys : List Event) → lines_text name (xs ++ ys) ≡ lines_text name xs ++ lines_text name ys
  lines_of_both [] ys = refl
  lines_of_both (x ∷ xs) ys =
      let one = line (event_text name x) in
      ap (λ (t : List ℕ). one ++ t) (lines_of_both xs ys)
      ∙ sym (append_assoc one (lines_text name xs) (lines_text name ys))

  lines_and_end : (r : Report) → report_text name r ≡ lines_text name r.events ++ report_end_text name r
  lines_and_end r = simp append_assoc

  -- the text of a report is the lines of both and what follows them
  pub whole_text : (r : Report) (gone waiting : List Event) → r.events ≡ gone ++ waiting
      → report_text name r ≡ lines_text name gone ++ (lines_text name waiting ++ report_end_text name r)
  whole_text r gone waiting all =
      lines_and_end r ∙ ap (λ (t : List ℕ). t ++ report_end_text name r)
      (ap (lines_text name) all ∙ lines_of_both gone waiting)
      ∙ append_assoc (lines_text name gone) (lines_text name waiting) (report_end_text name r)

  -- a beginning of the lines of the first events is one of the report's text
  pub front_of_report : (r : Report) (es rest : List Event) (w0 w1 : Option (List ℕ)) → r.events ≡ es ++ rest
      → AppendsFront w0 w1 (lines_text name es)
      → AppendsFront w0 w1 (report_text name r)
  front_of_report r es rest w0 w1 e k =
      subst (AppendsFront w0 w1) (sym (whole_text r es rest e))
      (front_of_more w0 w1 (lines_text name es) (lines_text name rest ++ report_end_text name r) k)

  -- the lines of some events were written, and those of others weren't, or a beginning of them was
  pub stops_among : (e : OrNoMemory StreamFault) (r : Report) (gone waiting rest : List Event)
      (w0 w w1 : Option (List ℕ)) (n0 n1 : ℕ)
      → r.events ≡ (gone ++ waiting) ++ rest → Appends w0 w (lines_text name gone)
      → LeavesFront e (lines_text name waiting) w w1 n0 n1
      → StopsShort e name r w0 w1 n0 n1
  stops_among NoMemory r gone waiting rest w0 w w1 n0 n1 all out leaves = (
    gone,
    waiting ++ rest,
    all ∙ append_assoc gone waiting rest,
    subst (λ z. Appends w0 z (lines_text name gone)) (sym leaves.0) out,
    leaves.1,
  )
  stops_among (Fault f) r gone waiting rest w0 w w1 n0 n1 all out leaves =
      let both = front_of_both w0 w w1 (lines_text name gone) (lines_text name waiting) out leaves.0 in
      let front = subst (AppendsFront w0 w1) (sym (lines_of_both gone waiting)) both in
      (front_of_report r (gone ++ waiting) rest w0 w1 all front, leaves.1)

  -- and where those that wait are the last, what follows them too
  pub stops_at_end : (e : OrNoMemory StreamFault) (r : Report) (gone waiting : List Event)
      (w0 w w1 : Option (List ℕ)) (n0 n1 : ℕ)
      → r.events ≡ gone ++ waiting → Appends w0 w (lines_text name gone)
      → LeavesFront e (lines_text name waiting ++ report_end_text name r) w w1 n0 n1
      → StopsShort e name r w0 w1 n0 n1
  stops_at_end NoMemory r gone waiting w0 w w1 n0 n1 all out leaves =
      (gone, waiting, all, subst (λ z. Appends w0 z (lines_text name gone)) (sym leaves.0) out, leaves.1)
  stops_at_end (Fault f) r gone waiting w0 w w1 n0 n1 all out leaves =
      let both = front_of_both w0 w w1 (lines_text name gone) (lines_text name waiting ++ report_end_text name r)
      out leaves.0 in
      (subst (AppendsFront w0 w1) (sym (whole_text r gone waiting all)) both, leaves.1)
