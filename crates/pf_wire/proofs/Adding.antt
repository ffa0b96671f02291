-- Texts that are added one after the other, and the lines of a report.
use Rattle.std.proofs.Common.{◌≡◌, ℕ, List, [], ◌++◌, Option, Some, None, Result, Ok, Err, refl, sym, ap, ◌∙◌, subst}
use Rattle.std.proofs.Common.{append_assoc}
use Rattle.std.specs.Prelude.{OnErr, codes}
use Rattle.std.specs.Fmt.{decimal}
use Rattle.pf_terms.specs.Atoms.{name_of}
use Rattle.pf_streams.specs.Streams.{AppendsFront}
use Rattle.pf_streams.proofs.Writes.{appends_both}
use Rattle.pf_model.specs.Meaning.{Report}
use Rattle.pf_model.specs.Shrinking as shrinking
use Rattle.pf_model.specs.Shrinking.{report, shrunk_to, nothing_fails}
use Rattle.pf_model.specs.TermText.{line}
use Rattle.pf_model.specs.Text.{outcome_text, report_text, verdict_text}
use Rattle.pf_desks.specs.Reported.{result_rest}
use Rattle.pf_trace.specs.Written.{report_end_text}
use Rattle.pf_wire.specs.Whole.{events_text, result_events, result_end, report_lines, with_report, whole_text}
use Rattle.pf_wire.specs.declared.reported.WrittenAnswer.{WrittenAnswer}
use Rattle.pf_wire.specs.declared.reported.ReportedReport.{ReportedReport}
use Rattle.pf_trace.proofs.Fronts.{front_of_both, front_of_more}
use Rattle.pf_wire.proofs.Leaving.{IsAdded}

pub at_err : {T E P : Type 0} (r : Result T E) → P → OnErr r P
at_err (Ok x) h = tt
at_err (Err e) h = h

-- ---- two texts

pub both_same : (a a' b b' : List ℕ) → a ≡ a' → b ≡ b' → a ++ b ≡ a' ++ b'
both_same a a' b b' e f = ap (λ (t : List ℕ). t ++ b) e ∙ ap (λ (t : List ℕ). a' ++ t) f

-- the one was added, and then the other
pub added_both : (g g1 g2 a b text : List ℕ) (w0 w1 w2 : Option (List ℕ)) → a ++ b ≡ text → IsAdded g a g1 w0 w1
    → IsAdded g1 b g2 w1 w2 → IsAdded g text g2 w0 w2
added_both g g1 g2 a b text w0 w1 w2 e h k = (
  h.0 ++ k.0,
  appends_both w0 w1 w2 h.0 k.0 h.1 k.1,
  append_assoc h.0 k.0 g2
      ∙ ap (λ (t : List ℕ). h.0 ++ t) k.2
      ∙ sym (append_assoc h.0 g1 b)
      ∙ ap (λ (t : List ℕ). t ++ b) h.2
      ∙ append_assoc g a b
      ∙ ap (λ (t : List ℕ). g ++ t) e,
)

-- a beginning of the one was written
pub front_of_first : (g a b text : List ℕ) (w0 w1 : Option (List ℕ)) → a ++ b ≡ text → AppendsFront w0 w1 (g ++ a)
    → AppendsFront w0 w1 (g ++ text)
front_of_first g a b text w0 w1 e k =
    subst (AppendsFront w0 w1) (append_assoc g a b ∙ ap (λ (t : List ℕ). g ++ t) e) (front_of_more w0 w1 (g ++ a) b k)

-- the one was added, and a beginning of the other was written
pub front_of_second : (g g1 a b text : List ℕ) (w0 w1 w2 : Option (List ℕ)) → a ++ b ≡ text → IsAdded g a g1 w0 w1
    → AppendsFront w1 w2 (g1 ++ b)
    → AppendsFront w0 w2 (g ++ text)
front_of_second g g1 a b text w0 w1 w2 e h k =
    subst (AppendsFront w0 w2)
    (sym (append_assoc h.0 g1 b) ∙ ap (λ (t : List ℕ). t ++ b) h.2 ∙ append_assoc g a b ∙ ap (λ (t : List ℕ). g ++ t) e)
    (front_of_both w0 w1 w2 h.0 (g1 ++ b) h.1 k)

-- ---- the lines of a report

four : (e o s v : List ℕ) → e ++ (o ++ s ++ v) ≡ e ++ o ++ s ++ v
four e o s v = sym (append_assoc e (o ++ s) v) ∙ ap (λ (t : List ℕ). t ++ v) (sym (append_assoc e o s))

-- those of its events, and those that follow them
report_in_two : (name : ℕ → List ℕ) (r : Report) → events_text name r ++ report_end_text name r ≡ report_text name r
report_in_two name r =
    four (events_text name r) (line (outcome_text name r.outcome)) (line (codes "steps " ++ decimal r.steps))
    (line (verdict_text r.verdict))

result_in_two : (atoms : List (List ℕ)) (r : shrinking.Result)
    → result_events atoms r ++ result_end atoms r ≡ result_rest atoms r
result_in_two atoms (report r) = report_in_two (name_of atoms) r
result_in_two atoms (shrunk_to f r) = report_in_two (name_of atoms) r
result_in_two atoms nothing_fails = refl

-- what was put at the end of nothing follows those of its events
pub rest_reported : (atoms : List (List ℕ)) (r : shrinking.Result) (text none end : List ℕ) → none ≡ []
    → end ≡ none ++ result_end atoms r
    → text ++ (result_events atoms r ++ end) ≡ text ++ result_rest atoms r
rest_reported atoms r text none end n e =
    let all : end ≡ result_end atoms r = e ∙ ap (λ (t : List ℕ). t ++ result_end atoms r) n in
    ap (λ (t : List ℕ). text ++ (result_events atoms r ++ t)) all ∙ ap (λ (t : List ℕ). text ++ t)
    (result_in_two atoms r)

-- ---- what is answered

-- a text comes after what was put
pub reported_with : (put : List ℕ) (t : WrittenAnswer) (r : ReportedReport) → put ≡ t.text.items → t.report ≡ Some r
    → put ++ report_lines r ≡ whole_text t
reported_with put t r p e = ap (λ (s : List ℕ). s ++ report_lines r) p ∙ ap (with_report t.text.items) (sym e)

-- a beginning of what was put was written
pub front_of_put : (g text : List ℕ) (r : Option ReportedReport) (w0 w1 : Option (List ℕ))
    → AppendsFront w0 w1 (g ++ text)
    → AppendsFront w0 w1 (g ++ with_report text r)
front_of_put g text None w0 w1 k = k
front_of_put g text (Some r) w0 w1 k = front_of_first g text (report_lines r) (text ++ report_lines r) w0 w1 refl k
