-- What is written where a command answers.
use Rattle.std.proofs.Common.{◌≡◌, ℕ, zero, List, ◌++◌, Option, None, Result, Ok, Err, refl, sym, ap, ◌∙◌, subst}
use Rattle.std.specs.Prelude.{IfOk, IfSome, IsErr, IsErrAnd, take}
use Rattle.std.specs.Io.KnownBytes.{Appends}
use Rattle.pf_errors.specs.declared.fault.OrNoMemory.{OrNoMemory}
use Rattle.pf_errors.specs.declared.fault.OrNoMemory.TheVariants.{NoMemory, Fault}
use Rattle.pf_streams.specs.Streams.{CountsReadOrNone, CountsWrite}
use Rattle.pf_streams.specs.declared.stream.StreamFault.{StreamFault}
use Rattle.pf_streams.specs.declared.stream.StreamFault.TheVariants.{Read, Write}
use Rattle.pf_streams.proofs.Writes.{appends_both}
use Rattle.pf_model.specs.Meaning.{Event, Means, Report}
use Rattle.pf_model.specs.Meaning as meaning
use Rattle.pf_model.specs.Shrinking as shrinking
use Rattle.pf_model.specs.Text.{report_text}
use Rattle.pf_model.proofs.Meanings.{only_evaluated}
use Rattle.pf_request.specs.Job.{Job}
use Rattle.pf_trace.specs.Written.{lines_text}
use Rattle.pf_trace.proofs.Fronts.{front_of_both}
use Rattle.pf_sched.specs.Choosing.{choosing_of}
use Rattle.pf_sched.specs.Printing.{HasPrinted, HasStopped}
use Rattle.pf_sched.specs.declared.printing.PrintedRun.{PrintedRun}
use Rattle.pf_command.specs.Answers.{AreFirst, IsNoMemory, ReportsJob, atom_names_of, result, out_of_memory, run_status}
use Rattle.pf_command.specs.Streams.{Answering, IsAnsweredSo, PrintsAnswer, Sends, Serves, Streams, streams}
use Rattle.pf_command.specs.declared.serving.TheConstants.{MOST_BYTES}

module _ (P Q : List ℕ → ℕ → Type 0) (w0 w1 : Option (List ℕ)) (n0 n1 : ℕ) (more : (t : List ℕ) (s : ℕ)
    → P t s → Q t s) where
  pub prints_more : (r : Result ℕ StreamFault) → PrintsAnswer P w0 w1 n0 n1 r → PrintsAnswer Q w0 w1 n0 n1 r
  prints_more (Ok s) h = (h.0, more h.0 s h.1, h.2, h.3)
  prints_more (Err e) h = (h.0, h.1, more h.0 h.1 h.2, h.3, h.4)

  pub sends_more : (r : Result ℕ (OrNoMemory StreamFault)) → Sends P w0 w1 n0 n1 r → Sends Q w0 w1 n0 n1 r
  sends_more (Ok s) h = (h.0, more h.0 s h.1, h.2, h.3)
  sends_more (Err NoMemory) h = h
  sends_more (Err (Fault e)) h = (h.0, h.1, more h.0 h.1 h.2, h.3, h.4)

-- after a text that was written
pub prints_after : (P Q : List ℕ → ℕ → Type 0) (front : List ℕ) (w0 w w1 : Option (List ℕ)) (n0 n n1 : ℕ)
    (r : Result ℕ StreamFault) → Appends w0 w front → n ≡ n0
    → ((t : List ℕ) (s : ℕ) → P t s → Q (front ++ t) s) → PrintsAnswer P w w1 n n1 r → PrintsAnswer Q w0 w1 n0 n1 r
prints_after P Q front w0 w w1 n0 n n1 (Ok s) out same f h =
    (front ++ h.0, f h.0 s h.1, appends_both w0 w w1 front h.0 out h.2, h.3 ∙ same)
prints_after P Q front w0 w w1 n0 n n1 (Err e) out same f h = (
  front ++ h.0,
  h.1,
  f h.0 h.1 h.2,
  front_of_both w0 w w1 front h.0 out h.3,
  subst (λ k. CountsWrite e k n1) same h.4,
)

-- a fault of a stream is handed on
pub printed_fault : (P : List ℕ → ℕ → Type 0) (w0 w1 : Option (List ℕ)) (n0 n1 : ℕ) (r : Result ℕ StreamFault)
    (f : StreamFault)
    → IsErr r × IsErrAnd r (λ e. e ≡ f) → PrintsAnswer P w0 w1 n0 n1 (Err f) → PrintsAnswer P w0 w1 n0 n1 r
printed_fault P w0 w1 n0 n1 (Ok s) f is h = absurd cc
printed_fault P w0 w1 n0 n1 (Err e) f is h = subst (λ z. PrintsAnswer P w0 w1 n0 n1 (Err z)) (sym is.1) h

pub sent_fault : (P : List ℕ → ℕ → Type 0) (w0 w1 : Option (List ℕ)) (n0 n1 : ℕ) (r : Result ℕ (OrNoMemory StreamFault))
    (f : StreamFault)
    → IsErr r × IsErrAnd r (λ e. e ≡ Fault f) → PrintsAnswer P w0 w1 n0 n1 (Err f) → Sends P w0 w1 n0 n1 r
sent_fault P w0 w1 n0 n1 (Ok s) f is h = absurd cc
sent_fault P w0 w1 n0 n1 (Err e) f is h = subst (λ z. Sends P w0 w1 n0 n1 (Err z)) (sym is.1) h

-- and that memory ran out
pub sent_memory : (P : List ℕ → ℕ → Type 0) (w : Option (List ℕ)) (n : ℕ) (r : Result ℕ (OrNoMemory StreamFault))
    → IsErr r × IsErrAnd r (λ e. e ≡ NoMemory)
    → Sends P w w n n r
sent_memory P w n (Ok s) is = absurd cc
sent_memory P w n (Err e) is = subst (λ z. Sends P w w n n (Err z)) (sym is.1) (refl, refl)

-- what is sent of bytes is sent of the same by another name
pub sent_as : (P : Answering) (bytes known : List ℕ) (w0 w1 : Option (List ℕ)) (n0 n1 : ℕ)
    (r : Result ℕ (OrNoMemory StreamFault)) → bytes ≡ known → Sends (P bytes) w0 w1 n0 n1 r
    → Sends (P known) w0 w1 n0 n1 r
sent_as P bytes known w0 w1 n0 n1 r same h = subst (λ b. Sends (P b) w0 w1 n0 n1 r) same h

-- a fault is handed on
pub sent_on : (P : List ℕ → ℕ → Type 0) (w0 w1 : Option (List ℕ)) (n0 n1 : ℕ) (r : Result ℕ (OrNoMemory StreamFault))
    (e : OrNoMemory StreamFault) → IsErr r × IsErrAnd r (λ f. f ≡ e)
    → Sends P w0 w1 n0 n1 (Err e) → Sends P w0 w1 n0 n1 r
sent_on P w0 w1 n0 n1 (Ok s) e is h = absurd cc
sent_on P w0 w1 n0 n1 (Err f) e is h = subst (λ z. Sends P w0 w1 n0 n1 (Err z)) (sym is.1) h

-- ---- what a command leaves

-- the input couldn't be read
pub unread_ends : (P : Answering) (u0 u1 w : Option (List ℕ)) (m0 m1 n : ℕ) (e : OrNoMemory StreamFault)
    → CountsReadOrNone e m0 m1
    → Serves P (streams u0 w m0 n) (streams u1 w m1 n) (Err e)
unread_ends P u0 u1 w m0 m1 n NoMemory h = ((h, refl), refl)
unread_ends P u0 u1 w m0 m1 n (Fault (Read e)) h = (h, refl, refl)
unread_ends P u0 u1 w m0 m1 n (Fault (Write e)) h = absurd h

-- it was read, and its answer is written
module _ (P : Answering) (bytes : List ℕ) (u0 u1 w0 w1 : Option (List ℕ)) (m0 m1 n0 n1 : ℕ)
    (read : IfSome u0 (λ input. bytes ≡ take MOST_BYTES input)) (same : m1 ≡ m0) where
  pub answered : (r : Result ℕ (OrNoMemory StreamFault)) → Sends (P bytes) w0 w1 n0 n1 r
      → IfOk r (λ s. IsAnsweredSo P (streams u0 w0 m0 n0) (streams u1 w1 m1 n1) s)
  answered (Ok s) h = (bytes, h.0, read, h.1, h.2)
  answered (Err e) h = tt

  pub source_ends : (r : Result ℕ (OrNoMemory StreamFault)) → Sends (P bytes) w0 w1 n0 n1 r
      → Serves P (streams u0 w0 m0 n0) (streams u1 w1 m1 n1) r
  source_ends (Ok s) h = ((same, h.3), (bytes, h.0, read, h.1, h.2))
  source_ends (Err NoMemory) h = ((same, h.1), h.0)
  source_ends (Err (Fault (Read e))) h = absurd h.4
  source_ends (Err (Fault (Write e))) h = (same, h.4, (bytes, h.0, h.1, read, h.2, h.3))

-- a fault is handed on
pub handed_on_source : (P : Answering) (s t : Streams) (r : Result ℕ (OrNoMemory StreamFault))
    (e : OrNoMemory StreamFault) → IsErr r × IsErrAnd r (λ f. f ≡ e) → Serves P s t (Err e) → Serves P s t r
handed_on_source P s t (Ok status) e is h = absurd cc
handed_on_source P s t (Err f) e is h = subst (λ z. Serves P s t (Err z)) (sym is.1) h

-- ---- a run

-- what was printed first of a report
pub first_of : (j : meaning.Job) (r : Report) (es rest : List Event) → Means j r → r.events ≡ es ++ rest → AreFirst j es
first_of j r es rest means e other also = (
  rest,
  ap (λ z. z.events) (only_evaluated j other also ∙ sym (only_evaluated j r means)) ∙ e,
)

module _ (j : Job) (plain : j.asked.runs ≡ zero) (w0 w w1 : Option (List ℕ)) (n0 n n1 : ℕ) where
  it_is : (r : Report) → Means j.asked r → ReportsJob j (report_text (atom_names_of j) r) (run_status r.verdict)
  it_is r means = result (shrinking.report r) (shrinking.plain r plain means)

  pub run_printed : (p : PrintedRun) (s : ℕ) → HasPrinted j (choosing_of None j.asked) p w0 w1
      → s ≡ run_status p.verdict → n1 ≡ n0 → PrintsAnswer (ReportsJob j) w0 w1 n0 n1 (Ok s)
  run_printed p s h is kept = (
    report_text (atom_names_of j) h.0,
    subst (ReportsJob j (report_text (atom_names_of j) h.0)) (ap run_status h.2 ∙ sym is) (it_is h.0 h.1),
    h.4,
    kept,
  )

  pub run_stopped : (f : StreamFault) → HasStopped (Fault f) j (choosing_of None j.asked) w0 w1 n0 n1
      → PrintsAnswer (ReportsJob j) w0 w1 n0 n1 (Err f)
  run_stopped f h = (report_text (atom_names_of j) h.0, run_status h.0.verdict, it_is h.0 h.1, h.2.0, h.2.1)

  pub run_without_memory : (r : Result ℕ StreamFault) → HasStopped NoMemory j (choosing_of None j.asked) w0 w n0 n
      → PrintsAnswer IsNoMemory w w1 n n1 r → PrintsAnswer (ReportsJob j) w0 w1 n0 n1 r
  run_without_memory r h = by h.0 h.1 h.2
    where
      by : (x : Report) → Means j.asked x
          → (es : List Event) × (rest : List Event) × (x.events ≡ es ++ rest)
          × Appends w0 w (lines_text (atom_names_of j) es) × (n ≡ n0)
          → PrintsAnswer IsNoMemory w w1 n n1 r → PrintsAnswer (ReportsJob j) w0 w1 n0 n1 r
      by x means k =
          prints_after IsNoMemory (ReportsJob j) (lines_text (atom_names_of j) k.0) w0 w w1 n0 n n1 r k.3 k.4
          (λ t s is. rw (is.0, is.1) (out_of_memory k.0 plain (first_of j.asked x k.0 k.1 means k.2)))
