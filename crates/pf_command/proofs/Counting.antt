-- Who still waits after a run that is reported.
use Rattle.std.proofs.Common.{◌≡◌, ℕ, zero, List, ◌++◌, Option, Result, Ok, Err, None, sym, ap, ◌∙◌, subst}
use Rattle.std.specs.Prelude.{IfOk, IfSome, take}
use Rattle.pf_errors.specs.declared.fault.OrNoMemory.{OrNoMemory}
use Rattle.pf_errors.specs.declared.fault.OrNoMemory.TheVariants.{NoMemory}
use Rattle.pf_streams.specs.declared.stream.StreamFault.{StreamFault}
use Rattle.pf_streams.proofs.Writes.{appends_both}
use Rattle.pf_model.specs.Text.{report_text}
use Rattle.pf_request.specs.Job.{Job}
use Rattle.pf_trace.specs.Written.{lines_text}
use Rattle.pf_sched.specs.Choosing.{choosing_of}
use Rattle.pf_sched.specs.Printing.{HasPrinted, HasStopped}
use Rattle.pf_sched.specs.Waiting.{waiting_in}
use Rattle.pf_sched.specs.declared.printing.PrintedRun.{PrintedRun}
use Rattle.pf_command.specs.Answers.{Counts, IsNoMemory, atom_names_of, reported_result, run_status, unreported}
use Rattle.pf_command.specs.Streams.{IsAnsweredSo, Answering, IsRefusedText, PrintsAnswer, Sends, WentOut, streams}
use Rattle.pf_command.specs.declared.serving.TheConstants.{MOST_BYTES}

module _ {E : Type 0} (P Q : List ℕ → ℕ → Type 0) (w0 w1 : Option (List ℕ)) (more : (t : List ℕ) (s : ℕ)
    → P t s → Q t s) where
  pub went_more : (r : Result ℕ E) → IfOk r (WentOut P w0 w1) → IfOk r (WentOut Q w0 w1)
  went_more (Ok s) h = (h.0, more h.0 s h.1, h.2)
  went_more (Err e) h = tt

-- what is reported of a refusal
pub went_refused : (P : List ℕ → ℕ → Type 0) (words : List ℕ) (w0 w1 : Option (List ℕ)) (n0 n1 : ℕ)
    → ((t : List ℕ) → P t 2) → (r : Result ℕ (OrNoMemory StreamFault))
    → Sends (IsRefusedText words) w0 w1 n0 n1 r → IfOk r (WentOut P w0 w1)
went_refused P words w0 w1 n0 n1 f (Ok s) h = (h.0, subst (P h.0) (sym h.1.1) (f h.0), h.2)
went_refused P words w0 w1 n0 n1 f (Err e) h = tt

module _ (j : Job) (plain : j.asked.runs ≡ zero) (old : ℕ) (w0 w w1 : Option (List ℕ)) (n0 n n1 : ℕ) where
  pub run_counted : (p : PrintedRun) (s : ℕ) → HasPrinted j (choosing_of None j.asked) p w0 w1
      → s ≡ run_status p.verdict → WentOut (Counts j old p.waiting) w0 w1 s
  run_counted p s h is = (
    report_text (atom_names_of j) h.0,
    subst (λ k. Counts j old k (report_text (atom_names_of j) h.0) s) (sym h.3)
        (subst (Counts j old (waiting_in h.0) (report_text (atom_names_of j) h.0)) (ap run_status h.2 ∙ sym is)
        (reported_result h.0 plain h.1)),
    h.4,
  )

  pub run_uncounted : (r : Result ℕ StreamFault) → HasStopped NoMemory j (choosing_of None j.asked) w0 w n0 n
      → PrintsAnswer IsNoMemory w w1 n n1 r
      → IfOk r (WentOut (Counts j old old) w0 w1)
  run_uncounted (Ok s) h reported =
      let lines = lines_text (atom_names_of j) h.2.0 in (
        lines ++ reported.0,
        subst (Counts j old old (lines ++ reported.0)) (sym reported.1.1) (unreported (lines ++ reported.0)),
        appends_both w0 w w1 lines reported.0 h.2.3 reported.2,
      )
  run_uncounted (Err e) h reported = tt

-- ---- between a reader and a writer

module _ (P : Answering) (bytes : List ℕ) (u0 u1 w0 w1 : Option (List ℕ)) (m0 m1 n0 n1 : ℕ)
    (read : IfSome u0 (λ input. bytes ≡ take MOST_BYTES input)) where
  pub answered_so : (r : Result ℕ (OrNoMemory StreamFault)) → IfOk r (WentOut (P bytes) w0 w1)
      → IfOk r (λ s. IsAnsweredSo P (streams u0 w0 m0 n0) (streams u1 w1 m1 n1) s)
  answered_so (Ok s) h = (bytes, h.0, read, h.1, h.2)
  answered_so (Err e) h = tt
