-- What a run that is asked for ends as, before it is printed.
use Rattle.std.proofs.Common.{ℕ, List, Ok, Err, sym, subst}
use Rattle.pf_errors.specs.Codes.{code_text, refusal_text}
use Rattle.pf_errors.specs.declared.code.Code.{Code}
use Rattle.pf_check.specs.Module.{ReadModule}
use Rattle.pf_check.specs.Reads.{Reads}
use Rattle.pf_check.specs.Reads as reads
use Rattle.pf_check.specs.Reading.{IsModuleOf}
use Rattle.pf_request.specs.Job.{Job}
use Rattle.pf_sched.specs.Asked.{Asks}
use Rattle.pf_cli.specs.Args.{RunArgs}
use Rattle.pf_command.specs.Answers.{Counts, Refuses, ReportsJob, counted, job_refused, refused_before, reported}
use Rattle.pf_command.specs.Answers.{shrunk, source_refused}
use Rattle.pf_command.specs.AskedRuns.{RunAnswers, RunCounts, RunsAs, asked, refused}
use Rattle.pf_command.specs.Printed.{JobEndsAs, RunEndsAs}
use Rattle.pf_command.specs.declared.answer.Output.{Output}
use Rattle.pf_command.specs.declared.answers.Answer.{Answer}
use Rattle.pf_command.specs.declared.answers.Answer.TheVariants.{Reported, Run, Found}

-- the answer of a job, or its run
module _ (a : RunArgs) (bytes : List ℕ) (m : ReadModule) (j : Job) (of : IsModuleOf bytes m)
    (asks : Asks m a.edition a.request (Ok j)) where
  pub job_runs_so : (x : Answer) → JobEndsAs a.by_seed j x → RunEndsAs a bytes x
  job_runs_so (Reported o) h = (
    reported m j o.text.items o.status of (asked j j asks h.0) h.2,
    λ old. counted m j old bytes o.text.items o.status of (asked j j asks h.0) (shrunk o.text.items o.status h.1),
  )
  job_runs_so (Run r) h = λ k runs. by k (rw (h.0, h.1) at runs)
    where
      by : (k : Job) → RunsAs a.by_seed j k
          → ((text : List ℕ) (status : ℕ) → ReportsJob k text status → RunAnswers a bytes text status)
          × ((old new : ℕ) (text : List ℕ) (status : ℕ) → Counts k old new text status
          → RunCounts a old new bytes text status)
      by k runs = (
        (λ t s is. reported m k t s of (asked j k asks runs) is),
        (λ old new t s is. counted m k new bytes t s of (asked j k asks runs) is),
      )
  job_runs_so (Found f) h = absurd h

-- a refusal
module _ (a : RunArgs) (bytes : List ℕ) where
  pub job_refused_so : (m : ReadModule) → IsModuleOf bytes m → (code : Code) → Asks m a.edition a.request (Err code)
      → (o : Output) → Refuses o (code_text code) → RunEndsAs a bytes (Reported o)
  job_refused_so m of code asks o is = (
    rw (is.0, is.1) (job_refused m code of (refused code asks)),
    λ old. subst (RunCounts a old old bytes o.text.items) (sym is.1) (refused_before bytes o.text.items),
  )

  pub source_refused_so : (code : Code) (offset : ℕ) → Reads bytes (reads.refused code offset)
      → (o : Output) → Refuses o (refusal_text code offset) → RunEndsAs a bytes (Reported o)
  source_refused_so code offset is_refused o is = (
    rw (is.0, is.1) (source_refused code offset is_refused),
    λ old. subst (RunCounts a old old bytes o.text.items) (sym is.1) (refused_before bytes o.text.items),
  )
