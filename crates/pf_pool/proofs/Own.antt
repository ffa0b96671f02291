-- A trial whose job waits is of that job.
use Rattle.std.proofs.Common.{◌≡◌, ℕ, List, Option, Some, None, sym, ◌∙◌}
use Rattle.std.specs.Prelude.{IfSome}
use Rattle.pf_request.specs.Job.{Job}
use Rattle.pf_desks.specs.Desk.{TrialState, queued, running, done, Trial, held_at}
use Rattle.pf_book.specs.Queued.{job_in_state, job_of_trial, job_at}
use Rattle.pf_book.specs.Trials.{JobAt}

job_queued : (x : Trial) (s : TrialState) (j : Job) → job_in_state x.job s ≡ Some j → x.job ≡ j
job_queued x queued j h = cc
job_queued x running j h = absurd (cc)
job_queued x (done r) j h = absurd (cc)

own_trial : (o : Option Trial) (j k : Job) → job_of_trial o ≡ Some j → k ≡ j → IfSome o (λ x. k ≡ x.job)
own_trial None j k h same = absurd (cc)
own_trial (Some x) j k h same = same ∙ sym (job_queued x x.state j h)

pub own_job : (ts : List (Option Trial)) (t : ℕ) (j k : Job) → job_at ts t ≡ Some j → k ≡ j → JobAt ts t k
own_job ts t j k h same = own_trial (held_at ts t) j k h same
