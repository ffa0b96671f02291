-- Whose job is filed.
use Rattle.std.specs.Prelude.{◌≡◌, ◌⊎◌, ℕ, false, List, Option, IfSome}
use Rattle.pf_request.specs.Job.{Job}
use Rattle.pf_desks.specs.Desk.{Trial, held_at}
use Rattle.pf_desks.specs.Work.{is_running}

-- the trial of a ticket, where there is one, is of this job
abbrev pub JobAt : List (Option Trial) → ℕ → Job → Type 0
JobAt ts t j = IfSome (held_at ts t) (λ x. j ≡ x.job)

-- the trial of a ticket is there, and is of another job
abbrev pub AnotherJobAt : List (Option Trial) → ℕ → Job → Type 0
AnotherJobAt ts t j = JobAt ts t j → ⊥

-- a job's result can't be filed: the trial of the ticket isn't running, or is of another job
abbrev pub IsStrayJob : List (Option Trial) → ℕ → Job → Type 0
IsStrayJob ts t j = (is_running (held_at ts t) ≡ false) ⊎ AnotherJobAt ts t j
