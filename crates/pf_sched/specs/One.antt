-- That a job has one result and one number of events.
use Rattle.std.specs.Prelude.{◌≡◌, ℕ}
use Rattle.pf_model.specs.Meaning as model
use Rattle.pf_model.specs.Shrinking.{Result, IsResult}
use Rattle.pf_request.specs.Job.{Job}
use Rattle.pf_sched.specs.Asked.{IsValid}
use Rattle.pf_sched.specs.Events.{HasEvents}

-- whatever is asked for, a run or a shrinking, it has one result only
abbrev pub OneResult : Type 0
OneResult = (j : model.Job) (r s : Result) → IsResult j r → IsResult j s → r ≡ s

-- and has one number of events only
abbrev pub OneCount : Type 0
OneCount = (j : model.Job) (n m : ℕ) → HasEvents j n → HasEvents j m → n ≡ m

-- each valid job has some result
abbrev pub SomeResult : Type 0
SomeResult = (j : Job) → IsValid j → (r : Result) × IsResult j.asked r

-- and has some number of events
abbrev pub SomeCount : Type 0
SomeCount = (j : Job) → IsValid j → (n : ℕ) × HasEvents j.asked n
