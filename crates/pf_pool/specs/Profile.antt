-- Profiles that are right: desks and jobs mean to them what they do in the language, and jobs have the events that they
-- have in it.
use Rattle.std.specs.Prelude.{◌≡◌, ℕ}
use Rattle.pf_model.specs.Meaning.{Job}
use Rattle.pf_sched.specs.Events.{HasEvents}
use Rattle.pf_book.specs.Profile as book
use Rattle.pf_world.specs.World.{RunProfile}

-- the profile of desks is right; whatever number of events a job has, it has that to the profile
pub record IsRight (p : RunProfile) : Type 0 where
  pub desks : book.IsRight p.profile
  pub events : (j : Job) (n : ℕ) → HasEvents j n → p.events j ≡ n

-- it holds for each profile that is right
abbrev pub ForRight : (RunProfile → Type 0) → Type 0
ForRight P = (p : RunProfile) → IsRight p → P p
