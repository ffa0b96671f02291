-- A run that is made again.
use Rattle.std.specs.Prelude.{◌≡◌, ◌⊎◌, ◌≤◌, ◌-◌, ℕ, Bool, true, false, List, Some, None, length, slice_get}
use Rattle.pf_model.specs.Configuration.{Configuration}
use Rattle.pf_model.specs.Labels.{Label}
use Rattle.pf_model.specs.Runs.{enabled}
use Rattle.pf_model.specs.declared.report.Actor.{Actor}
use Rattle.pf_system.specs.Steps.{Represents, SimulatesFrom}
use Rattle.pf_system.specs.View.{SystemView}
use Rattle.pf_process_status.specs.Fates.{Began}
use Rattle.pf_process_status.specs.Known.{checked_of}
use Rattle.pf_process_status.specs.declared.follow.Begun.{Begun}
use Rattle.pf_process_status.specs.declared.follow.Followed.{Followed}
use Rattle.pf_process_status.specs.declared.known.KnownRun.{KnownRun}

-- the actor of a choice went on within a limit of steps and showed this; or no step is left, or there is no such actor
abbrev pub HasGone : (limit choice : ℕ) → Configuration → SystemView → Label → SystemView → Bool → Type 0
HasGone limit i c s l s' true = (x : Actor) × (slice_get (enabled c) i ≡ Some x)
    × ((used : ℕ) × SimulatesFrom c (limit - s.steps) s x l used s')
HasGone limit i c s l s' false = (limit ≤ s.steps) ⊎ (slice_get (enabled c) i ≡ None)

-- each has its pid
abbrev pub AreByPid : List Begun → Type 0
AreByPid bs = (p : ℕ) (b : Begun) → slice_get bs p ≡ Some b → b.pid ≡ p

-- by pid the processes that there are in a configuration, each with the function in whose call it began, if that is
-- given
pub record AreBegun (k : KnownRun) (c : Configuration) (bs : List Begun) : Type 0 where
  pub count : length bs ≡ length c.core.processes
  pub pids : AreByPid bs
  pub each : (p : ℕ) (b : Begun) → slice_get bs p ≡ Some b → Began k p b.function

-- a run of a module was made to this configuration, and it is known in whose calls its processes began
pub record IsFollowed (k : KnownRun) (d : Configuration) (f : Followed) : Type 0 where
  pub module_is : f.system.checked ≡ checked_of k
  pub is_there : Represents f.system d
  pub begun : AreBegun k d f.begun.items
