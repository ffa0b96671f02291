-- What an exploration of the schedules of a job says.
use Rattle.std.specs.Prelude.{◌≡◌, ℕ, zero, suc, Bool, true, Option, None, Some, IfSome}
use Rattle.pf_model.specs.Reports.{view_of_report}
use Rattle.pf_explore_laws.specs.Last.{HoldsByEachLast, HoldsWithinLast}
use Rattle.pf_explore.specs.Asked.{LastJob}
use Rattle.pf_explore.specs.Failing.{IsFailingLast}
use Rattle.pf_explore.specs.Steps.{StepsAreWithin}
use Rattle.pf_explore.specs.declared.explored.Explored.{Explored}
use Rattle.pf_explore.specs.declared.explored.Explored.TheVariants.{NoneFails, Fails, NotAllSeen}
use Rattle.pf_explore.specs.declared.explored.Unseen.{Unseen}
use Rattle.pf_explore.specs.declared.explored.Unseen.TheVariants.{Budget, Stopped, Deviations}

-- how often a run of the last of so many levels deviates at most
abbrev pub last_level : (levels : ℕ) → Option ℕ
last_level zero = None
last_level (suc k) = Some k

-- an exploration ends before it has seen all where it made as many runs as it may, where it is stopped, if it may be,
-- or after its last level
abbrev pub MayEnd : (may_stop : Bool) → (budget levels runs : ℕ) → (within : Option ℕ) → Unseen → Type 0
MayEnd may_stop budget levels runs within Budget = runs ≡ budget
MayEnd may_stop budget levels runs within Stopped = may_stop ≡ true
MayEnd may_stop budget levels runs within Deviations = within ≡ last_level levels

-- the property holds by each schedule where a process that is named goes last, and no run has more steps; or it fails
-- by this one; or it holds by each that deviates at most so often
abbrev pub IsExplored : LastJob → (may_stop : Bool) → (budget levels : ℕ) → Explored → Type 0
IsExplored a may_stop budget levels (NoneFails runs steps) =
    HoldsByEachLast a.last a.job × StepsAreWithin a.last steps a.job
IsExplored a may_stop budget levels (Fails report runs) = IsFailingLast a.last a.job (view_of_report report)
IsExplored a may_stop budget levels (NotAllSeen within runs cause) =
    IfSome within (λ k. HoldsWithinLast a.last k a.job) × MayEnd may_stop budget levels runs within cause
