-- Desks stay within their limits.
use Rattle.std.specs.Prelude.{ℕ, List, []}
use Rattle.pf_quota.specs.Checks.{IsWithinLimits}
use Rattle.pf_desks.specs.Desk.{Profile, Desk}
use Rattle.pf_desks.specs.Calls.{usage_in}
use Rattle.pf_desks.specs.History.{IsLegalDesk}
use Rattle.pf_desks.specs.Desks.{DeskStep, desk_at}
use Rattle.pf_desks.specs.Legality.{after_steps}

-- what a desk uses passes none of the limits of its edition: modules, bytes, trials, steps and calls
abbrev pub IsInLimits : Desk → Type 0
IsInLimits d = IsWithinLimits d.edition (usage_in d)

-- each desk whose history is legal is within its limits, whoever made its calls and did its work
abbrev pub LegalDesksAreInLimits : Type 0
LegalDesksAreInLimits = (p : Profile) (d : Desk) → IsLegalDesk p d → IsInLimits d

-- whatever steps there are, from no open desk, the desk of each project is within its limits
abbrev pub StaysInLimits : Type 0
StaysInLimits = (p : Profile) (q : ℕ) (ss : List DeskStep) → IsInLimits (desk_at q (after_steps p [] ss))
