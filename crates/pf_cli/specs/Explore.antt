-- How far an exploration goes, by its words.
use Rattle.std.specs.Prelude.{ℕ, List, Option, Some, None, ◌&&◌, option_map, option_and_then, nat_le, if◌then◌else◌}
use Rattle.pf_text.specs.Numbers.{number_of_digits, long_number_of}
use Rattle.pf_request.specs.Request.{Request}

-- how far an exploration goes: within so many runs, for so many seconds if a time is named, and with so many deviations
-- at most, if any are named
pub record ExploreReach : Type 0 where
  pub budget : ℕ
  pub time : Option ℕ
  pub deviations : Option ℕ

-- an exploration is asked for: of the run of a request, in whose place those by its schedules go, where a process goes
-- last, if one is named; and within how many runs a schedule that fails is shrunk, if it is
pub record ExploreArgs : Type 0 where
  pub request : Request
  pub edition : ℕ
  pub last : Option ℕ
  pub reach : ExploreReach
  pub runs : Option ℕ

-- a budget is above 0
abbrev pub as_budget : ℕ → Option ℕ
as_budget n = if nat_le 1 n then Some n else None

-- where none is named it is 2,000,000
abbrev pub budget_named : Option (List ℕ) → Option ℕ
budget_named None = Some 2000000
budget_named (Some word) = option_and_then as_budget (long_number_of word)

-- no run deviates oftener than it has steps
abbrev pub as_deviations : ℕ → Option ℕ
as_deviations n = if nat_le n 100000 then Some n else None

-- where none are named a run may deviate as often as it can
abbrev pub deviations_named : Option (List ℕ) → Option (Option ℕ)
deviations_named None = Some None
deviations_named (Some word) = option_map Some (option_and_then as_deviations (number_of_digits word))

abbrev pub explore_reach : (budget : Option ℕ) → (time deviations : Option (Option ℕ)) → Option ExploreReach
explore_reach (Some budget) (Some time) (Some deviations) =
    Some (record { budget = budget; time = time; deviations = deviations })
explore_reach _ _ _ = None

-- a shrinking is within 1 to 1,000 runs
abbrev pub as_runs : ℕ → Option ℕ
as_runs n = if nat_le 1 n && nat_le n 1000 then Some n else None

-- where none are named nothing is shrunk
abbrev pub runs_named : Option (List ℕ) → Option (Option ℕ)
runs_named None = Some None
runs_named (Some word) = option_map Some (option_and_then as_runs (number_of_digits word))
