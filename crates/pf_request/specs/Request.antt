-- Requests: what is asked for of a module.
use Rattle.std.specs.Prelude.{ℕ, zero, Bool, true, ◌&&◌, nat_le, List, length}
use Rattle.pf_model.specs.Meaning.{Choices, seed, schedule, weighted_seed}
use Rattle.pf_model.specs.Limits.{is_in_range}
use Rattle.pf_shrink.specs.declared.hunt.TheConstants.{MOST_RUNS}

-- one run by choices, or the shrinking of a schedule within n runs
pub data RequestKind : Type 0 where
  run : Choices → RequestKind
  shrink : (schedule : List ℕ) (runs : ℕ) → RequestKind

-- a run or a shrinking is asked for: from the function of this name, whether the property of these bytes holds, each
-- run within n steps
pub record Request : Type 0 where
  pub root : List ℕ
  pub property : List ℕ
  pub kind : RequestKind
  pub limit : ℕ

-- the choices of the run, or of the first run of a shrinking
abbrev pub choices_in : RequestKind → Choices
choices_in (run cs) = cs
choices_in (shrink ns k) = schedule ns

-- how many runs are asked for: none of a run, n of a shrinking
abbrev pub runs_in : RequestKind → ℕ
runs_in (run cs) = zero
runs_in (shrink ns k) = k

-- ---- what is within bounds

-- how many numbers are given with choices: those of a schedule
abbrev pub count_of : Choices → ℕ
count_of (seed n) = 0
count_of (schedule ns) = length ns
count_of (weighted_seed n process channel) = 0

-- weights are from 1 to 9
abbrev pub may_weigh : Choices → Bool
may_weigh (seed n) = true
may_weigh (schedule ns) = true
may_weigh (weighted_seed n process channel) =
    nat_le 1 process && (nat_le process 9 && (nat_le 1 channel && nat_le channel 9))

-- a shrinking has from 1 to MOST_RUNS runs
abbrev pub may_shrink : RequestKind → Bool
may_shrink (run cs) = true
may_shrink (shrink ns k) = nat_le 1 k && nat_le k MOST_RUNS

-- the limit, the numbers of a schedule and the runs of a shrinking are within their bounds
abbrev pub is_within : Request → Bool
is_within r = is_in_range r.limit (count_of (choices_in r.kind)) && may_shrink r.kind
