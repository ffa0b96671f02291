-- Usage as the sums over what is held, and what a charge and a refund make of it.
use Rattle.std.specs.Prelude.{ℕ, ◌+◌, ◌-◌, ◌≤◌, List}
use Rattle.std.specs.List.{sum_by}
use Rattle.pf_quota.specs.declared.charges.Charge.{Charge}
use Rattle.pf_quota.specs.declared.charges.Charge.TheVariants as charge
use Rattle.pf_quota.specs.declared.charges.Holding.{Holding}
use Rattle.pf_quota.specs.declared.charges.Holding.TheVariants as held
use Rattle.pf_quota.specs.declared.usage.Usage.{Usage}

-- how many modules a held thing is
abbrev pub module_count : Holding → ℕ
module_count (held.Module bytes) = 1
module_count (held.Trial steps) = 0

-- the bytes of source in a held thing
abbrev pub byte_count : Holding → ℕ
byte_count (held.Module bytes) = bytes
byte_count (held.Trial steps) = 0

-- how many trials a held thing is
abbrev pub trial_count : Holding → ℕ
trial_count (held.Module bytes) = 0
trial_count (held.Trial steps) = 1

-- the steps of a held thing
abbrev pub step_count : Holding → ℕ
step_count (held.Module bytes) = 0
step_count (held.Trial steps) = steps

-- the usage of a project that holds these things and has logged n calls: the sums over the things
abbrev pub usage_of : List Holding → ℕ → Usage
usage_of things calls = record {
  modules = sum_by module_count things;
  bytes = sum_by byte_count things;
  trials = sum_by trial_count things;
  steps = sum_by step_count things;
  calls = calls;
}

-- the charge of a thing
abbrev pub charge_of : Holding → Charge
charge_of (held.Module bytes) = charge.Module bytes
charge_of (held.Trial steps) = charge.Trial steps

-- usage with what a charge takes
abbrev pub charged : Usage → Charge → Usage
charged usage charge.Call = record usage { calls = usage.calls + 1 }
charged usage (charge.Module bytes) = record usage { modules = usage.modules + 1; bytes = usage.bytes + bytes }
charged usage (charge.Trial steps) = record usage { trials = usage.trials + 1; steps = usage.steps + steps }

-- usage without what a held thing took
abbrev pub refunded : Usage → Holding → Usage
refunded usage (held.Module bytes) = record usage { modules = usage.modules - 1; bytes = usage.bytes - bytes }
refunded usage (held.Trial steps) = record usage { trials = usage.trials - 1; steps = usage.steps - steps }

-- usage has at least what a held thing took
abbrev pub Covers : Usage → Holding → Type 0
Covers usage (held.Module bytes) = (1 ≤ usage.modules) × (bytes ≤ usage.bytes)
Covers usage (held.Trial steps) = (1 ≤ usage.trials) × (steps ≤ usage.steps)
