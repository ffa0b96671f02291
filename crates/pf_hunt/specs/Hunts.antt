-- Hunts: the results of the runs by many seeds, by a strategy.
use Rattle.std.specs.Prelude.{◌≡◌, ◌<◌, ◌≤◌, ℕ, suc, Bool, true, false, ◌&&◌, ◌||◌, nat_lt, List, [], Option, Some}
use Rattle.std.specs.Prelude.{None, option_map}
use Rattle.std.specs.List.{list_any}
use Rattle.pf_model.specs.Meaning.{Job, Report}
use Rattle.pf_model.specs.Properties.{Property}
use Rattle.pf_model.specs.Shrinking.{is_failure}
use Rattle.pf_sched.specs.Waiting.{waiting_in}
use Rattle.pf_strategy.specs.Strategies.{MeansBySeed}
use Rattle.pf_strategy.specs.declared.strategy.Strategy.{Strategy}
use Rattle.pf_verdicts.specs.Causes.{fails_by}
use Rattle.pf_hunt.specs.Rows.{OutcomeRow, met, with_row}

-- ---- the first of many

-- of the seeds from a to before b the run of none is so
abbrev pub NoneIs : (so : Report → Bool) → Strategy → Job → (a b : ℕ) → Type 0
NoneIs so w j a b = (s : ℕ) (r : Report) → a ≤ s → s < b → MeansBySeed w j s r → so r ≡ false

-- of the seeds from a to before b the least whose run is so, with the report of that run; or none
pub data IsFirstSo (so : Report → Bool) (w : Strategy) (j : Job) (a b : ℕ) : Option (ℕ × Report) → Type 0 where
  none_is : NoneIs so w j a b → IsFirstSo so w j a b None
  first : (s : ℕ) (r : Report) → a ≤ s → s < b → MeansBySeed w j s r → so r ≡ true → NoneIs so w j a s
      → IsFirstSo so w j a b (Some (s, r))

-- ---- failures and leaks

-- processes still wait at the end of a run though its root returned
abbrev pub is_leak : Report → Bool
is_leak r = nat_lt 0 (waiting_in r)

-- what makes a run fail beside its job's property: one of further properties, and leaks where they are failures too
pub record Failures : Type 0 where
  pub further : List Property
  pub leaks : Bool

-- no further property
abbrev pub only_leaks : (leaks : Bool) → Failures
only_leaks leaks = record { further = []; leaks = leaks }

-- nothing else
abbrev pub property_alone : Failures
property_alone = only_leaks false

-- a run fails: its property does, or a further one; or, where leaks are failures too, processes still wait though its
-- root returned
abbrev pub fails : Failures → Report → Bool
fails f r = is_failure r.verdict || (list_any (fails_by r) f.further || (f.leaks && is_leak r))

-- of the seeds from a to before b the least whose run fails, with the report of that run; or none
abbrev pub FirstFailing : Failures → Strategy → Job → (a b : ℕ) → Option (ℕ × Report) → Type 0
FirstFailing f = IsFirstSo (fails f)

-- of the seeds from a to before b the least whose root returned while processes still waited, and how many did; or none
abbrev pub FirstLeaking : Strategy → Job → (a b : ℕ) → Option (ℕ × ℕ) → Type 0
FirstLeaking w j a b o = (x : Option (ℕ × Report)) × IsFirstSo is_leak w j a b x
    × (o ≡ option_map (λ p. (p.0, waiting_in p.1)) x)

-- up to where seeds were looked at: with the one that fails, or to before b
abbrev pub looked_to : (b : ℕ) → Option (ℕ × Report) → ℕ
looked_to b None = b
looked_to b (Some f) = suc f.0

-- ---- rows

-- the rows of the runs by the seeds from a to before b, which are counted one after another
pub data Tallies (w : Strategy) (j : Job) (a : ℕ) : (b : ℕ) → List OutcomeRow → Type 0 where
  no_seed : (b : ℕ) → b ≤ a → Tallies w j a b []
  and_seed : (b : ℕ) (rows : List OutcomeRow) (r : Report) → a ≤ b → Tallies w j a b rows → MeansBySeed w j b r
      → Tallies w j a (suc b) (with_row rows (met b r))

-- ---- how far

-- SearchedTo may_stop a b c: a hunt over the seeds from a to before b went to before c: to its end; or, if it may stop,
-- less far, but past its first seed
pub data SearchedTo (may_stop : Bool) (a b : ℕ) : (c : ℕ) → Type 0 where
  to_end : SearchedTo may_stop a b b
  less_far : (c : ℕ) → may_stop ≡ true → a < c → c < b → SearchedTo may_stop a b c
