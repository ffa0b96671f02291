-- The laws of hunts.
use Rattle.std.specs.Prelude.{◌≡◌, ◌≤◌, ◌-◌, ◌↔◌, ℕ, List, Option, true}
use Rattle.pf_model.specs.Meaning.{Job, Report}
use Rattle.pf_strategy.specs.declared.strategy.Strategy.{Strategy}
use Rattle.pf_hunt.specs.Hunts.{Failures, FirstFailing, FirstLeaking, Tallies}
use Rattle.pf_hunt.specs.Rows.{OutcomeRow, seeds_counted, is_like, rows_joined}

-- seeds have one answer only
abbrev pub OneFirst : Type 0
OneFirst =
    (f : Failures) (w : Strategy) (j : Job) (a b : ℕ) (x y : Option (ℕ × Report)) → FirstFailing f w j a b x
    → FirstFailing f w j a b y → x ≡ y

abbrev pub OneLeak : Type 0
OneLeak = (w : Strategy) (j : Job) (a b : ℕ) (x y : Option (ℕ × ℕ)) → FirstLeaking w j a b x
    → FirstLeaking w j a b y → x ≡ y

abbrev pub OneTally : Type 0
OneTally = (w : Strategy) (j : Job) (a b : ℕ) (xs ys : List OutcomeRow) → Tallies w j a b xs
    → Tallies w j a b ys → xs ≡ ys

-- each seed is counted once
abbrev pub EachIsCounted : Type 0
EachIsCounted = (w : Strategy) (j : Job) (a b : ℕ) (rows : List OutcomeRow) → Tallies w j a b rows
    → seeds_counted rows ≡ b - a

-- rows are joined if they are of one outcome with one verdict, and only then
abbrev pub LikeIsSame : Type 0
LikeIsSame = (x y : OutcomeRow) → (is_like x y ≡ true) ↔ ((x.verdict ≡ y.verdict) × (x.outcome ≡ y.outcome))

-- the rows of two parts, one after the other, are those of the whole
abbrev pub PartsAreTheWhole : Type 0
PartsAreTheWhole =
    (w : Strategy) (j : Job) (a c b : ℕ) (xs ys : List OutcomeRow) → a ≤ c → c ≤ b → Tallies w j a c xs
    → Tallies w j c b ys → Tallies w j a b (rows_joined xs ys)
