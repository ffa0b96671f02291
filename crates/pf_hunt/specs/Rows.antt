-- Rows: outcomes that were met, and how often.
use Rattle.std.specs.Prelude.{ℕ, ◌+◌, Bool, true, false, ◌&&◌, nat_eq, if◌then◌else◌, List, [], ◌∷◌, Option, Some, None}
use Rattle.std.specs.Cmp.Lexicographic.{pointwise}
use Rattle.pf_terms.specs.Value.{same}
use Rattle.pf_model.specs.Meaning.{Report}
use Rattle.pf_model.specs.Shrinking.{is_failure}
use Rattle.pf_model.specs.Properties.{Outcome, finished, ended, deadlock, limit, memory}

-- an outcome with the verdict of the property, by how many seeds it was met, and the least of these
pub record OutcomeRow : Type 0 where
  pub verdict : Option Bool
  pub outcome : Outcome
  pub count : ℕ
  pub least : ℕ

-- the row of one run by a seed
abbrev pub met : (s : ℕ) → Report → OutcomeRow
met s r = record { verdict = r.verdict; outcome = r.outcome; count = 1; least = s }

-- ---- sameness

abbrev pub same_bool : Bool → Bool → Bool
same_bool true b = b
same_bool false b = if b then false else true

abbrev pub same_verdict : Option Bool → Option Bool → Bool
same_verdict None w = elim w [ None ↦ true | Some b ↦ false ]
same_verdict (Some a) w = elim w [ None ↦ false | Some b ↦ same_bool a b ]

abbrev pub same_outcome : Outcome → Outcome → Bool
same_outcome (finished v) o = elim o [ finished w ↦ same v w | _ ↦ false ]
same_outcome (ended v) o = elim o [ ended w ↦ same v w | _ ↦ false ]
same_outcome (deadlock ps) o = elim o [ deadlock qs ↦ pointwise nat_eq ps qs | _ ↦ false ]
same_outcome limit o = elim o [ limit ↦ true | _ ↦ false ]
same_outcome memory o = elim o [ memory ↦ true | _ ↦ false ]

-- two rows are of one outcome with one verdict
abbrev pub is_like : OutcomeRow → OutcomeRow → Bool
is_like x y = same_verdict x.verdict y.verdict && same_outcome x.outcome y.outcome

-- ---- counting

-- a row that counts another's seeds too
abbrev pub more_often : OutcomeRow → (times : ℕ) → OutcomeRow
more_often x n = record x { count = x.count + n }

-- the rows, with what one more counts: it is added to the row of its outcome, or is after them all
abbrev pub with_row : List OutcomeRow → OutcomeRow → List OutcomeRow
with_row [] y = y ∷ []
with_row (x ∷ xs) y = if is_like x y then more_often x y.count ∷ xs else x ∷ with_row xs y

-- the rows of two parts, of which the second is after the first
abbrev pub rows_joined : (first second : List OutcomeRow) → List OutcomeRow
rows_joined xs [] = xs
rows_joined xs (y ∷ ys) = rows_joined (with_row xs y) ys

-- how many seeds the rows count in all
abbrev pub seeds_counted : List OutcomeRow → ℕ
seeds_counted [] = 0
seeds_counted (x ∷ xs) = x.count + seeds_counted xs

-- how many of the seeds that a row counts, or that rows count in all, fail the property
abbrev pub failures_of : OutcomeRow → ℕ
failures_of x = if is_failure x.verdict then x.count else 0

abbrev pub failures_in : List OutcomeRow → ℕ
failures_in [] = 0
failures_in (x ∷ xs) = failures_of x + failures_in xs
