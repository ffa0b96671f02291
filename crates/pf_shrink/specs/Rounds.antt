-- Rounds of a search: a schedule that fails, and those of its candidates that are left.
use Rattle.std.specs.Prelude.{ℕ, zero, suc, List, [], ◌∷◌, Option, Some, None, All}
use Rattle.pf_model.specs.Shrinking.{with_beginnings, candidates}
use Rattle.pf_model.specs.Laws.{IsSmaller}

pub record Round : Type 0 where
  pub schedule : List ℕ
  pub left : List (List ℕ)

abbrev pub round : List ℕ → List (List ℕ) → Round
round ns cs = record { schedule = ns; left = cs }

-- the first of some schedules
abbrev pub first_schedule : List (List ℕ) → Option (List ℕ)
first_schedule [] = None
first_schedule (c ∷ cs) = Some c

-- all candidates of a schedule are left
abbrev pub round_begun : List ℕ → Round
round_begun ns = round ns (candidates ns)

-- the next candidate doesn't fail
abbrev pub passed_over : List ℕ → List (List ℕ) → Round
passed_over ns [] = round ns []
passed_over ns (c ∷ cs) = round ns cs

abbrev pub round_passed : Round → Round
round_passed r = passed_over r.schedule r.left

-- the next candidate fails, or where none is left the schedule itself: it is the schedule, and all begins
abbrev pub taken_of : List ℕ → List (List ℕ) → Round
taken_of ns [] = round_begun ns
taken_of ns (c ∷ cs) = round_begun c

abbrev pub round_taken : Round → Round
round_taken r = taken_of r.schedule r.left

-- no candidate is left
abbrev pub given_up : Round → Round
given_up r = round r.schedule []

-- each candidate that is left is smaller than the schedule
abbrev pub AreSmaller : Round → Type 0
AreSmaller r = All (λ c. IsSmaller c r.schedule) r.left

-- those of some changes of a schedule that leave its first i numbers as they are
abbrev pub from_position : (List ℕ → List (List ℕ)) → (i : ℕ) → List ℕ → List (List ℕ)
from_position changed zero ns = changed ns
from_position changed (suc i) [] = []
from_position changed (suc i) (n ∷ ns) = with_beginnings n (from_position changed i ns)
