-- How a round is kept in one list of numbers: it differs from the schedule by the next candidate.
use Rattle.std.specs.Prelude.{◌≡◌, ℕ, suc, ◌<◌, ◌/◌, List, [], ◌++◌, length, take, drop, slice_index, slice_set}
use Rattle.std.specs.List.{slice_rotate_right}
use Rattle.pf_model.specs.Shrinking.{without_one, halved, candidates}
use Rattle.pf_shrink.specs.Rounds.{Round, round, from_position}
use Rattle.pf_shrink.specs.declared.round.Position.{Position}
use Rattle.pf_shrink.specs.declared.round.Position.TheVariants.{WithoutLast, Without, Halved, End}

-- with the last number moved to position i
abbrev pub with_last_at : (i : ℕ) → List ℕ → List ℕ
with_last_at i ns = take i ns ++ slice_rotate_right (drop i ns) 1

-- the schedule
abbrev pub schedule_in : List ℕ → Position → List ℕ
schedule_in ns WithoutLast = ns
schedule_in ns (Without i) = with_last_at i ns
schedule_in ns (Halved i n) = slice_set ns i n
schedule_in ns End = ns

-- the candidates of a schedule from this position on
abbrev pub candidates_from : Position → List ℕ → List (List ℕ)
candidates_from WithoutLast ns = candidates ns
candidates_from (Without i) ns = from_position without_one i ns ++ halved ns
candidates_from (Halved i n) ns = from_position halved i ns
candidates_from End ns = []

abbrev pub candidates_left : List ℕ → Position → List (List ℕ)
candidates_left ns p = candidates_from p (schedule_in ns p)

abbrev pub round_kept : List ℕ → Position → Round
round_kept ns p = round (schedule_in ns p) (candidates_left ns p)

-- there is such a candidate
abbrev pub IsPositionOf : List ℕ → Position → Type 0
IsPositionOf ns WithoutLast = 0 < length ns
IsPositionOf ns (Without i) = suc i < length ns
IsPositionOf ns (Halved i n) = (i < length ns) × (0 < n) × (slice_index ns i ≡ n / 2)
IsPositionOf ns End = Unit {0}
