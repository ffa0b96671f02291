use Rattle.std.proofs.Common.{◌≡◌, ◌+◌, ℕ}
use Rattle.std.specs.Prelude.{drop}
use Rattle.pf_strategy.specs.Keys.{keys_among}
use Rattle.pf_strategy.specs.Places.{KeepsPlace}
use Rattle.pf_strategy.proofs.priorities.keeps_place.Given as goal

-- what is known of the keys from the index on is known of all, as those before it are the same
abbrev pub invariant-loop-at : goal.invariant-loop-at
invariant-loop-at l =
    (m : ℕ) → m + l.at ≡ l.index
    → KeepsPlace (drop l.at (keys_among l.pids l.channels)) (drop l.at l.holders) m
    → KeepsPlace (keys_among l.pids l.channels) l.holders l.index
