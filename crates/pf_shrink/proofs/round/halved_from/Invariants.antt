use Rattle.std.proofs.Common.{◌≡◌}
use Rattle.pf_model.specs.Shrinking.{halved}
use Rattle.pf_shrink.specs.Rounds.{from_position}
use Rattle.pf_shrink.proofs.round.halved_from.Given as goal

-- the numbers before this position from the start on are 0
abbrev pub invariant-loop-at : goal.invariant-loop-at
invariant-loop-at l = (l.numbers ≡ l.fn.numbers)
    × (from_position halved l.at l.numbers ≡ from_position halved l.start l.numbers)
