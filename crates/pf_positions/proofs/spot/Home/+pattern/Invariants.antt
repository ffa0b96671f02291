use Rattle.std.proofs.Common.{◌≡◌, ◌++◌, ◌≤◌, drop, map}
use Rattle.pf_syntax.specs.Module.{pattern_at}
use Rattle.pf_syntax.specs.Over.{patterns_at}
use Rattle.pf_positions.specs.Added.{spot_seen}
use Rattle.pf_positions.specs.Spots.{pattern_spots, patterns_spots}
use Rattle.pf_positions.proofs.Weights.{pattern_weight, patterns_weight}
use Rattle.pf_positions.proofs.spot.Home.+pattern.Given as goal

abbrev pub decreases-put_pattern : goal.decreases-put_pattern
decreases-put_pattern l = pattern_weight (pattern_at l.self.module.now.tables l.id.0)

abbrev pub decreases-put_patterns : goal.decreases-put_patterns
decreases-put_patterns l = patterns_weight (patterns_at l.self.module.now.tables l.ids.now)

-- those of the pattern that the walk is at are left, and it is no larger than the whole
abbrev pub invariant-put_pattern-loop-node : goal.invariant-put_pattern-loop-node
invariant-put_pattern-loop-node l =
    let t = l.self.module.now.tables in
    record {
      added : map (spot_seen t) l.spots.items ++ pattern_spots l.self.function.0 (pattern_at t l.at.0)
          ≡ map (spot_seen t) l.fn.spots.items ++ pattern_spots l.self.function.0 (pattern_at t l.fn.id.0);
      lighter : pattern_weight (pattern_at t l.at.0) ≤ pattern_weight (pattern_at t l.fn.id.0);
    }

abbrev pub decreases-put_pattern-loop-node : goal.decreases-put_pattern-loop-node
decreases-put_pattern-loop-node l = pattern_weight (pattern_at l.self.module.now.tables l.at.0)

abbrev pub invariant-put_patterns-loop-id : goal.invariant-put_patterns-loop-id
invariant-put_patterns-loop-id l =
    let t = l.self.module.now.tables in
    map (spot_seen t) l.spots.items ++ patterns_spots l.self.function.0 (patterns_at t (drop l.id-index l.ids))
    ≡ map (spot_seen t) l.fn.spots.items ++ patterns_spots l.self.function.0 (patterns_at t l.ids)
