use Rattle.std.proofs.Common.{arith}
use Rattle.pf_positions.proofs.Weights.{pattern_lighter}
use Rattle.pf_positions.proofs.spot.Home.+pattern.Goals as goal

pub put_patterns-put_pattern-requires : goal.put_patterns-put_pattern-requires
put_patterns-put_pattern-requires t c =
    let h = pattern_lighter c.args.self.module.now.tables c.args.ids.now c.loop-id.id-index (record { 0 = 0 })
    (omega arith) in
    (omega (arith, h, c.decreases), tt)
