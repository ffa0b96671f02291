use Rattle.std.proofs.Common.{◌+◌, ap, drop, map}
use Rattle.pf_syntax.specs.Over.{function_over}
use Rattle.pf_positions.specs.Added.{spot_seen}
use Rattle.pf_positions.specs.Spots.{function_spots, program_spots, spots_of}
use Rattle.pf_positions.proofs.Adding.{all_added, drop_at_none, drop_at_some, go_on}
use Rattle.pf_positions.proofs.functions.spots_of.Goals as goal

pub returns-in_default : goal.returns-in_default
returns-in_default c =
    let m = c.args.module.now in
    let i = c.loop-index.index in
    all_added (map (spot_seen m.tables) c.loop-index.spots.items) (program_spots i (drop i m.functions)) (spots_of m)
    (ap (program_spots i) (drop_at_none m.functions i c.in_default.ensures)) c.loop-index.invariant

pub loop-index-preserved : goal.loop-index-preserved
loop-index-preserved c =
    let m = c.args.module.now in
    let i = c.loop-index.index in
    let g = function_over m.tables c.in-Some.function.now in
    go_on (map (spot_seen m.tables) c.loop-index.spots.items) (map (spot_seen m.tables) c.put_function.new.spots.items)
    (function_spots i g)
    (program_spots i (drop i m.functions)) (program_spots (i + 1) (drop (i + 1) m.functions)) (spots_of m)
    c.in_ok-put_function.ensures (ap (program_spots i) (drop_at_some m.functions i g c.in-Some.ensures))
    c.loop-index.invariant
