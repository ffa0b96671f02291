use Rattle.std.proofs.Common.{◌≡◌, ◌++◌, drop, map}
use Rattle.pf_positions.specs.Added.{spot_seen}
use Rattle.pf_positions.specs.Spots.{program_spots, spots_of}
use Rattle.pf_positions.proofs.functions.spots_of.Given as goal

-- those of the functions after it are left
abbrev pub invariant-loop-index : goal.invariant-loop-index
invariant-loop-index l =
    map (spot_seen l.module.tables) l.spots.items ++ program_spots l.index (drop l.index l.module.functions)
    ≡ spots_of l.module
