-- The spots of a clause, over the tables of its module.
use Rattle.std.specs.Prelude.{ℕ, List, ◌++◌}
use Rattle.pf_syntax.specs.Module.{Tables, pattern_at}
use Rattle.pf_syntax.specs.Over.{guard_over, part_over}
use Rattle.pf_syntax.specs.declared.node.Clause.{Clause}
use Rattle.pf_positions.specs.Spots.{Spot, guard_spots, pattern_spots, tree_spots}

-- those of its pattern, of its guard and of its body
abbrev pub clause_spots : Tables → ℕ → Clause → List Spot
clause_spots t f c = pattern_spots f (pattern_at t c.pattern.0)
    ++ (guard_spots f (guard_over t c.guard) ++ tree_spots f (part_over t c.body))
