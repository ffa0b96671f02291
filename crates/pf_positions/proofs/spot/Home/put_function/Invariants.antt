use Rattle.std.proofs.Common.{◌≡◌, ◌++◌, drop, map}
use Rattle.std.specs.Prelude.{flat_map}
use Rattle.pf_syntax.specs.Over.{function_clause_over}
use Rattle.pf_positions.specs.Added.{spot_seen}
use Rattle.pf_positions.specs.Spots.{head_spots}
use Rattle.pf_positions.proofs.spot.Home.put_function.Given as goal

-- those of the clauses after it are left
abbrev pub invariant-loop-clause : goal.invariant-loop-clause
invariant-loop-clause l =
    let t = l.self.module.now.tables in
    map (spot_seen t) l.spots.items ++ flat_map (head_spots l.self.function.0)
    (map (function_clause_over t) (drop l.clause-index l.function.clauses.items))
    ≡ map (spot_seen t) l.fn.spots.items ++ flat_map (head_spots l.self.function.0)
    (map (function_clause_over t) l.function.clauses.items)
