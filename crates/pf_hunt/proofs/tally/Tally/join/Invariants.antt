use Rattle.std.proofs.Common.{◌≡◌, ◌+◌}
use Rattle.std.specs.Vec.Iter.{into_iter_items}
use Rattle.pf_hunt.specs.Rows.{seeds_counted, rows_joined}
use Rattle.pf_hunt.specs.Views.{rows_in, rows_of}
use Rattle.pf_hunt.proofs.tally.Tally.join.Given as goal

-- with what is left, the rows are those of both
abbrev pub invariant-loop-row : goal.invariant-loop-row
invariant-loop-row l = record {
  rows : rows_joined (rows_of l.self) (rows_in (into_iter_items l.row-iterator)) ≡ rows_joined (rows_of l.fn.self)
      (rows_of l.fn.after);
  count :
      seeds_counted (rows_of l.self) + seeds_counted (rows_in (into_iter_items l.row-iterator)) ≡ seeds_counted
      (rows_of l.fn.self) + seeds_counted (rows_of l.fn.after);
}
