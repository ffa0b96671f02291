use Rattle.std.proofs.Common.{◌≡◌, ◌+◌}
use Rattle.std.specs.Prelude.{drop}
use Rattle.pf_hunt.specs.Rows.{failures_in}
use Rattle.pf_hunt.specs.Views.{rows_in}
use Rattle.pf_hunt.proofs.tally.Tally.failures.Given as goal

-- with those of the rows that are left they are all
abbrev pub invariant-loop-row : goal.invariant-loop-row
invariant-loop-row l = l.count + failures_in (rows_in (drop l.row-index l.row-items)) ≡ failures_in
    (rows_in l.row-items)
