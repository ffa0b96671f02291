use Rattle.std.proofs.Common.{rules}
use Rattle.std.specs.Prelude.{nat_lt}
use Rattle.std.proofs.lemmas.List.Sorted.{IsPartitionPoint-from_clause, IsPartitionedBy-ltb}
use Rattle.pf_chart.specs.declared.rows.EventRow.{EventRow}
use Rattle.pf_chart.proofs.Placed.{counted}
use Rattle.pf_chart.proofs.sheet.Sheet.rows_before.Goals as goal

pub returns : goal.returns
returns c =
    let rows = c.args.self.now.rows.now in
    let e = c.args.event in
    let facts = c.partition_point.ensures in
    counted rows e c.partition_point.result facts.bound
    (IsPartitionPoint-from_clause (λ (r : EventRow). nat_lt r.index e) rows c.partition_point.result facts.partitioned
    (IsPartitionedBy-ltb (λ (r : EventRow). r.index) rows e c.args.self.now.in_order) (λ a r f' called. search rules))
