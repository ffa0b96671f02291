use Rattle.std.proofs.Common.{◌≡◌, get_or, ap, rules, ◌∙◌}
use Rattle.pf_model.specs.Reports.{view_of_event}
use Rattle.pf_chart.specs.Processes.{child_in, spawned_by}
use Rattle.pf_chart.proofs.Spawned.{spawned_next}
use Rattle.pf_chart.proofs.columns.spawned_in.Goals as goal

pub loop-row-preserved : goal.loop-row-preserved
loop-row-preserved c =
    let row = c.loop-row.row in
    let event = c.index-events-row.result in
    let read : event ≡ get_or c.args.events.now row event = search rules in
    spawned_next view_of_event c.loop-row.columns.items _ c.spawned_by.result c.args.events.now row event
    c.loop-row-test.true
    c.loop-row.invariant c.in_ok-put.ensures
    (c.spawned_by.ensures ∙ ap (λ e. spawned_by (view_of_event e).actor (child_in (view_of_event e).label) row) read)
