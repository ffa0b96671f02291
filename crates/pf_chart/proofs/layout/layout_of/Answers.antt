use Rattle.std.proofs.Common.{◌≡◌, ◌<◌, List, get_or, length, map, rules, sym, subst, arith}
use Rattle.std.specs.List.Sorted.{IsPermutation}
use Rattle.pf_model.specs.Reports.{view_of_event, view_of_report}
use Rattle.pf_model.specs.declared.report.Event.{Event}
use Rattle.pf_chart.specs.Origins.{process_of}
use Rattle.pf_chart.specs.Processes.{Process, processes_of}
use Rattle.pf_chart.specs.Signals.{IsManner}
use Rattle.pf_chart.proofs.Laying.{all_laid, event_at, none_yet}
use Rattle.pf_chart.proofs.layout.layout_of.Goals as goal

pub loop-row-init : goal.loop-row-init
loop-row-init c = record {
  processes = c.in_ok-columns.ensures.all;
  laid = record {
    by_pid = c.in_ok-columns.ensures.by_pid;
    wait = c.in_ok-traffic.ensures.waiting;
    arrows = none_yet _ _ _ c.in_ok-traffic.ensures.arrows;
  };
}

pub loop-row-preserved : goal.loop-row-preserved
loop-row-preserved c =
    let es = c.args.report.now.events.items in
    let row = c.loop-row.row in
    let event = c.event-item.result in
    let read : event ≡ get_or es row event = search rules in
    let low : row < length es = omega arith in
    record {
      processes = subst (λ (ps : List Process). IsPermutation (processes_of (view_of_report c.args.report.now).events)
          ps) (sym c.event.ensures.processes) c.loop-row.invariant.processes;
      laid = c.in_ok-event.ensures.laid (map view_of_event es) (event_at view_of_event es row event low read)
          c.loop-row.invariant.laid;
    }

pub returns : goal.returns
returns c =
    let es = c.args.report.now.events.items in
    record {
      processes = subst (λ cs. IsPermutation (processes_of (view_of_report c.args.report.now).events)
          (map process_of cs.items)) (sym c.in_manner.ensures.columns)
          c.loop-row.invariant.processes;
      laid = all_laid view_of_event es c.loop-row.row c.args.compact c.loop-row.layout c.in_manner.new.layout
          c.loop-row.invariant.laid (omega arith)
          c.in_manner.ensures.columns
          (subst (λ (xs : List Event). IsManner (map view_of_event xs) c.args.compact
          c.loop-row.layout.traffic.arrows.items c.in_manner.new.layout.traffic.arrows.items) c.deref.ensures.value
          c.in_ok-in_manner.ensures.manner);
    }
