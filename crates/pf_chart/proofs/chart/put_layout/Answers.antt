use Rattle.std.proofs.Common.{List, ap, length, refl}
use Rattle.std.proofs.lemmas.Result.{on_ok_weaker}
use Rattle.pf_chart.specs.Origins.{texts}
use Rattle.pf_chart.specs.Pages.{page_in}
use Rattle.pf_chart.specs.declared.columns.Column.{Column}
use Rattle.pf_chart.proofs.Charts.{of_columns}
use Rattle.pf_chart.proofs.Lined.{drawn_grows, grown_on, lines_of, lines_within}
use Rattle.pf_svg.proofs.Drawn.{in_turn, plainly, renamed}
use Rattle.pf_chart.proofs.chart.put_layout.Goals as goal

pub returns : goal.returns
returns c =
    let p = page_in c.args.sheet in
    let columns = renamed (ap (of_columns c.args.sheet.count c.args.names.root.now (texts c.args.names.known.now))
    c.deref.ensures.value) c.in_ok-put_columns.ensures in
    let before = grown_on (drawn_grows _ _ _ c.in_ok-put_columns.ensures)
    (grown_on (drawn_grows _ _ _ c.in_ok-put_numbers.ensures) (drawn_grows _ _ _ c.in_ok-put_spawns.ensures)) in
    let lines = lines_of p p _ (length c.args.layout.now.columns.items) _ c.args.layout.now.traffic.arrows.items _ _
    refl (ap (λ (cs : List Column). length cs) c.deref-4.ensures.value)
    c.deref-3.ensures.value c.in_ok-put_arrows.ensures.lines in
    record {
      drawn = on_ok_weaker c.put_events.result
          (λ h. in_turn columns
          (in_turn (plainly (plainly c.in_ok-put_numbers.ensures c.in_ok-put_spawns.ensures)
          c.in_ok-put_arrows.ensures.drawn) h))
          c.put_events.ensures;
      lines = on_ok_weaker c.put_events.result
          (λ h. lines_within p (length c.args.layout.now.columns.items) c.args.layout.now.traffic.arrows.items before
          lines (drawn_grows _ _ _ h)) c.put_events.ensures;
    }
