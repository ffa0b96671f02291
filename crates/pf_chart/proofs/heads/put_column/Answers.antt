use Rattle.std.proofs.Common.{ℕ, List, ◌++◌, ap}
use Rattle.std.proofs.lemmas.Result.{on_ok_weaker}
use Rattle.pf_chart.specs.Chart.{copies}
use Rattle.pf_chart.specs.Sheets.{head_rows}
use Rattle.pf_svg.proofs.Drawn.{grouped, in_turn, plainly, renamed, to_close}
use Rattle.pf_chart.proofs.heads.put_column.Goals as goal

pub returns : goal.returns
returns c =
    let labels = ap (λ (ls : List (List ℕ)). ls ++ copies (head_rows c.args.sheet.count) ls) c.origin-origin.ensures in
    on_ok_weaker c.close_group.result (λ h. renamed labels (grouped c.in_ok-group.ensures (to_close
    (in_turn (plainly c.in_ok-put_tooltip.ensures c.in_ok-put_life.ensures)
    (plainly c.in_ok-put_heads.ensures c.in_ok-put_foot.ensures)) h))) c.close_group.ensures
