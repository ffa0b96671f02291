use Rattle.std.proofs.lemmas.Result.{on_ok_weaker}
use Rattle.pf_svg.proofs.Drawn.{in_turn, nothing}
use Rattle.pf_chart.proofs.chart.put_page.Goals as goal

pub returns-then-all_rows-le-PAGE : goal.returns-then-all_rows-le-PAGE
returns-then-all_rows-le-PAGE c = nothing _

pub returns : goal.returns
returns c = on_ok_weaker c.end_line.result (λ h. in_turn c.in_ok-text.ensures h) c.end_line.ensures
