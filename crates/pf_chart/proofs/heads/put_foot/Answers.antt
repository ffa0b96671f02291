use Rattle.pf_svg.proofs.Drawn.{nothing}
use Rattle.pf_chart.proofs.heads.put_foot.Goals as goal

pub returns-then-not-column : goal.returns-then-not-column
returns-then-not-column c = nothing _
