use Rattle.pf_svg.proofs.Drawn.{nothing}
use Rattle.pf_chart.proofs.heads.put_before.Goals as goal

pub returns-in-None : goal.returns-in-None
returns-in-None c = nothing _
