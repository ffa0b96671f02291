use Rattle.pf_svg.proofs.Drawn.{nothing}
use Rattle.pf_chart.proofs.strokes.put_signal.Goals as goal

pub returns-then-from-columns-clause-drawn : goal.returns-then-from-columns-clause-drawn
returns-then-from-columns-clause-drawn c = nothing _

pub returns-then-to-columns-clause-drawn : goal.returns-then-to-columns-clause-drawn
returns-then-to-columns-clause-drawn c = nothing _
