use Rattle.std.proofs.lemmas.Result.{on_ok_weaker}
use Rattle.pf_svg.specs.Places.{outside}
use Rattle.pf_svg.proofs.Drawn.{led}
use Rattle.pf_svg.proofs.svg.Svg.put.Goals as goal

pub returns : goal.returns
returns g c = on_ok_weaker c.add.result (λ h os. led (c.requires.whole os) (h (outside os))) c.add.ensures.drawn
