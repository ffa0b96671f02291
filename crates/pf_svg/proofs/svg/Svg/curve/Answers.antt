use Rattle.std.proofs.lemmas.Result.{on_ok_weaker}
use Rattle.pf_svg.specs.Places.{outside}
use Rattle.pf_svg.proofs.svg.Svg.curve.Goals as goal

pub returns-clause-drawn : goal.returns-clause-drawn
returns-clause-drawn g c = on_ok_weaker c.add.result (λ h os. h (outside os)) c.add.ensures.drawn

pub returns-clause-text : goal.returns-clause-text
returns-clause-text g c = c.add.ensures.text
