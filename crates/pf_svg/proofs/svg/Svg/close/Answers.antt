use Rattle.pf_svg.proofs.svg.Svg.close.Goals as goal

pub returns : goal.returns
returns g c = c.add.ensures.text
