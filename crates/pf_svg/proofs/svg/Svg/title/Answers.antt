use Rattle.std.proofs.Common.{ap, ◌∷◌}
use Rattle.std.specs.Prelude.{codes}
use Rattle.std.proofs.lemmas.Result.{on_ok_weaker}
use Rattle.pf_svg.specs.Places.{DocumentPlace, outside, read}
use Rattle.pf_svg.proofs.Drawn.{all_said, led, stays_outside}
use Rattle.pf_svg.proofs.svg.Svg.title.Goals as goal

pub element-requires-clause-content : goal.element-requires-clause-content
element-requires-clause-content g c = all_said g.W.Vocabulary.words c.args.content.now c.requires

pub returns : goal.returns
returns g c =
    on_ok_weaker c.element.result
    (λ h os. led (ap (λ (p : DocumentPlace). read p (codes "</title>"))
    (stays_outside g.W.Vocabulary.words (codes "title" ∷ os) c.args.content.now c.requires)) (h (outside os)))
    c.element.ensures
