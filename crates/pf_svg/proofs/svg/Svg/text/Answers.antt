use Rattle.std.proofs.Common.{ap, ◌∷◌}
use Rattle.std.specs.Prelude.{codes}
use Rattle.std.proofs.lemmas.Result.{on_ok_weaker}
use Rattle.pf_svg.specs.Places.{DocumentPlace, inside, outside, read}
use Rattle.pf_svg.proofs.Drawn.{all_said, follow, led, stays_outside}
use Rattle.pf_svg.proofs.svg.Svg.text.Goals as goal

pub element-requires-clause-content : goal.element-requires-clause-content
element-requires-clause-content g c = all_said g.W.Vocabulary.words c.args.content.now c.requires.content

pub returns : goal.returns
returns g c =
    on_ok_weaker c.element.result
    (λ h os. led (ap (λ (p : DocumentPlace). read p (codes "</text>"))
    (stays_outside g.W.Vocabulary.words (codes "text" ∷ os) c.args.content.now c.requires.content))
    (follow (c.in_ok-add.ensures.drawn (outside os)) (h (inside os (codes "text")))))
    c.element.ensures
