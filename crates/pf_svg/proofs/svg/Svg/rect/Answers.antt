use Rattle.std.proofs.Common.{refl}
use Rattle.std.specs.Prelude.{codes}
use Rattle.std.proofs.lemmas.Result.{on_ok_weaker}
use Rattle.pf_svg.specs.Places.{DocumentPlace, outside, read}
use Rattle.pf_svg.proofs.Drawn.{all_attributes, closed_after, led}
use Rattle.pf_svg.proofs.svg.Svg.rect.Goals as goal

pub element-requires-clause-content : goal.element-requires-clause-content
element-requires-clause-content g c = all_attributes g.W.Vocabulary.words c.args.attributes.now c.requires

pub returns : goal.returns
returns g c =
    on_ok_weaker c.element.result
    (λ h os. led (closed_after g.W.Vocabulary.words os 114 (codes "ect") c.args.attributes.now c.requires
    (λ (p : DocumentPlace). read p (codes "/>")) (outside os) refl refl) (h (outside os)))
    c.element.ensures
