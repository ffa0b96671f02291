use Rattle.std.proofs.Common.{ap}
use Rattle.std.specs.Prelude.{codes}
use Rattle.std.proofs.lemmas.Result.{on_ok_weaker}
use Rattle.pf_svg.specs.Places.{DocumentPlace, inside, outside, read}
use Rattle.pf_svg.proofs.Drawn.{all_attributes, all_values, follow, follow_plainly, led, stays_inside, stays_quoted}
use Rattle.pf_svg.proofs.svg.Svg.group.Goals as goal

pub element-requires-clause-content : goal.element-requires-clause-content
element-requires-clause-content g c = all_values g.W.Vocabulary.words c.args.class.now c.requires.class

pub add-requires : goal.add-requires
add-requires g c = all_attributes g.W.Vocabulary.words c.args.attributes.now c.requires.attributes

pub returns : goal.returns
returns g c =
    let class = c.args.class.now in
    let attributes = c.args.attributes.now in
    on_ok_weaker c.add-2.result
    (λ h os. follow (led (ap (λ (p : DocumentPlace). read p (codes "\""))
    (stays_quoted g.W.Vocabulary.words os (codes "g") class c.requires.class))
    (c.in_ok-element.ensures (outside os)))
    (follow_plainly (led (stays_inside g.W.Vocabulary.words os (codes "g") attributes c.requires.attributes)
    (c.in_ok-add.ensures.drawn (inside os (codes "g")))) (h (inside os (codes "g")))))
    c.add-2.ensures.drawn
