use Rattle.std.proofs.lemmas.Result.{on_ok_weaker}
use Rattle.pf_svg.specs.Document.{after_all}
use Rattle.pf_svg.specs.Places.{read}
use Rattle.pf_svg.proofs.Drawn.{follow, follow_plainly}
use Rattle.pf_svg.proofs.svg.Svg.element.Goals as goal

pub returns : goal.returns
returns g c =
    on_ok_weaker c.add-3.result
    (λ h p. (let begun = read p c.args.start.now in
    follow (c.in_ok-add.ensures.drawn p) (follow_plainly (c.in_ok-add-2.ensures.drawn begun)
    (h (after_all begun c.args.content.now)))))
    c.add-3.ensures.drawn
