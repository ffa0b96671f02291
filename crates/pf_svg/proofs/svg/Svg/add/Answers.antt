use Rattle.std.proofs.Common.{ℕ, List, ◌++◌, refl, ◌∙◌, ap}
use Rattle.std.proofs.lemmas.Result.{on_ok_weaker}
use Rattle.std.specs.Prelude.{flat_map}
use Rattle.pf_svg.specs.Document.{drawn, part_text}
use Rattle.pf_svg.proofs.svg.Svg.add.Goals as goal

pub returns-clause-drawn : goal.returns-clause-drawn
returns-clause-drawn g c =
    let parts = c.args.parts.now in
    on_ok_weaker c.put_parts.result
    (λ e p. drawn parts (e ∙ ap (λ (t : List ℕ). t ++ flat_map part_text parts) c.self.view_is) c.requires refl refl)
    c.put_parts.ensures
