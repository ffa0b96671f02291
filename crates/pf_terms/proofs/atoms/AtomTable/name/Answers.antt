use Rattle.std.proofs.Common.{sym, ap, ◌∙◌}
use Rattle.pf_terms.specs.Atoms.{fixed_names, name_of}
use Rattle.pf_terms.proofs.Fronts.{name-front, name-after}
use Rattle.pf_terms.proofs.atoms.AtomTable.name.Goals as goal

pub returns-then-number-lt20 : goal.returns-then-number-lt20
returns-then-number-lt20 c =
    let number = c.args.atom.0 in
    c.name_at.ensures
    ∙ sym (name-front fixed_names c.self.inside.entered number c.if-number-lt20.true)
    ∙ ap (λ all. name_of all number) c.self.view_is

pub returns : goal.returns
returns c =
    let number = c.args.atom.0 in
    c.name.ensures
    ∙ sym (name-after fixed_names c.self.inside.entered number c.if-number-lt20.false)
    ∙ ap (λ all. name_of all number) c.self.view_is
