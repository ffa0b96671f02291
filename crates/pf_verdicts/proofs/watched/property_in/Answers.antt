use Rattle.std.proofs.Common.{◌≡◌, rules, List, ℕ, subst}
use Rattle.pf_property.specs.Texts.{ReadsProperty}
use Rattle.pf_property.specs.Views.{property_of}
use Rattle.pf_verdicts.proofs.watched.property_in.Goals as goal

pub returns-in-Ok : goal.returns-in-Ok
returns-in-Ok c =
    let atoms = c.args.module.now.code.atoms in
    let same : c.atoms.result.now ≡ atoms = search rules in
    subst (λ (a : List (List ℕ)). ReadsProperty a c.args.text.now (property_of c.in-Ok.property)) same
    c.in-Ok.ensures.read
