use Rattle.std.proofs.Common.{rules, FitsSigned, w64, sym, ap, ◌∙◌}
use Rattle.std.proofs.lemmas.Int.{to_z-of_z}
use Rattle.pf_terms.specs.Value.{int}
use Rattle.pf_terms.specs.Term.{value_of}
use Rattle.pf_terms.specs.Atoms.{name_of}
use Rattle.pf_ops.specs.Operations.{operated}
use Rattle.pf_ops.proofs.operators.apply.Goals as goal

pub returns-in-Int-Int : goal.returns-in-Int-Int
returns-in-Int-Int c =
    let name = name_of c.args.atoms.now in
    let o = c.args.operator in
    let x : FitsSigned w64 c.in-Int-Int.x = search rules in
    let y : FitsSigned w64 c.in-Int-Int.y = search rules in
    let h = simp to_z-of_z at (c.on_integers.ensures name) in
    h ∙ ap (λ t. operated name o (value_of t) (int c.in-Int-Int.y)) (sym c.in-Int-Int.is-0)
    ∙ ap (λ t. operated name o (value_of c.args.a.now) (value_of t)) (sym c.in-Int-Int.is-1)
