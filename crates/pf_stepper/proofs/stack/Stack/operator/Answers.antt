use Rattle.std.proofs.Common.{rules, FitsSigned, w64}
use Rattle.std.proofs.lemmas.Int.{to_z-of_z}
use Rattle.pf_terms.specs.Atoms.{name_of}
use Rattle.pf_terms.specs.declared.term.Term.TheVariants as term
use Rattle.pf_stepper.specs.declared.frame.Binary.TheVariants as binary
use Rattle.pf_stepper.specs.declared.frame.MicroStep.TheVariants as t
use Rattle.pf_stepper.proofs.AtOnce.{at_once}
use Rattle.pf_stepper.proofs.stack.Stack.operator.Goals as goal

pub returns-in-Some-Some : goal.returns-in-Some-Some
returns-in-Some-Some c =
    let w = c.in-Some-Some in
    let x : FitsSigned w64 w.x = search rules in
    let y : FitsSigned w64 w.y = search rules in
    let same = simp to_z-of_z at (c.on_integers.ensures (name_of c.args.code.now.atoms)) in
    at_once c.args.code.now c.args.own c.args.self.now c.args.id (binary.Operator c.args.operator) c.args.left
    c.args.right (term.Int w.x) (term.Int w.y) (t.Contracted c.outcome.result) c.requires.sound c.requires.found
    (w.ensures c.args.code.now.tables) (w.ensures' c.args.code.now.tables) (rw same at c.outcome.ensures)
