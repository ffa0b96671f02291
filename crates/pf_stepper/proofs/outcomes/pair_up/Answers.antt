use Rattle.std.proofs.Common.{rules, FitsSigned, w64, refl}
use Rattle.std.proofs.lemmas.Int.{to_z-of_z}
use Rattle.pf_terms.specs.Atoms.{name_of}
use Rattle.pf_stepper.proofs.outcomes.pair_up.Goals.{in-Int-Int, in_default+in_ok-focus-in_default}
use Rattle.pf_stepper.proofs.outcomes.pair_up.Goals as goal

pub returns-after-left : goal.returns-after-left
returns-after-left c =
    elim c.match-left.branch [
      | in-Int-Int w ↦
          let x : FitsSigned w64 w.in-Int-Int.x = search rules in
          let y : FitsSigned w64 w.in-Int-Int.y = search rules in
          let same = simp to_z-of_z at (w.on_integers.ensures (name_of c.args.code.now.atoms)) in
          rw (w.focus-is, c.in-Operator.is, w.in-Int-Int.is-0, w.in-Int-Int.is-1)
          (rw same at w.outcome-focus.ensures, refl)
      | in_default+in_ok-focus-in_default w ↦ rw (w.focus-is, c.in-Operator.is) (w.in_ok-focus-in_default.ensures, refl)
    ]
