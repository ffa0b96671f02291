use Rattle.std.proofs.Common.{List, ℕ, ◌++◌, subst, sym}
use Rattle.pf_terms.specs.Atoms.{fixed_names}
use Rattle.pf_terms.specs.Numbers.{HasNumbers}
use Rattle.pf_terms.proofs.Fronts.{fixed_numbers}
use Rattle.pf_terms.proofs.atoms.AtomTable.new.Goals as goal

pub invariant_of-result : goal.invariant_of-result
invariant_of-result c =
    let P : List (List ℕ) → Type 0 = λ xs. HasNumbers (fixed_names ++ xs) in
    subst P (sym c.new.ensures) fixed_numbers
