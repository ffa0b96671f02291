use Rattle.std.proofs.Common.{List, ℕ, ◌++◌, subst, sym}
use Rattle.pf_terms.specs.Atoms.{fixed_names}
use Rattle.pf_terms.specs.Numbers.{HasNumbers}
use Rattle.pf_terms.proofs.atoms.AtomTable.shrink_to_fit.Goals as goal

pub invariant_of-self : goal.invariant_of-self
invariant_of-self c =
    let P : List (List ℕ) → Type 0 = λ xs. HasNumbers (fixed_names ++ xs) in
    subst P (sym c.shrink_to_fit.ensures) c.self.invariant
