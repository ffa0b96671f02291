use Rattle.std.proofs.Common.{◌≡◌, ◌<◌, ◌≤◌, List, [], ◌∷◌, length, arith, false, refl}
use Rattle.pf_terms.specs.Value.{same_all}
use Rattle.pf_terms.specs.Term.{values_of}
use Rattle.pf_terms.specs.declared.term.Term.{Term}
use Rattle.pf_terms.proofs.sameness.+equal.Goals as goal

-- no elements are not some elements
none_is_not_some : (xs ys : List Term) → length xs < 1 → 1 ≤ length ys → false ≡ same_all (values_of xs) (values_of ys)
none_is_not_some xs [] h k = absurd (omega arith)
none_is_not_some [] (y ∷ ys) h k = refl
none_is_not_some (x ∷ xs) (y ∷ ys) h k = absurd (omega arith)

pub equal_items-returns-in-len1-up-b : goal.equal_items-returns-in-len1-up-b
equal_items-returns-in-len1-up-b t c =
    none_is_not_some c.args.a.now c.args.b.now (omega arith) (omega arith)
