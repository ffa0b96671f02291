use Rattle.std.proofs.Common.{◌≡◌, ℕ, ◌<◌, ◌≤◌, List, [], ◌∷◌, length, refl, arith}
use Rattle.std.specs.declared.cmp.Ordering.TheVariants.{Less}
use Rattle.pf_terms.specs.Order.{compare_all}
use Rattle.pf_terms.specs.Term.{values_of}
use Rattle.pf_terms.specs.Atoms.{name_of}
use Rattle.pf_terms.proofs.Counts.{by_elements, by_size}
use Rattle.pf_terms.specs.declared.term.Term.{Term}
use Rattle.pf_terms.proofs.ordering.+order.Goals as goal

-- no elements come before some elements
shorter_first : (name : ℕ → List ℕ) (xs ys : List Term) → length xs < 1 → 1 ≤ length ys
    → Less ≡ compare_all name (values_of xs) (values_of ys)
shorter_first name [] [] h k = absurd (omega arith)
shorter_first name [] (y ∷ ys) h k = refl
shorter_first name (x ∷ xs) ys h k = absurd (omega arith)

pub order_items-returns-in-len1-up-b : goal.order_items-returns-in-len1-up-b
order_items-returns-in-len1-up-b t c =
    shorter_first (name_of c.args.atoms.now) c.args.a.now c.args.b.now (omega arith) (omega arith)

pub order_elements-returns-in-Equal : goal.order_elements-returns-in-Equal
order_elements-returns-in-Equal t c =
    by_elements (name_of c.args.atoms.now) c.as_slice-xs.result.now c.as_slice-ys.result.now c.args.a.now c.args.b.now
    c.cmp.result c.order_items.result
    c.as_slice-xs.ensures c.as_slice-ys.ensures c.cmp.ensures c.in-Equal.is c.order_items.ensures

pub order_elements-returns-in_default : goal.order_elements-returns-in_default
order_elements-returns-in_default t c =
    by_size (name_of c.args.atoms.now) c.as_slice-xs.result.now c.as_slice-ys.result.now c.args.a.now
    c.args.b.now c.cmp.result
    c.as_slice-xs.ensures c.as_slice-ys.ensures c.cmp.ensures c.in_default.not-Equal
