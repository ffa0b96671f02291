-- Values that are equal in the order are the same, where their atoms have different names.
use Rattle.std.proofs.Common.{◌≡◌, ℕ, List, refl, sym, ap}
use Rattle.std.specs.declared.cmp.Ordering.{Ordering}
use Rattle.std.specs.declared.cmp.Ordering.TheVariants.{Less, Equal, Greater}
use Rattle.std.specs.Ordering.{nat_cmp, ordering_then}
use Rattle.std.proofs.lemmas.Cmp.{ranked, int_ranked}
use Rattle.std.proofs.lemmas.Map.Lookups.{exact_bytes}
use Rattle.pf_terms.specs.Value.{Value, Values, int, atom, ref, pid, tuple, list, none, more, count}
use Rattle.pf_terms.specs.Order.{compare, compare_all, NamesBelow, AllNamesBelow, Distinguishes}

both_equal : (a b : Ordering) → ordering_then a b ≡ Equal → (a ≡ Equal) × (b ≡ Equal)
both_equal Less b e = absurd (cc)
both_equal Equal b e = (refl, e)
both_equal Greater b e = absurd (cc)

module _ (name : ℕ → List ℕ) (n : ℕ) (apart : Distinguishes name n) where
  mutual
    pub same_by_order : (v w : Value) → NamesBelow n v → NamesBelow n w → compare name v w ≡ Equal → v ≡ w
    same_by_order (int x) (int y) h k e = ap int (int_ranked x y Equal (sym e))
    same_by_order (atom a) (atom b) h k e = ap atom (apart a b h k (exact_bytes (name a) (name b) e))
    same_by_order (ref r) (ref s) h k e = ap ref (ranked r s Equal (sym e))
    same_by_order (pid p) (pid q) h k e = ap pid (ranked p q Equal (sym e))
    same_by_order (tuple vs) (tuple ws) h k e =
        ap tuple (all_same_by_order vs ws h k (both_equal (nat_cmp (count vs) (count ws)) (compare_all name vs ws) e).1)
    same_by_order (list vs) (list ws) h k e = ap list (all_same_by_order vs ws h k e)
    same_by_order v w h k e = absurd (cc)

    all_same_by_order : (vs ws : Values) → AllNamesBelow n vs → AllNamesBelow n ws
        → compare_all name vs ws ≡ Equal → vs ≡ ws
    all_same_by_order none none h k e = refl
    all_same_by_order none (more w ws) h k e = absurd (cc)
    all_same_by_order (more v vs) none h k e = absurd (cc)
    all_same_by_order (more v vs) (more w ws) h k e =
        let both = both_equal (compare name v w) (compare_all name vs ws) e in
        let first = same_by_order v w h.0 k.0 both.0 in
        let rest = all_same_by_order vs ws h.1 k.1 both.1 in
        cc
