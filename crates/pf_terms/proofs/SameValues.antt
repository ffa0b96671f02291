-- The test of sameness is true of two values exactly where they are one.
use Rattle.std.proofs.Common.{◌≡◌, Bool, true, false, ◌&&◌, refl, ap, ◌∙◌, arith}
use Rattle.std.specs.Cmp.{signed_Decides}
use Rattle.std.proofs.lemmas.Bool.Decides.{nat_tests}
use Rattle.pf_terms.specs.Value.{Value, Values, int, atom, ref, pid, tuple, list, none, more, same, same_all}
use Rattle.pf_errors.proofs.Bools.{both}

mutual
  pub same_true : (v w : Value) → same v w ≡ true → v ≡ w
  same_true (int x) (int y) e = ap int ((signed_Decides x y).0 e)
  same_true (atom a) (atom b) e = ap atom (grind (arith, nat_tests))
  same_true (ref a) (ref b) e = ap ref (grind (arith, nat_tests))
  same_true (pid a) (pid b) e = ap pid (grind (arith, nat_tests))
  same_true (tuple vs) (tuple ws) e = ap tuple (same_all_true vs ws e)
  same_true (list vs) (list ws) e = ap list (same_all_true vs ws e)
  same_true _ _ e = absurd (cc)

  same_all_true : (vs ws : Values) → same_all vs ws ≡ true → vs ≡ ws
  same_all_true none none e = refl
  same_all_true (more v vs) (more w ws) e =
      let parts = both (same v w) (same_all vs ws) e in
      let first = same_true v w parts.0 in
      let rest = same_all_true vs ws parts.1 in
      cc
  same_all_true _ _ e = absurd (cc)

mutual
  pub same_itself : (v : Value) → same v v ≡ true
  same_itself (int x) = (signed_Decides x x).1 refl
  same_itself (atom a) = grind (arith, nat_tests)
  same_itself (ref a) = grind (arith, nat_tests)
  same_itself (pid a) = grind (arith, nat_tests)
  same_itself (tuple vs) = same_all_itself vs
  same_itself (list vs) = same_all_itself vs

  same_all_itself : (vs : Values) → same_all vs vs ≡ true
  same_all_itself none = refl
  same_all_itself (more v vs) = ap (λ b. b && same_all vs vs) (same_itself v) ∙ same_all_itself vs
