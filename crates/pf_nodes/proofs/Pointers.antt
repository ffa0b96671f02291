-- The test of two pointers is an equality.
use Rattle.std.proofs.Common.{◌≡◌, Bool, true, false, ◌&&◌, ◌==◌, refl, sym, subst, T, eqb→eq}
use lib.Dec.{eqb_refl}
use denote.RawPtr.{Ptr, block_ptr, null_ptr}
use Rattle.pf_nodes.specs.NodeRefs.{same_ptr}

true_of : (b : Bool) → T b → b ≡ true
true_of true t = refl
true_of false t = absurd t

both_true : (x y : Bool) → (x && y) ≡ true → T x × T y
both_true true true e = (tt, tt)
both_true true false e = cc
both_true false y e = cc

pub same_ptr_refl : (p : Ptr) → same_ptr p p ≡ true
same_ptr_refl (block_ptr b o) = λ i. true_of (b == b) (eqb_refl b) i && true_of (o == o) (eqb_refl o) i
same_ptr_refl null_ptr = refl

pub same_ptr_eq : (p q : Ptr) → same_ptr p q ≡ true → p ≡ q
same_ptr_eq (block_ptr b o) (block_ptr c u) e =
    let same = both_true (b == c) (o == u) e in λ i. block_ptr (eqb→eq b c same.0 i) (eqb→eq o u same.1 i)
same_ptr_eq (block_ptr b o) null_ptr e = cc
same_ptr_eq null_ptr (block_ptr c u) e = cc
same_ptr_eq null_ptr null_ptr e = refl

alike : (x y : Bool) → (x ≡ true → y ≡ true) → (y ≡ true → x ≡ true) → x ≡ y
alike true y f g = sym (f refl)
alike false true f g = g refl
alike false false f g = refl

pub same_ptr_comm : (p q : Ptr) → same_ptr p q ≡ same_ptr q p
same_ptr_comm p q = alike (same_ptr p q) (same_ptr q p)
    (λ e. subst (λ r. same_ptr r p ≡ true) (same_ptr_eq p q e) (same_ptr_refl p))
    (λ e. subst (λ r. same_ptr r q ≡ true) (same_ptr_eq q p e) (same_ptr_refl q))
