-- No name is bound twice, so the slot of a bound variable is one slot.
use Rattle.std.proofs.Common.{◌≡◌, ◌⊎◌, inl, inr, ℕ, zero, suc, List, [], ◌∷◌, ◌++◌, length, Bool, true, false, Some}
use Rattle.std.proofs.Common.{refl, sym, ap, ◌∙◌, arith, IsTrue}
use Rattle.std.specs.Prelude.{slice_get, ◌==◌, ◌||◌, not, nat_eq, if◌then◌else◌}
use Rattle.std.proofs.lemmas.Bool.Decides.{nat_tests}
use Rattle.pf_syntax.specs.ExprPattern as s
use Rattle.pf_syntax.specs.ExprPattern.{ExprPattern, ExprPatterns, no_expr_patterns, expr_pattern}
use Rattle.pf_syntax.specs.Expr as p
use Rattle.pf_syntax.specs.Expr.{Expr, Exprs, no_exprs, expr}
use Rattle.pf_syntax.specs.Scope.{Scope, no_scope, has, is_unsafe, is_new, binding, after_expr_pattern}
use Rattle.pf_syntax.specs.Scope.{after_expr_patterns, after, after_all}

-- each name is in one slot
pub Once : List ℕ → Type 0
Once names = (x i j : ℕ) → slice_get names i ≡ Some x → slice_get names j ≡ Some x → i ≡ j

abbrev pub SeenOnce : Scope → Type 0
SeenOnce g = Once g.bound

or_true : (b c : Bool) → c ≡ true → b || c ≡ true
or_true true c e = refl
or_true false c e = e

same_or : (x y : ℕ) (b : Bool) → y ≡ x → nat_eq y x || b ≡ true
same_or x y b e = grind (arith, nat_tests)

-- what is in a slot is among the names
pub there : (x : ℕ) (names : List ℕ) (k : ℕ) → slice_get names k ≡ Some x → has names x ≡ true
there x [] zero e = cc
there x [] (suc k) e = cc
there x (y ∷ names) zero e = same_or x y (has names x) cc
there x (y ∷ names) (suc k) e = or_true (y == x) (has names x) (there x names k e)

-- a new name isn't bound
not_new : (b u : Bool) → b ≡ true → IsTrue (not (b || u)) → ⊥
not_new true u e h = cc
not_new false u e h = cc

pub new_has_no_offset : (g : Scope) (x k : ℕ) → IsTrue (is_new g x) → slice_get g.bound k ≡ Some x → ⊥
new_has_no_offset g x k new e = not_new (has g.bound x) (is_unsafe g x) (there x g.bound k e) new

-- a slot among names and one more after them is one of theirs, or the last
last_or_before : (names : List ℕ) (x y i : ℕ) → slice_get (names ++ x ∷ []) i ≡ Some y
    → (slice_get names i ≡ Some y) ⊎ ((i ≡ length names) × (y ≡ x))
last_or_before [] x y zero e = inr (refl, cc)
last_or_before [] x y (suc i) e = cc
last_or_before (z ∷ names) x y zero e = inl e
last_or_before (z ∷ names) x y (suc i) e = further (last_or_before names x y i e)
  where
    further : (slice_get names i ≡ Some y) ⊎ ((i ≡ length names) × (y ≡ x))
        → (slice_get names i ≡ Some y) ⊎ ((suc i ≡ length (z ∷ names)) × (y ≡ x))
    further (inl h) = inl h
    further (inr h) = inr (ap suc h.0, h.1)

with_new : (g : Scope) (x : ℕ) → SeenOnce g → IsTrue (is_new g x) → Once (g.bound ++ x ∷ [])
unfolding Once
with_new g x once new y i j e f = either_way (last_or_before g.bound x y i e) (last_or_before g.bound x y j f)
  where
    either_way : (slice_get g.bound i ≡ Some y) ⊎ ((i ≡ length g.bound) × (y ≡ x))
        → (slice_get g.bound j ≡ Some y) ⊎ ((j ≡ length g.bound) × (y ≡ x)) → i ≡ j
    either_way (inl a) (inl b) = once y i j a b
    either_way (inl a) (inr b) = absurd (new_has_no_offset g x i new (a ∙ ap Some b.1))
    either_way (inr a) (inl b) = absurd (new_has_no_offset g x j new (b ∙ ap Some a.1))
    either_way (inr a) (inr b) = a.0 ∙ sym b.0

by_test : (g : Scope) (x : ℕ) (b : Bool) → SeenOnce g → (IsTrue b → Once (g.bound ++ x ∷ []))
    → SeenOnce (if b then record { bound = g.bound ++ x ∷ []; unsafe = g.unsafe } else g)
by_test g x true once h = h refl
by_test g x false once h = once

once_binding : (g : Scope) (x : ℕ) → SeenOnce g → SeenOnce (binding g x)
once_binding g x once = by_test g x (is_new g x) once (with_new g x once)

mutual
  pub once_expr_pattern : (g : Scope) (q : ExprPattern) → SeenOnce g → SeenOnce (after_expr_pattern g q)
  once_expr_pattern g (s.variable x at) h = once_binding g x h
  once_expr_pattern g (s.tuple qs) h = once_expr_patterns g qs h
  once_expr_pattern g (s.list qs) h = once_expr_patterns g qs h
  once_expr_pattern g (s.list_on qs q) h = once_expr_pattern (after_expr_patterns g qs) q (once_expr_patterns g qs h)
  once_expr_pattern g (s.integer z) h = h
  once_expr_pattern g (s.atom a) h = h
  once_expr_pattern g (s.text cs) h = h
  once_expr_pattern g s.anything h = h

  pub once_expr_patterns : (g : Scope) (qs : ExprPatterns) → SeenOnce g → SeenOnce (after_expr_patterns g qs)
  once_expr_patterns g no_expr_patterns h = h
  once_expr_patterns g (expr_pattern q qs) h = once_expr_patterns (after_expr_pattern g q) qs (once_expr_pattern g q h)

mutual
  pub once_expr : (g : Scope) (e : Expr) → SeenOnce g → SeenOnce (after g e)
  once_expr g (p.integer z) h = h
  once_expr g (p.atom a) h = h
  once_expr g (p.text cs) h = h
  once_expr g (p.variable x at) h = h
  once_expr g (p.anonymous at) h = h
  once_expr g (p.parentheses a) h = once_expr g a h
  once_expr g (p.tuple es) h = once_exprs g es h
  once_expr g (p.list es) h = once_exprs g es h
  once_expr g (p.list_on es e) h = once_expr (after_all g es) e (once_exprs g es h)
  once_expr g (p.call f at es) h = once_exprs g es h
  once_expr g (p.binary o a b) h = once_expr (after g a) b (once_expr g a h)
  once_expr g (p.negate a) h = once_expr g a h
  once_expr g (p.and_also a b) h = once_expr (after g a) b (once_expr g a h)
  once_expr g (p.or_else a b) h = once_expr (after g a) b (once_expr g a h)
  once_expr g (p.send a b) h = once_expr (after g a) b (once_expr g a h)
  once_expr g (p.match q a) h = once_expr_pattern (after g a) q (once_expr g a h)
  once_expr g (p.case a bs) h = once_expr g a h
  once_expr g (p.if_expression bs) h = h
  once_expr g (p.receive bs) h = h

  pub once_exprs : (g : Scope) (es : Exprs) → SeenOnce g → SeenOnce (after_all g es)
  once_exprs g no_exprs h = h
  once_exprs g (expr e es) h = once_exprs (after g e) es (once_expr g e h)

nothing_there : (x i : ℕ) → slice_get {X = ℕ} [] i ≡ Some x → ⊥
nothing_there x zero e = cc
nothing_there x (suc i) e = cc

pub none_seen : SeenOnce no_scope
unfolding Once
none_seen x i j e f = absurd (nothing_there x i e)

pub one_offset : (g : Scope) → SeenOnce g → (x i j : ℕ) → slice_get g.bound i ≡ Some x
    → slice_get g.bound j ≡ Some x → i ≡ j
unfolding Once
one_offset g h x i j e f = h x i j e f
