-- Values in place of the first variables, and then of those after them.
use Rattle.std.proofs.Common.{◌≡◌, ℕ, zero, suc, ◌-◌, [], ◌∷◌, ◌++◌, length, refl, ap, ◌∙◌, arith}
use Rattle.std.specs.Prelude.{slice_get}
use Rattle.pf_syntax.specs.Pattern.{Pattern, Patterns, any, new, slot, known, tuple_of, cons_of, never, no_patterns}
use Rattle.pf_syntax.specs.Pattern.{pattern}
use Rattle.pf_syntax.specs.Tree.{Tree, Trees, Clauses, Guard, lit, var, tuple, cons, op, neg, and_also, or_else, call}
use Rattle.pf_syntax.specs.Tree.{builtin, match, bind, case, if_expression, receive, send, no_trees, tree, no_clauses}
use Rattle.pf_syntax.specs.Tree.{clause, no_alternatives, alternative}
use Rattle.pf_patterns.specs.Fit.{ValueScope}
use Rattle.pf_patterns.specs.Substitution.{value_or_var, known_or_slot, sub_pattern, sub_patterns, sub, sub_trees}
use Rattle.pf_patterns.specs.Substitution.{sub_clauses, sub_guard}

var_twice : (e f : ValueScope) (x : ℕ) → sub f (value_or_var (slice_get e x) (x - length e)) ≡ value_or_var
    (slice_get (e ++ f) x) (x - length (e ++ f))
var_twice [] f x = let z : x - 0 ≡ x = omega arith in ap (λ n. sub f (var n)) z
var_twice (v ∷ e) f zero = refl
var_twice (v ∷ e) f (suc x) =
    let a : suc x - suc (length e) ≡ x - length e = omega arith in
    let b : x - length (e ++ f) ≡ suc x - suc (length (e ++ f)) = omega arith in
    ap (λ n. sub f (value_or_var (slice_get e x) n)) a ∙ var_twice e f x ∙ ap (value_or_var (slice_get (e ++ f) x)) b

slot_twice : (e f : ValueScope) (x : ℕ) → sub_pattern f (known_or_slot (slice_get e x) (x - length e)) ≡ known_or_slot
    (slice_get (e ++ f) x) (x - length (e ++ f))
slot_twice [] f x = let z : x - 0 ≡ x = omega arith in ap (λ n. sub_pattern f (slot n)) z
slot_twice (v ∷ e) f zero = refl
slot_twice (v ∷ e) f (suc x) =
    let a : suc x - suc (length e) ≡ x - length e = omega arith in
    let b : x - length (e ++ f) ≡ suc x - suc (length (e ++ f)) = omega arith in
    ap (λ n. sub_pattern f (known_or_slot (slice_get e x) n)) a ∙ slot_twice e f x
    ∙ ap (known_or_slot (slice_get (e ++ f) x)) b

mutual
  pub pattern_twice : (e f : ValueScope) (p : Pattern) → sub_pattern f (sub_pattern e p) ≡ sub_pattern (e ++ f) p
  pattern_twice e f any = refl
  pattern_twice e f new = refl
  pattern_twice e f (slot x) = slot_twice e f x
  pattern_twice e f (known v) = refl
  pattern_twice e f (tuple_of ps) = ap tuple_of (patterns_twice e f ps)
  pattern_twice e f (cons_of p q) = let a = pattern_twice e f p in let b = pattern_twice e f q in cc
  pattern_twice e f never = refl

  pub patterns_twice : (e f : ValueScope) (ps : Patterns)
      → sub_patterns f (sub_patterns e ps) ≡ sub_patterns (e ++ f) ps
  patterns_twice e f no_patterns = refl
  patterns_twice e f (pattern p ps) = let a = pattern_twice e f p in let b = patterns_twice e f ps in cc

mutual
  pub sub_twice : (e f : ValueScope) (t : Tree) → sub f (sub e t) ≡ sub (e ++ f) t
  sub_twice e f (lit v) = refl
  sub_twice e f (var x) = var_twice e f x
  sub_twice e f (tuple ts) = ap tuple (trees_twice e f ts)
  sub_twice e f (cons a b) = let p = sub_twice e f a in let q = sub_twice e f b in cc
  sub_twice e f (op o a b) = let p = sub_twice e f a in let q = sub_twice e f b in cc
  sub_twice e f (neg a) = ap neg (sub_twice e f a)
  sub_twice e f (and_also a b) = let p = sub_twice e f a in let q = sub_twice e f b in cc
  sub_twice e f (or_else a b) = let p = sub_twice e f a in let q = sub_twice e f b in cc
  sub_twice e f (call g ts) = ap (call g) (trees_twice e f ts)
  sub_twice e f (builtin g ts) = ap (builtin g) (trees_twice e f ts)
  sub_twice e f (match ps a) = let p = patterns_twice e f ps in let q = sub_twice e f a in cc
  sub_twice e f (bind ps a r) = let p = patterns_twice e f ps in let q = sub_twice e f a in
      let s = sub_twice e f r in cc
  sub_twice e f (case a cs) = let p = sub_twice e f a in let q = clauses_twice e f cs in cc
  sub_twice e f (if_expression cs) = ap if_expression (clauses_twice e f cs)
  sub_twice e f (receive cs) = ap receive (clauses_twice e f cs)
  sub_twice e f (send a b) = let p = sub_twice e f a in let q = sub_twice e f b in cc

  pub trees_twice : (e f : ValueScope) (ts : Trees) → sub_trees f (sub_trees e ts) ≡ sub_trees (e ++ f) ts
  trees_twice e f no_trees = refl
  trees_twice e f (tree t ts) = let p = sub_twice e f t in let q = trees_twice e f ts in cc

  pub clauses_twice : (e f : ValueScope) (cs : Clauses) → sub_clauses f (sub_clauses e cs) ≡ sub_clauses (e ++ f) cs
  clauses_twice e f no_clauses = refl
  clauses_twice e f (clause p g b cs) =
      let a = pattern_twice e f p in let c = guard_twice e f g in let d = sub_twice e f b in
      let h = clauses_twice e f cs in cc

  pub guard_twice : (e f : ValueScope) (g : Guard) → sub_guard f (sub_guard e g) ≡ sub_guard (e ++ f) g
  guard_twice e f no_alternatives = refl
  guard_twice e f (alternative ts g) = let p = trees_twice e f ts in let q = guard_twice e f g in cc
