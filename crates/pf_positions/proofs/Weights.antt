-- How much there is to walk in a pattern and in a tree: a part has less than what it is part of.
use Rattle.std.proofs.Common.{◌≡◌, ℕ, zero, suc, ◌+◌, ◌<◌, List, [], ◌∷◌, Some, length, get_or, refl, ap, arith}
use Rattle.pf_syntax.specs.Pattern.{Pattern, Patterns, any, new, slot, known, tuple_of, cons_of, never, no_patterns}
use Rattle.pf_syntax.specs.Pattern.{pattern}
use Rattle.pf_syntax.specs.Tree.{Tree, Trees, Clauses, Guard, lit, var, tuple, cons, op, neg, and_also, or_else, call}
use Rattle.pf_syntax.specs.Tree.{builtin, match, bind, case, if_expression, receive, send, no_trees, tree, no_clauses}
use Rattle.pf_syntax.specs.Tree.{clause, no_alternatives, alternative}
use Rattle.pf_syntax.specs.Module.{Tables, pattern_at}
use Rattle.pf_syntax.specs.Over.{patterns_at, part_over, parts_over, guard_over, guard_from, alternatives_over}
use Rattle.pf_syntax.specs.Over.{clauses_over}
use Rattle.pf_syntax.specs.declared.node.PatternId.{PatternId}
use Rattle.pf_syntax.specs.declared.node.Operand.{Operand}
use Rattle.pf_syntax.specs.declared.node.Alternative.{Alternative}
use Rattle.pf_syntax.specs.declared.node.Clause.{Clause}
use Rattle.pf_positions.specs.Added.{last_part}

abbrev mutual
  pub pattern_weight : Pattern → ℕ
  pattern_weight any = 1
  pattern_weight new = 1
  pattern_weight (slot x) = 1
  pattern_weight (known v) = 1
  pattern_weight (tuple_of ps) = 1 + patterns_weight ps
  pattern_weight (cons_of p q) = 1 + (pattern_weight p + pattern_weight q)
  pattern_weight never = 1

  pub patterns_weight : Patterns → ℕ
  patterns_weight no_patterns = 1
  patterns_weight (pattern p ps) = 1 + (pattern_weight p + patterns_weight ps)

abbrev mutual
  pub weight : Tree → ℕ
  weight (lit v) = 1
  weight (var x) = 1
  weight (tuple ts) = 1 + weights ts
  weight (cons a b) = 1 + (weight a + weight b)
  weight (op o a b) = 1 + (weight a + weight b)
  weight (neg a) = 1 + weight a
  weight (and_also a b) = 1 + (weight a + weight b)
  weight (or_else a b) = 1 + (weight a + weight b)
  weight (call f ts) = 1 + weights ts
  weight (builtin f ts) = 1 + weights ts
  weight (match ps a) = 1 + weight a
  weight (bind ps a r) = 1 + (weight a + weight r)
  weight (case a cs) = 1 + (weight a + clauses_weight cs)
  weight (if_expression cs) = 1 + clauses_weight cs
  weight (receive cs) = 1 + clauses_weight cs
  weight (send a b) = 1 + (weight a + weight b)

  pub weights : Trees → ℕ
  weights no_trees = 1
  weights (tree t ts) = 1 + (weight t + weights ts)

  pub clauses_weight : Clauses → ℕ
  clauses_weight no_clauses = 1
  clauses_weight (clause p g b cs) = 1 + ((1 + (guard_weight g + weight b)) + clauses_weight cs)

  pub guard_weight : Guard → ℕ
  guard_weight no_alternatives = 1
  guard_weight (alternative ts g) = 1 + (weights ts + guard_weight g)

-- of a clause by itself
abbrev pub clause_weight : Tables → Clause → ℕ
clause_weight t c = 1 + (guard_weight (guard_over t c.guard) + weight (part_over t c.body))

-- ---- elements of lists

pub pattern_lighter : (t : Tables) (ps : List PatternId) (i : ℕ) (d : PatternId) → i < length ps
    → pattern_weight (pattern_at t (get_or ps i d).0) < patterns_weight (patterns_at t ps)
pattern_lighter t [] i d lt = absurd (omega arith)
pattern_lighter t (p ∷ ps) zero d lt = omega arith
pattern_lighter t (p ∷ ps) (suc i) d lt = let h = pattern_lighter t ps i d (omega arith) in omega arith

pub tree_lighter : (t : Tables) (ps : List Operand) (i : ℕ) (d : Operand) → i < length ps
    → weight (part_over t (get_or ps i d)) < weights (parts_over t ps)
tree_lighter t [] i d lt = absurd (omega arith)
tree_lighter t (p ∷ ps) zero d lt = omega arith
tree_lighter t (p ∷ ps) (suc i) d lt = let h = tree_lighter t ps i d (omega arith) in omega arith

pub clause_lighter : (t : Tables) (cs : List Clause) (i : ℕ) (d : Clause) → i < length cs
    → clause_weight t (get_or cs i d) < clauses_weight (clauses_over t cs)
clause_lighter t [] i d lt = absurd (omega arith)
clause_lighter t (c ∷ cs) zero d lt = omega arith
clause_lighter t (c ∷ cs) (suc i) d lt = let h = clause_lighter t cs i d (omega arith) in omega arith

pub alternative_lighter : (t : Tables) (gs : List Alternative) (i : ℕ) (d : Alternative) → i < length gs
    → weights (parts_over t (get_or gs i d).tests.items) < guard_weight (alternatives_over t gs)
alternative_lighter t [] i d lt = absurd (omega arith)
alternative_lighter t (g ∷ gs) zero d lt = omega arith
alternative_lighter t (g ∷ gs) (suc i) d lt = let h = alternative_lighter t gs i d (omega arith) in omega arith

-- where there are alternatives, the guard is made of them
pub guard_of_some : (t : Tables) (gs : List Alternative) (i : ℕ) → i < length gs
    → guard_from t gs ≡ alternatives_over t gs
guard_of_some t [] i lt = absurd (omega arith)
guard_of_some t (g ∷ gs) i lt = refl

-- ---- the part that is last

pub last_lighter : (t u : Tree) → last_part t ≡ Some u → weight u < weight t
last_lighter (cons a b) u is = let e : b ≡ u = cc in let w = ap weight e in omega arith
last_lighter (bind ps a r) u is = let e : r ≡ u = cc in let w = ap weight e in omega arith
last_lighter (lit v) u is = absurd (cc)
last_lighter (var x) u is = absurd (cc)
last_lighter (tuple ts) u is = absurd (cc)
last_lighter (op o a b) u is = absurd (cc)
last_lighter (neg a) u is = absurd (cc)
last_lighter (and_also a b) u is = absurd (cc)
last_lighter (or_else a b) u is = absurd (cc)
last_lighter (call f ts) u is = absurd (cc)
last_lighter (builtin f ts) u is = absurd (cc)
last_lighter (match ps a) u is = absurd (cc)
last_lighter (case a cs) u is = absurd (cc)
last_lighter (if_expression cs) u is = absurd (cc)
last_lighter (receive cs) u is = absurd (cc)
last_lighter (send a b) u is = absurd (cc)
