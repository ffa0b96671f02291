-- How much is left to compile.
use Rattle.std.proofs.Common.{◌≡◌, ◌≤◌, ◌+◌, ◌-◌, ℕ, List, [], ◌∷◌, length, take, drop, get_or, sym, subst, arith}
use Rattle.pf_syntax.specs.Module.{Tables}
use Rattle.pf_syntax.specs.Over.{part_over, parts_over, patterns_at, clauses_over}
use Rattle.pf_syntax.specs.Pattern.{Patterns}
use Rattle.pf_syntax.specs.declared.node.PatternId.{PatternId}
use Rattle.pf_syntax.specs.declared.node.Clause.{Clause}
use Rattle.pf_syntax.specs.declared.node.Operand.{Operand}
use Rattle.pf_syntax.specs.declared.operator.Builtin.{Builtin}
use Rattle.pf_compile_patterns.proofs.Grown.{rest_of}
use Rattle.pf_syntax.specs.Tree.{Tree, Trees, lit, var, tuple, cons, op, neg, and_also, or_else, call, builtin, match}
use Rattle.pf_syntax.specs.Tree.{bind, case, if_expression, receive, send, no_trees, tree}
use Rattle.pf_syntax.specs.Tree.{Clauses, no_clauses, clause}
use Rattle.pf_compile_patterns.proofs.Plans.{pattern_count, count_at}

-- the nodes of a tree, with the patterns of its matches
abbrev mutual
  pub weight : Tree → ℕ
  weight (lit v) = 1
  weight (var x) = 1
  weight (tuple ts) = 1 + weights ts
  weight (cons a b) = 1 + weight a + weight b
  weight (op o a b) = 1 + weight a + weight b
  weight (neg a) = 1 + weight a
  weight (and_also a b) = 1 + weight a + weight b
  weight (or_else a b) = 1 + weight a + weight b
  weight (call f ts) = 1 + weights ts
  weight (builtin f ts) = 1 + weights ts
  weight (match ps a) = 1 + weight a
  weight (bind ps a r) = 1 + pattern_count ps + weight a + weight r
  weight (case a ks) = 1 + weight a + clauses_weight ks
  weight (if_expression ks) = 1 + clauses_weight ks
  weight (receive ks) = 1 + clauses_weight ks
  weight (send a b) = 1 + weight a + weight b

  pub weights : Trees → ℕ
  weights no_trees = 0
  weights (tree t ts) = weight t + weights ts

  pub clauses_weight : Clauses → ℕ
  clauses_weight no_clauses = 0
  clauses_weight (clause p g b ks) = 1 + weight b + clauses_weight ks

pub weight_pos : (t : Tree) → 1 ≤ weight t
weight_pos (lit v) = omega arith
weight_pos (var x) = omega arith
weight_pos (tuple ts) = omega arith
weight_pos (cons a b) = omega arith
weight_pos (op o a b) = omega arith
weight_pos (neg a) = omega arith
weight_pos (and_also a b) = omega arith
weight_pos (or_else a b) = omega arith
weight_pos (call f ts) = omega arith
weight_pos (builtin f ts) = omega arith
weight_pos (match ps a) = omega arith
weight_pos (bind ps a r) = omega arith
weight_pos (case a ks) = omega arith
weight_pos (if_expression ks) = omega arith
weight_pos (receive ks) = omega arith
weight_pos (send a b) = omega arith

pub weights_rest : (t : Tables) (ps : List Operand) → 1 ≤ length ps
    → weights (parts_over t (take (length ps - 1) (drop 1 ps))) + 1 ≤ weights (parts_over t ps)
weights_rest t [] l = absurd (omega arith)
weights_rest t (p ∷ ps) l =
    let h = weight_pos (part_over t p) in
    subst (λ qs. weights (parts_over t qs) + 1 ≤ weights (parts_over t (p ∷ ps))) (sym (rest_of p ps)) (omega arith)

pub weights_first : (t : Tables) (ps : List Operand) (d : Operand) → 1 ≤ length ps
    → weight (part_over t (get_or ps 0 d)) ≤ weights (parts_over t ps)
weights_first t [] d l = absurd (omega arith)
weights_first t (p ∷ ps) d l = omega arith

pub tuple_weight : (x : Tree) (ts : Trees) → x ≡ tuple ts → weights ts + 1 ≤ weight x
tuple_weight x ts e = rw e (omega arith)

pub builtin_weight : (x : Tree) (f : Builtin) (ts : Trees) → x ≡ builtin f ts → weights ts + 1 ≤ weight x
builtin_weight x f ts e = rw e (omega arith)

pub call_weight : (x : Tree) (f : ℕ) (ts : Trees) → x ≡ call f ts → weights ts + 1 ≤ weight x
call_weight x f ts e = rw e (omega arith)

pub match_weight : (x : Tree) (ps : Patterns) (a : Tree) → x ≡ match ps a → weight a + 1 ≤ weight x
match_weight x ps a e = rw e (omega arith)

pub bind_weight : (x : Tree) (t : Tables) (ids : List PatternId) (a r : Tree) → x ≡ bind (patterns_at t ids) a r
    → weight a + weight r + length ids + 1 ≤ weight x
bind_weight x t ids a r e = rw e (let h = count_at t ids in omega arith)

pub case_weight : (x a : Tree) (ks : Clauses) → x ≡ case a ks → weight a + clauses_weight ks + 1 ≤ weight x
case_weight x a ks e = rw e (omega arith)

pub if_weight : (x : Tree) (ks : Clauses) → x ≡ if_expression ks → clauses_weight ks + 1 ≤ weight x
if_weight x ks e = rw e (omega arith)

pub receive_weight : (x : Tree) (ks : Clauses) → x ≡ receive ks → clauses_weight ks + 1 ≤ weight x
receive_weight x ks e = rw e (omega arith)

pub clauses_rest : (t : Tables) (ks : List Clause) (d : Clause) → 1 ≤ length ks
    → clauses_weight (clauses_over t (take (length ks - 1) (drop 1 ks))) + weight (part_over t (get_or ks 0 d).body) + 1
    ≤ clauses_weight (clauses_over t ks)
clauses_rest t [] d l = absurd (omega arith)
clauses_rest t (k ∷ ks) d l =
    subst (λ js. clauses_weight (clauses_over t js) + weight (part_over t k.body) + 1
    ≤ clauses_weight (clauses_over t (k ∷ ks))) (sym (rest_of k ks)) (omega arith)
