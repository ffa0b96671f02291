-- How much is left to compile.
use Rattle.std.proofs.Common.{◌≡◌, ◌≤◌, ◌+◌, ◌-◌, ℕ, List, [], ◌∷◌, length, take, drop, sym, subst, arith}
use Rattle.pf_syntax.specs.Module.{Tables}
use Rattle.pf_syntax.specs.Over.{part_over, parts_over}
use Rattle.pf_syntax.specs.declared.node.Operand.{Operand}
use Rattle.pf_syntax.specs.declared.operator.Builtin.{Builtin}
use Rattle.pf_compile_patterns.proofs.Grown.{rest_of}
use Rattle.pf_syntax.specs.Tree.{Tree, Trees, lit, var, tuple, cons, op, neg, and_also, or_else, call, builtin, match}
use Rattle.pf_syntax.specs.Tree.{bind, case, if_expression, receive, send, no_trees, tree, tree_size, size_in}

-- the nodes of several trees together
abbrev pub parts_size : Trees → ℕ
parts_size no_trees = 0
parts_size (tree t ts) = tree_size t + parts_size ts

pub size_pos : (t : Tree) → 1 ≤ tree_size t
size_pos (lit v) = omega arith
size_pos (var x) = omega arith
size_pos (tuple ts) = omega arith
size_pos (cons a b) = omega arith
size_pos (op o a b) = omega arith
size_pos (neg a) = omega arith
size_pos (and_also a b) = omega arith
size_pos (or_else a b) = omega arith
size_pos (call f ts) = omega arith
size_pos (builtin f ts) = omega arith
size_pos (match ps a) = omega arith
size_pos (bind ps a r) = omega arith
size_pos (case a ks) = omega arith
size_pos (if_expression ks) = omega arith
size_pos (receive ks) = omega arith
size_pos (send a b) = omega arith

pub parts_within : (ts : Trees) → parts_size ts ≤ size_in ts
parts_within no_trees = omega arith
parts_within (tree t ts) = let h = parts_within ts in omega arith

-- operands of a node are lighter
pub tuple_lighter : (x : Tree) (ts : Trees) → x ≡ tuple ts → parts_size ts + 1 ≤ tree_size x
tuple_lighter x ts e = rw e (let h = parts_within ts in omega arith)

pub builtin_lighter : (x : Tree) (f : Builtin) (ts : Trees) → x ≡ builtin f ts → parts_size ts + 1 ≤ tree_size x
builtin_lighter x f ts e = rw e (let h = parts_within ts in omega arith)

pub rest_lighter : (t : Tables) (ps : List Operand) → 1 ≤ length ps
    → parts_size (parts_over t (take (length ps - 1) (drop 1 ps))) + 1 ≤ parts_size (parts_over t ps)
rest_lighter t [] l = absurd (omega arith)
rest_lighter t (p ∷ ps) l =
    let h = size_pos (part_over t p) in
    subst (λ qs. parts_size (parts_over t qs) + 1 ≤ parts_size (parts_over t (p ∷ ps))) (sym (rest_of p ps))
    (omega arith)
