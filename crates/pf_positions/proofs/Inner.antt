-- The first part of a tree that takes a step.
use Rattle.std.proofs.Common.{◌≡◌, ℕ, zero, suc, ◌+◌, ◌<◌, ◌≤◌, Bool, true, false, List, [], ◌∷◌, Option, Some, refl}
use Rattle.std.proofs.Common.{sym, ap, ◌∙◌, drop, map, inl, inr, arith}
use Rattle.std.specs.Prelude.{find, if◌then◌else◌, ◌⊎◌}
use Rattle.std.specs.Global.{Vec}
use Rattle.std.proofs.lemmas.List.{drop-map}
use Rattle.std.proofs.lemmas.Option.{none-some, same_Some}
use Rattle.pf_syntax.specs.Tree.{Tree, Trees, lit, var, tuple, cons, op, neg, and_also, or_else, call, builtin, match}
use Rattle.pf_syntax.specs.Tree.{bind, case, if_expression, receive, send, no_trees, tree}
use Rattle.pf_syntax.specs.Module.{Tables}
use Rattle.pf_syntax.specs.Over.{part_over, parts_over, tree_over}
use Rattle.pf_syntax.specs.declared.node.PatternId.{PatternId}
use Rattle.pf_syntax.specs.declared.node.FunctionId.{FunctionId}
use Rattle.pf_syntax.specs.declared.node.Operand.{Operand}
use Rattle.pf_syntax.specs.declared.node.Clause.{Clause}
use Rattle.pf_syntax.specs.declared.node.Node.{Node}
use Rattle.pf_syntax.specs.declared.node.Node.TheVariants as does
use Rattle.pf_syntax.specs.declared.operator.Operator.{Operator}
use Rattle.pf_syntax.specs.declared.operator.Builtin.{Builtin}
use Rattle.pf_positions.specs.Innermost.{next_part, parts, takes_step, tree_list}
use Rattle.pf_positions.proofs.Weights.{weight, weights}

-- ---- the parts are those of the operands

pub trees_of : (t : Tables) (ps : List Operand) → tree_list (parts_over t ps) ≡ map (part_over t) ps
trees_of t [] = refl
trees_of t (p ∷ ps) = ap (λ (ts : List Tree). part_over t p ∷ ts) (trees_of t ps)

-- the operands of a node that are worked out before it
abbrev pub operands : Node → List Operand
operands (does.Tuple ps) = ps.items
operands (does.Cons a b) = a ∷ b ∷ []
operands (does.Binary o a b) = a ∷ b ∷ []
operands (does.Negate a) = a ∷ []
operands (does.AndAlso a b) = a ∷ []
operands (does.OrElse a b) = a ∷ []
operands (does.Call f ps) = ps.items
operands (does.Builtin f ps) = ps.items
operands (does.Match ps a) = a ∷ []
operands (does.Bind ps a r) = a ∷ []
operands (does.Case a cs) = a ∷ []
operands (does.If cs) = []
operands (does.Receive cs) = []
operands (does.Send a b) = a ∷ b ∷ []

parts_of : (t : Tables) (n : Node) → parts (tree_over t n) ≡ map (part_over t) (operands n)
parts_of t (does.Tuple ps) = trees_of t ps.items
parts_of t (does.Cons a b) = refl
parts_of t (does.Binary o a b) = refl
parts_of t (does.Negate a) = refl
parts_of t (does.AndAlso a b) = refl
parts_of t (does.OrElse a b) = refl
parts_of t (does.Call f ps) = trees_of t ps.items
parts_of t (does.Builtin f ps) = trees_of t ps.items
parts_of t (does.Match ps a) = refl
parts_of t (does.Bind ps a r) = refl
parts_of t (does.Case a cs) = refl
parts_of t (does.If cs) = refl
parts_of t (does.Receive cs) = refl
parts_of t (does.Send a b) = refl

-- one operand, two or several, by the forms of nodes that have them
pub one_operand : (n : Node) (a : Operand)
    → (n ≡ does.Negate a) ⊎ (((x : Operand) × (n ≡ does.AndAlso a x))
    ⊎ (((x : Operand) × (n ≡ does.OrElse a x)) ⊎ (((ps : Vec PatternId) × (n ≡ does.Match ps a))
    ⊎ (((ps : Vec PatternId) × (r : Operand) × (n ≡ does.Bind ps a r)) ⊎ ((cs : Vec Clause) × (n ≡ does.Case a cs))))))
    → a ∷ [] ≡ operands n
one_operand n a (inl e) = sym (ap operands e)
one_operand n a (inr (inl p)) = sym (ap operands p.1)
one_operand n a (inr (inr (inl p))) = sym (ap operands p.1)
one_operand n a (inr (inr (inr (inl p)))) = sym (ap operands p.1)
one_operand n a (inr (inr (inr (inr (inl p))))) = sym (ap operands p.2)
one_operand n a (inr (inr (inr (inr (inr p))))) = sym (ap operands p.1)

pub two_operands : (n : Node) (a b : Operand)
    → (n ≡ does.Cons a b) ⊎ (((o : Operator) × (n ≡ does.Binary o a b)) ⊎ (n ≡ does.Send a b)) → a ∷ b ∷ [] ≡ operands n
two_operands n a b (inl e) = sym (ap operands e)
two_operands n a b (inr (inl p)) = sym (ap operands p.1)
two_operands n a b (inr (inr e)) = sym (ap operands e)

pub several_operands : (n : Node) (ps : Vec Operand)
    → (n ≡ does.Tuple ps) ⊎ (((f : FunctionId) × (n ≡ does.Call f ps)) ⊎ ((f : Builtin) × (n ≡ does.Builtin f ps)))
    → ps.items ≡ operands n
several_operands n ps (inl e) = sym (ap operands e)
several_operands n ps (inr (inl p)) = sym (ap operands p.1)
several_operands n ps (inr (inr p)) = sym (ap operands p.1)

pub next_of : (t : Tables) (n : Node) (ps rest : List Operand) (done : ℕ) (u : Tree) (found : Option Tree)
    → tree_over t n ≡ u → ps ≡ operands n
    → rest ≡ drop done ps → found ≡ find takes_step (map (part_over t) rest) → found ≡ next_part done u
next_of t n ps rest done u found nu are following is =
    is
    ∙ ap (λ (xs : List Operand). find takes_step (map (part_over t) xs)) (following ∙ ap (drop done) are)
    ∙ ap (find takes_step) (sym (drop-map (part_over t) done (operands n)))
    ∙ ap (λ (ts : List Tree). find takes_step (drop done ts)) (sym (parts_of t n))
    ∙ ap (next_part done) nu

-- ---- it is lighter

abbrev total : Trees → ℕ
total no_trees = 0
total (tree t ts) = weight t + total ts

total_lighter : (ts : Trees) → total ts ≤ weights ts
total_lighter no_trees = omega arith
total_lighter (tree t ts) = let h = total_lighter ts in omega arith

none_found : (n : ℕ) (u : Tree) → find takes_step (drop n []) ≡ Some u → ⊥
none_found zero u e = none-some u e
none_found (suc n) u e = none-some u e

found_here : (b : Bool) (t u : Tree) (rest : Option Tree) (m : ℕ) → (rest ≡ Some u → weight u ≤ m)
    → (if b then Some t else rest) ≡ Some u → weight u ≤ weight t + m
found_here true t u rest m h e = let w = ap weight (same_Some t u e) in omega arith
found_here false t u rest m h e = let w = h e in omega arith

found_lighter : (n : ℕ) (ts : Trees) (u : Tree) → find takes_step (drop n (tree_list ts)) ≡ Some u → weight u ≤ total ts
found_lighter n no_trees u e = absurd (none_found n u e)
found_lighter zero (tree t ts) u e = found_here (takes_step t) t u (find takes_step (tree_list ts)) (total ts)
    (found_lighter zero ts u) e
found_lighter (suc n) (tree t ts) u e = let h = found_lighter n ts u e in omega arith

pub next_lighter : (n : ℕ) (t u : Tree) → next_part n t ≡ Some u → weight u < weight t
next_lighter n (lit v) u e = absurd (none_found n u e)
next_lighter n (var x) u e = absurd (none_found n u e)
next_lighter n (tuple ts) u e = let h = found_lighter n ts u e in let k = total_lighter ts in omega arith
next_lighter n (cons a b) u e = let h = found_lighter n (tree a (tree b no_trees)) u e in omega arith
next_lighter n (op o a b) u e = let h = found_lighter n (tree a (tree b no_trees)) u e in omega arith
next_lighter n (neg a) u e = let h = found_lighter n (tree a no_trees) u e in omega arith
next_lighter n (and_also a b) u e = let h = found_lighter n (tree a no_trees) u e in omega arith
next_lighter n (or_else a b) u e = let h = found_lighter n (tree a no_trees) u e in omega arith
next_lighter n (call f ts) u e = let h = found_lighter n ts u e in let k = total_lighter ts in omega arith
next_lighter n (builtin f ts) u e = let h = found_lighter n ts u e in let k = total_lighter ts in omega arith
next_lighter n (match ps a) u e = let h = found_lighter n (tree a no_trees) u e in omega arith
next_lighter n (bind ps a r) u e = let h = found_lighter n (tree a no_trees) u e in omega arith
next_lighter n (case a cs) u e = let h = found_lighter n (tree a no_trees) u e in omega arith
next_lighter n (if_expression cs) u e = absurd (none_found n u e)
next_lighter n (receive cs) u e = absurd (none_found n u e)
next_lighter n (send a b) u e = let h = found_lighter n (tree a (tree b no_trees)) u e in omega arith
