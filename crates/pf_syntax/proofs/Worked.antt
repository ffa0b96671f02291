-- The worked bodies become what they should.
use Rattle.std.specs.Prelude.{◌≡◌, ℕ, zero, suc, [], pos}
use Rattle.std.proofs.Common.{refl}
use Rattle.pf_terms.specs.Value.{int}
use Rattle.pf_syntax.specs.Pattern.{Pattern, Patterns, new, slot, tuple_of, no_patterns, pattern}
use Rattle.pf_syntax.specs.ExprPattern.{no_expr_patterns, expr_pattern}
use Rattle.pf_syntax.specs.ExprPattern as s
use Rattle.pf_syntax.specs.Tree.{Tree, lit, var}
use Rattle.pf_syntax.specs.declared.operator.Operator.TheVariants.{Plus}
use Rattle.pf_syntax.specs.Tree as t
use Rattle.pf_syntax.specs.Expr.{no_exprs, expr}
use Rattle.pf_syntax.specs.Expr as p
use Rattle.pf_syntax.specs.Scope.{Scope, no_scope, after, after_expr_pattern}
use Rattle.pf_syntax.specs.Naming as n
use Rattle.pf_syntax.specs.Naming.{BodyIs, ElementIs, ExprIs, ExprPatternIs}
use Rattle.pf_syntax.specs.Worked.{atoms_alone, x, x_expr_pattern, y_expr_pattern, one_expr, doubled, doubled_tree}
use Rattle.pf_syntax.specs.Worked.{chained, chained_tree, choosing, used_unsafe, matched_unsafe, unbound}
use Rattle.pf_syntax.specs.Worked.{NamesBecomeSlots}

-- with no variable bound, no variable has a slot
no_slot : (g : Scope) (y k : ℕ) → g.bound ≡ [] → ¬ n.IsSlotOf g y k
no_slot g y zero none h = cc
no_slot g y (suc k) none h = cc

x_is_nothing : (g : Scope) → g.bound ≡ [] → (t : Tree) → ¬ ExprIs atoms_alone g x t
x_is_nothing g none _ (n.variable _ _ _ k h) = no_slot g 0 k none h

x_is_no_element : (g : Scope) → g.bound ≡ [] → (ps : Patterns) (t : Tree) → ¬ ElementIs atoms_alone g x ps t
x_is_no_element g none _ _ (n.plain _ _ t h) = x_is_nothing g none t h

unbound_is_nothing : (g : Scope) → g.bound ≡ [] → (b : Tree) → ¬ BodyIs atoms_alone g unbound b
unbound_is_nothing g none _ (n.last _ _ ps t h) = x_is_no_element g none ps t h
unbound_is_nothing g none _ (n.before _ _ _ ps _ rest _ h) = elim h [ ]

used_unsafe_is_nothing : (b : Tree) → ¬ BodyIs atoms_alone no_scope used_unsafe b
used_unsafe_is_nothing _ (n.before _ _ _ ps t rest h r) = unbound_is_nothing (after no_scope choosing) refl rest r

-- X where it is unsafe is no pattern, and X = 1 there is no element and no body
x_is_no_pattern : (q : Pattern) → ¬ ExprPatternIs atoms_alone (after no_scope choosing) x_expr_pattern q
x_is_no_pattern _ (n.bound _ _ _ k h) = no_slot (after no_scope choosing) 0 k refl h
x_is_no_pattern _ (n.fresh _ _ _ h) = cc

match_is_no_element : (ps : Patterns) (t : Tree)
    → ¬ ElementIs atoms_alone (after no_scope choosing) (p.match x_expr_pattern one_expr) ps t
match_is_no_element _ _ (n.plain _ _ t h) = elim h [ ]
match_is_no_element _ _ (n.match _ _ _ ps q t h k) = x_is_no_pattern q k

match_is_no_body : (b : Tree) → ¬ BodyIs atoms_alone (after no_scope choosing)
    (expr (p.match x_expr_pattern one_expr) no_exprs) b
match_is_no_body _ (n.last _ _ ps t h) = match_is_no_element ps t h
match_is_no_body _ (n.before _ _ _ ps _ rest _ h) = elim h [ ]

matched_unsafe_is_nothing : (b : Tree) → ¬ BodyIs atoms_alone no_scope matched_unsafe b
matched_unsafe_is_nothing _ (n.before _ _ _ ps t rest h r) = match_is_no_body rest r

abbrev a_one : Tree
a_one = lit (int (pos 1))

-- what is seen once X is bound
abbrev x_seen : Scope
x_seen = after no_scope (p.match x_expr_pattern one_expr)

one_is : ElementIs atoms_alone no_scope one_expr no_patterns a_one
one_is = n.plain no_scope one_expr a_one (n.integer no_scope (pos 1))

x_is_one : ElementIs atoms_alone no_scope (p.match x_expr_pattern one_expr) (pattern new no_patterns) a_one
x_is_one = n.match no_scope x_expr_pattern one_expr no_patterns new a_one one_is (n.fresh no_scope 0 0 refl)

x_is : ExprIs atoms_alone x_seen x (var 0)
x_is = n.variable x_seen 0 0 0 refl

doubled_is : BodyIs atoms_alone no_scope doubled doubled_tree
doubled_is =
    let twice = p.binary Plus x x in
    let sum = t.op Plus (var 0) (var 0) in
    let rest = n.last x_seen twice no_patterns sum
    (n.plain x_seen twice sum (n.binary x_seen Plus x x (var 0) (var 0) x_is x_is)) in
    n.before no_scope (p.match x_expr_pattern one_expr) (expr twice no_exprs) (pattern new no_patterns) a_one
    sum x_is_one rest

both_are : n.ExprPatternsAre atoms_alone x_seen
    (expr_pattern x_expr_pattern (expr_pattern y_expr_pattern no_expr_patterns))
    (pattern (slot 0) (pattern new no_patterns))
both_are =
    let y_is = n.and_expr_patterns x_seen y_expr_pattern no_expr_patterns new no_patterns (n.fresh x_seen 1 0 refl)
    (n.no_more_expr_patterns (after_expr_pattern x_seen y_expr_pattern)) in
    n.and_expr_patterns x_seen x_expr_pattern (expr_pattern y_expr_pattern no_expr_patterns) (slot 0)
    (pattern new no_patterns) (n.bound x_seen 0 0 0 refl) y_is

chained_is : BodyIs atoms_alone no_scope chained chained_tree
chained_is =
    let first = pattern new no_patterns in
    let pair = expr_pattern x_expr_pattern (expr_pattern y_expr_pattern no_expr_patterns) in
    let pair_pattern = pattern (slot 0) (pattern new no_patterns) in
    let inner = p.match x_expr_pattern one_expr in
    let pair_is : ExprPatternIs atoms_alone x_seen (s.tuple pair) (tuple_of pair_pattern) =
    n.tuple x_seen pair pair_pattern both_are in
    let whole : ElementIs atoms_alone no_scope (p.match (s.tuple pair) inner)
    (pattern new (pattern (tuple_of pair_pattern) no_patterns)) a_one = n.match no_scope (s.tuple pair) inner first
    (tuple_of pair_pattern) a_one x_is_one pair_is in
    n.last no_scope (p.match (s.tuple pair) inner)
    (pattern new (pattern (tuple_of pair_pattern) no_patterns)) a_one whole

pub names_become_slots : NamesBecomeSlots
names_become_slots = record {
  doubled_is = doubled_is;
  chained_is = chained_is;
  unsafe_is_not_used =
      used_unsafe_is_nothing;
  unsafe_is_not_matched = matched_unsafe_is_nothing;
  unbound_is_not_used =
      unbound_is_nothing no_scope refl;
}
