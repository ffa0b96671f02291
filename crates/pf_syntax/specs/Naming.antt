-- How the names of a function clause become slots and numbers: what its patterns, its guard and its body become in the
-- checked module. What breaks a static rule on variables or on calls becomes nothing.
use Rattle.std.specs.Prelude.{◌≡◌, ℕ, ◌+◌, IsTrue, ℤ, pos, List, [], ◌∷◌, slice_get, Option, Some}
use Rattle.pf_terms.specs.Value.{Value, Values, int, atom as atom_value, list as list_value, none, more}
use Rattle.pf_syntax.specs.Pattern.{Pattern, Patterns, any, new, slot, known, tuple_of, cons_of, no_patterns, pattern}
use Rattle.pf_syntax.specs.ExprPattern as s
use Rattle.pf_syntax.specs.ExprPattern.{ExprPattern, ExprPatterns, no_expr_patterns, expr_pattern}
use Rattle.pf_syntax.specs.Expr as p
use Rattle.pf_syntax.specs.Expr.{Expr, Exprs, Condition, Branches, no_exprs, expr, no_tests, tests, no_branches, branch}
use Rattle.pf_syntax.specs.Tree as t
use Rattle.pf_syntax.specs.Tree.{Tree, Trees, Clauses, Guard, lit, var, no_trees, tree, no_clauses, clause}
use Rattle.pf_syntax.specs.Tree.{no_alternatives, alternative, FunctionClause}
use Rattle.pf_syntax.specs.declared.operator.Builtin.{Builtin}
use Rattle.pf_syntax.specs.declared.operator.Operator.{Operator}
use Rattle.pf_syntax.specs.SyntaxTree.{Head}
use Rattle.pf_syntax.specs.Scope.{Scope, no_scope, is_new, after_expr_pattern, after_expr_patterns, after, after_all}

-- what the names of atoms, own functions and built-ins stand for, the last two with a number of arguments
pub record Names : Type 0 where
  pub atom_of : ℕ → ℕ
  pub own_of : ℕ → ℕ → Option ℕ
  pub builtin_of : ℕ → ℕ → Option Builtin

-- the slot of a bound variable is the place of its name among the bound ones: the arguments' first, then in the order
-- of binding
abbrev pub IsSlotOf : Scope → ℕ → ℕ → Type 0
IsSlotOf g x k = slice_get g.bound k ≡ Some x

-- a string is the list of its character codes
abbrev pub characters : List ℕ → Values
characters [] = none
characters (c ∷ cs) = more (int (pos c)) (characters cs)

abbrev pub string : List ℕ → Value
string cs = list_value (characters cs)

abbrev pub empty_list : Value
empty_list = list_value none

-- the elements of a list, one cons each, before its tail
abbrev pub conses_of : Patterns → Pattern → Pattern
conses_of no_patterns last = last
conses_of (pattern q qs) last = cons_of q (conses_of qs last)

abbrev pub conses : Trees → Tree → Tree
conses no_trees last = last
conses (tree x xs) last = t.cons x (conses xs last)

abbrev pub arity_of : Exprs → ℕ
arity_of no_exprs = 0
arity_of (expr e es) = 1 + arity_of es

-- one more pattern after the others
abbrev pub with_pattern : Patterns → Pattern → Patterns
with_pattern no_patterns y = pattern y no_patterns
with_pattern (pattern x xs) y = pattern x (with_pattern xs y)

-- the last element of a body, with the patterns of its matches
abbrev pub ending : Patterns → Tree → Tree
ending no_patterns x = x
ending (pattern y ys) x = t.match (pattern y ys) x

-- a pattern, where this is seen: a bound variable is its slot; a new one has no number, since it takes the next slot
mutual
  pub data ExprPatternIs (n : Names) : Scope → ExprPattern → Pattern → Type 0 where
    integer : (g : Scope) (z : ℤ) → ExprPatternIs n g (s.integer z) (known (int z))
    atom : (g : Scope) (a : ℕ) → ExprPatternIs n g (s.atom a) (known (atom_value (n.atom_of a)))
    text : (g : Scope) (cs : List ℕ) → ExprPatternIs n g (s.text cs) (known (string cs))
    anything : (g : Scope) → ExprPatternIs n g s.anything any
    bound : (g : Scope) (x at k : ℕ) → IsSlotOf g x k → ExprPatternIs n g (s.variable x at) (slot k)
    fresh : (g : Scope) (x at : ℕ) → IsTrue (is_new g x) → ExprPatternIs n g (s.variable x at) new
    tuple : (g : Scope) (qs : ExprPatterns) (ys : Patterns) → ExprPatternsAre n g qs ys
        → ExprPatternIs n g (s.tuple qs) (tuple_of ys)
    list : (g : Scope) (qs : ExprPatterns) (ys : Patterns) → ExprPatternsAre n g qs ys
        → ExprPatternIs n g (s.list qs) (conses_of ys (known empty_list))
    list_on : (g : Scope) (qs : ExprPatterns) (q : ExprPattern) (ys : Patterns) (y : Pattern)
        → ExprPatternsAre n g qs ys → ExprPatternIs n (after_expr_patterns g qs) q y
        → ExprPatternIs n g (s.list_on qs q) (conses_of ys y)

  pub data ExprPatternsAre (n : Names) : Scope → ExprPatterns → Patterns → Type 0 where
    no_more_expr_patterns : (g : Scope) → ExprPatternsAre n g no_expr_patterns no_patterns
    and_expr_patterns : (g : Scope) (q : ExprPattern) (qs : ExprPatterns) (y : Pattern) (ys : Patterns)
        → ExprPatternIs n g q y → ExprPatternsAre n (after_expr_pattern g q) qs ys
        → ExprPatternsAre n g (expr_pattern q qs) (pattern y ys)

mutual
  -- an expression, where this is seen: parentheses are gone, and a variable is its slot
  pub data ExprIs (n : Names) : Scope → Expr → Tree → Type 0 where
    integer : (g : Scope) (z : ℤ) → ExprIs n g (p.integer z) (lit (int z))
    atom : (g : Scope) (a : ℕ) → ExprIs n g (p.atom a) (lit (atom_value (n.atom_of a)))
    text : (g : Scope) (cs : List ℕ) → ExprIs n g (p.text cs) (lit (string cs))
    variable : (g : Scope) (x at k : ℕ) → IsSlotOf g x k → ExprIs n g (p.variable x at) (var k)
    parentheses : (g : Scope) (a : Expr) (x : Tree) → ExprIs n g a x → ExprIs n g (p.parentheses a) x
    tuple : (g : Scope) (es : Exprs) (xs : Trees) → ExprsAre n g es xs → ExprIs n g (p.tuple es) (t.tuple xs)
    list : (g : Scope) (es : Exprs) (xs : Trees) → ExprsAre n g es xs
        → ExprIs n g (p.list es) (conses xs (lit empty_list))
    list_on : (g : Scope) (es : Exprs) (e : Expr) (xs : Trees) (x : Tree) → ExprsAre n g es xs
        → ExprIs n (after_all g es) e x
        → ExprIs n g (p.list_on es e) (conses xs x)
    own : (g : Scope) (f at i : ℕ) (es : Exprs) (xs : Trees) → n.own_of f (arity_of es) ≡ Some i → ExprsAre n g es xs
        → ExprIs n g (p.call f at es) (t.call i xs)
    builtin : (g : Scope) (f at : ℕ) (b : Builtin) (es : Exprs) (xs : Trees) → n.builtin_of f (arity_of es) ≡ Some b
        → ExprsAre n g es xs
        → ExprIs n g (p.call f at es) (t.builtin b xs)
    binary : (g : Scope) (o : Operator) (a b : Expr) (x y : Tree) → ExprIs n g a x → ExprIs n (after g a) b y
        → ExprIs n g (p.binary o a b) (t.op o x y)
    negate : (g : Scope) (a : Expr) (x : Tree) → ExprIs n g a x → ExprIs n g (p.negate a) (t.neg x)
    and_also : (g : Scope) (a b : Expr) (x y : Tree) → ExprIs n g a x → ExprIs n (after g a) b y
        → ExprIs n g (p.and_also a b) (t.and_also x y)
    or_else : (g : Scope) (a b : Expr) (x y : Tree) → ExprIs n g a x → ExprIs n (after g a) b y
        → ExprIs n g (p.or_else a b) (t.or_else x y)
    send : (g : Scope) (a b : Expr) (x y : Tree) → ExprIs n g a x → ExprIs n (after g a) b y
        → ExprIs n g (p.send a b) (t.send x y)
    case : (g : Scope) (a : Expr) (bs : Branches) (x : Tree) (cs : Clauses) → ExprIs n g a x
        → BranchesAre n (after g a) bs cs
        → ExprIs n g (p.case a bs) (t.case x cs)
    if_expression : (g : Scope) (bs : Branches) (cs : Clauses) → BranchesAre n g bs cs
        → ExprIs n g (p.if_expression bs) (t.if_expression cs)
    receive : (g : Scope) (bs : Branches) (cs : Clauses) → BranchesAre n g bs cs
        → ExprIs n g (p.receive bs) (t.receive cs)

  pub data ExprsAre (n : Names) : Scope → Exprs → Trees → Type 0 where
    no_more : (g : Scope) → ExprsAre n g no_exprs no_trees
    and_more : (g : Scope) (e : Expr) (es : Exprs) (x : Tree) (xs : Trees) → ExprIs n g e x
        → ExprsAre n (after g e) es xs
        → ExprsAre n g (expr e es) (tree x xs)

  -- an element of a body: `P = Q = E` is the pattern Q, then P, and E
  pub data ElementIs (n : Names) : Scope → Expr → Patterns → Tree → Type 0 where
    plain : (g : Scope) (e : Expr) (x : Tree) → ExprIs n g e x → ElementIs n g e no_patterns x
    match : (g : Scope) (q : ExprPattern) (e : Expr) (ys : Patterns) (y : Pattern) (x : Tree) → ElementIs n g e ys x
        → ExprPatternIs n (after g e) q y
        → ElementIs n g (p.match q e) (with_pattern ys y) x

  -- a body: each element but the last is before the rest
  pub data BodyIs (n : Names) : Scope → Exprs → Tree → Type 0 where
    last : (g : Scope) (e : Expr) (ys : Patterns) (x : Tree) → ElementIs n g e ys x
        → BodyIs n g (expr e no_exprs) (ending ys x)
    before : (g : Scope) (e : Expr) (es : Exprs) (ys : Patterns) (x rest : Tree) → ElementIs n g e ys x
        → BodyIs n (after g e) es rest
        → BodyIs n g (expr e es) (t.bind ys x rest)

  pub data GuardIs (n : Names) : Scope → Condition → Guard → Type 0 where
    no_more_tests : (g : Scope) → GuardIs n g no_tests no_alternatives
    or_tests : (g : Scope) (es : Exprs) (c : Condition) (xs : Trees) (d : Guard) → ExprsAre n g es xs → GuardIs n g c d
        → GuardIs n g (tests es c) (alternative xs d)

  -- clauses, each of which begins with what is seen at its construct
  pub data BranchesAre (n : Names) : Scope → Branches → Clauses → Type 0 where
    no_more_branches : (g : Scope) → BranchesAre n g no_branches no_clauses
    and_branches : (g : Scope) (q : ExprPattern) (c : Condition) (es : Exprs) (bs : Branches) (y : Pattern) (d : Guard)
        (x : Tree) (cs : Clauses)
        → ExprPatternIs n g q y → GuardIs n (after_expr_pattern g q) c d → BodyIs n (after_expr_pattern g q) es x
        → BranchesAre n g bs cs
        → BranchesAre n g (branch q c es bs) (clause y d x cs)

-- a clause of a function begins with no variable
pub record HeadIs (n : Names) (h : Head) (c : FunctionClause) : Type 0 where
  pub parameters : ExprPatternsAre n no_scope h.parameters c.parameters
  pub guard : GuardIs n (after_expr_patterns no_scope h.parameters) h.condition c.guard
  pub body : BodyIs n (after_expr_patterns no_scope h.parameters) h.body c.body
