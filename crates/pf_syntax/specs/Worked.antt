-- Worked bodies and what they become.
use Rattle.std.specs.Prelude.{pos, None}
use Rattle.pf_terms.specs.Value.{int}
use Rattle.pf_syntax.specs.Pattern.{new, slot, tuple_of, no_patterns, pattern}
use Rattle.pf_syntax.specs.ExprPattern as s
use Rattle.pf_syntax.specs.ExprPattern.{ExprPattern, no_expr_patterns, expr_pattern}
use Rattle.pf_syntax.specs.Expr as p
use Rattle.pf_syntax.specs.Expr.{Expr, Exprs, no_exprs, expr, no_tests, tests, no_branches, branch}
use Rattle.pf_syntax.specs.Tree as t
use Rattle.pf_syntax.specs.Tree.{Tree, lit, var, no_trees, tree}
use Rattle.pf_syntax.specs.declared.operator.Operator.TheVariants.{Plus}
use Rattle.pf_syntax.specs.Scope.{no_scope}
use Rattle.pf_syntax.specs.Naming.{Names, BodyIs}

-- a module of atoms alone, whose numbers are those of their names
abbrev pub atoms_alone : Names
atoms_alone = record { atom_of = λ a. a; own_of = λ f k. None; builtin_of = λ f k. None }

-- the variables X and Y, with no offset of interest
abbrev pub x : Expr
x = p.variable 0 0

abbrev pub x_expr_pattern : ExprPattern
x_expr_pattern = s.variable 0 0

abbrev pub y_expr_pattern : ExprPattern
y_expr_pattern = s.variable 1 0

abbrev pub one_expr : Expr
one_expr = p.integer (pos 1)

-- X = 1, X + X
abbrev pub doubled : Exprs
doubled = expr (p.match x_expr_pattern one_expr) (expr (p.binary Plus x x) no_exprs)

abbrev pub doubled_tree : Tree
doubled_tree = t.bind (pattern new no_patterns) (lit (int (pos 1))) (t.op Plus (var 0) (var 0))

-- {X, Y} = X = 1: X is before the outer pattern, in which it is bound
abbrev pub chained : Exprs
chained = expr (p.match (s.tuple (expr_pattern x_expr_pattern (expr_pattern y_expr_pattern no_expr_patterns)))
    (p.match x_expr_pattern one_expr)) no_exprs

abbrev pub chained_tree : Tree
chained_tree =
    t.match (pattern new (pattern (tuple_of (pattern (slot 0) (pattern new no_patterns))) no_patterns))
    (lit (int (pos 1)))

-- case 1 of X -> X end
abbrev pub choosing : Expr
choosing = p.case one_expr (branch x_expr_pattern (tests no_exprs no_tests) (expr x no_exprs) no_branches)

-- that, and then X; and that, and then X = 1
abbrev pub used_unsafe : Exprs
used_unsafe = expr choosing (expr x no_exprs)

abbrev pub matched_unsafe : Exprs
matched_unsafe = expr choosing (expr (p.match x_expr_pattern one_expr) no_exprs)

-- X, with nothing before it
abbrev pub unbound : Exprs
unbound = expr x no_exprs

-- what these bodies become, if anything: a new variable takes the next slot, and an unbound or unsafe one becomes
-- nothing
pub record NamesBecomeSlots : Type 0 where
  pub doubled_is : BodyIs atoms_alone no_scope doubled doubled_tree
  pub chained_is : BodyIs atoms_alone no_scope chained chained_tree
  pub unsafe_is_not_used : (b : Tree) → ¬ BodyIs atoms_alone no_scope used_unsafe b
  pub unsafe_is_not_matched : (b : Tree) → ¬ BodyIs atoms_alone no_scope matched_unsafe b
  pub unbound_is_not_used : (b : Tree) → ¬ BodyIs atoms_alone no_scope unbound b
