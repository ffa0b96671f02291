-- Expressions of the surface syntax, before the static rules.
use Rattle.std.specs.Prelude.{ℕ, ◌+◌, max, ℤ, List}
use Rattle.pf_syntax.specs.declared.operator.Operator.{Operator}
use Rattle.pf_syntax.specs.ExprPattern.{ExprPattern, expr_pattern_size, expr_pattern_depth}

mutual
  -- an expression. Atoms, calls and variables have the numbers of their names; variables, `_` and calls the offset of
  -- their first byte. Parentheses are kept, since they are a level of depth. A match occurs in bodies alone
  pub data Expr : Type 0 where
    integer : ℤ → Expr
    atom : ℕ → Expr
    text : List ℕ → Expr
    variable : ℕ → ℕ → Expr
    anonymous : ℕ → Expr
    parentheses : Expr → Expr
    tuple : Exprs → Expr
    list : Exprs → Expr
    list_on : Exprs → Expr → Expr
    call : ℕ → ℕ → Exprs → Expr
    binary : Operator → Expr → Expr → Expr
    negate : Expr → Expr
    and_also : Expr → Expr → Expr
    or_else : Expr → Expr → Expr
    send : Expr → Expr → Expr
    match : ExprPattern → Expr → Expr
    case : Expr → Branches → Expr
    -- `if`: its clauses have the pattern `_`
    if_expression : Branches → Expr
    receive : Branches → Expr

  -- arguments, elements of a tuple or a list, tests, or the elements of a body
  pub data Exprs : Type 0 where
    no_exprs : Exprs
    expr : Expr → Exprs → Exprs

  -- the alternatives of a guard, each the tests that it makes. With no `when` it is one alternative with no test
  pub data Condition : Type 0 where
    no_tests : Condition
    tests : Exprs → Condition → Condition

  -- clauses: a pattern, a guard and a body
  pub data Branches : Type 0 where
    no_branches : Branches
    branch : ExprPattern → Condition → Exprs → Branches → Branches

-- how many nodes an expression has: a leaf is 1, and else 1 more than its parts have together. A clause is no node of
-- its own
abbrev mutual
  pub expr_size : Expr → ℕ
  expr_size (integer n) = 1
  expr_size (atom a) = 1
  expr_size (text cs) = 1
  expr_size (variable x at) = 1
  expr_size (anonymous at) = 1
  expr_size (parentheses a) = 1 + expr_size a
  expr_size (tuple es) = 1 + exprs_size es
  expr_size (list es) = 1 + exprs_size es
  expr_size (list_on es t) = 1 + (exprs_size es + expr_size t)
  expr_size (call f at es) = 1 + exprs_size es
  expr_size (binary o a b) = 1 + (expr_size a + expr_size b)
  expr_size (negate a) = 1 + expr_size a
  expr_size (and_also a b) = 1 + (expr_size a + expr_size b)
  expr_size (or_else a b) = 1 + (expr_size a + expr_size b)
  expr_size (send a b) = 1 + (expr_size a + expr_size b)
  expr_size (match p a) = 1 + (expr_pattern_size p + expr_size a)
  expr_size (case a bs) = 1 + (expr_size a + branches_size bs)
  expr_size (if_expression bs) = 1 + branches_size bs
  expr_size (receive bs) = 1 + branches_size bs

  pub exprs_size : Exprs → ℕ
  exprs_size no_exprs = 0
  exprs_size (expr e es) = expr_size e + exprs_size es

  pub condition_size : Condition → ℕ
  condition_size no_tests = 0
  condition_size (tests es g) = exprs_size es + condition_size g

  pub branches_size : Branches → ℕ
  branches_size no_branches = 0
  branches_size (branch p g es bs) = (expr_pattern_size p + (condition_size g + exprs_size es)) + branches_size bs

-- how deep an expression is: a leaf is 1, and else 1 more than the deepest part. A clause is no level of its own
abbrev mutual
  pub expr_depth : Expr → ℕ
  expr_depth (integer n) = 1
  expr_depth (atom a) = 1
  expr_depth (text cs) = 1
  expr_depth (variable x at) = 1
  expr_depth (anonymous at) = 1
  expr_depth (parentheses a) = 1 + expr_depth a
  expr_depth (tuple es) = 1 + exprs_depth es
  expr_depth (list es) = 1 + exprs_depth es
  expr_depth (list_on es t) = 1 + max (exprs_depth es) (expr_depth t)
  expr_depth (call f at es) = 1 + exprs_depth es
  expr_depth (binary o a b) = 1 + max (expr_depth a) (expr_depth b)
  expr_depth (negate a) = 1 + expr_depth a
  expr_depth (and_also a b) = 1 + max (expr_depth a) (expr_depth b)
  expr_depth (or_else a b) = 1 + max (expr_depth a) (expr_depth b)
  expr_depth (send a b) = 1 + max (expr_depth a) (expr_depth b)
  expr_depth (match p a) = 1 + max (expr_pattern_depth p) (expr_depth a)
  expr_depth (case a bs) = 1 + max (expr_depth a) (branches_depth bs)
  expr_depth (if_expression bs) = 1 + branches_depth bs
  expr_depth (receive bs) = 1 + branches_depth bs

  pub exprs_depth : Exprs → ℕ
  exprs_depth no_exprs = 0
  exprs_depth (expr e es) = max (expr_depth e) (exprs_depth es)

  pub condition_depth : Condition → ℕ
  condition_depth no_tests = 0
  condition_depth (tests es g) = max (exprs_depth es) (condition_depth g)

  pub branches_depth : Branches → ℕ
  branches_depth no_branches = 0
  branches_depth (branch p g es bs) = max (max (expr_pattern_depth p) (max (condition_depth g) (exprs_depth es)))
      (branches_depth bs)
