-- What the grammar makes true of a module, and the static rules don't ask again: matches occur in bodies alone, a body,
-- a guard and a function aren't empty, and a string is within the limits of a value.
use Rattle.std.specs.Prelude.{Bool, true, false, IsTrue, List, [], ◌∷◌}
use Rattle.std.specs.List.{All}
use Rattle.pf_terms.specs.Value.{IsWithinLimits}
use Rattle.pf_syntax.specs.ExprPattern as s
use Rattle.pf_syntax.specs.ExprPattern.{ExprPattern, ExprPatterns, no_expr_patterns, expr_pattern}
use Rattle.pf_syntax.specs.Expr as p
use Rattle.pf_syntax.specs.Expr.{Expr, Exprs, Condition, Branches, no_exprs, expr, no_tests, tests, no_branches, branch}
use Rattle.pf_syntax.specs.SyntaxTree.{Head}
use Rattle.pf_syntax.specs.Naming.{string}

-- the strings of a pattern are within the limits
abbrev mutual
  pub ExprPatternFormed : ExprPattern → Type 0
  ExprPatternFormed (s.text cs) = IsWithinLimits (string cs)
  ExprPatternFormed (s.tuple qs) = ExprPatternsFormed qs
  ExprPatternFormed (s.list qs) = ExprPatternsFormed qs
  ExprPatternFormed (s.list_on qs q) = ExprPatternsFormed qs × ExprPatternFormed q
  ExprPatternFormed (s.integer z) = Unit {0}
  ExprPatternFormed (s.atom a) = Unit {0}
  ExprPatternFormed (s.variable x at) = Unit {0}
  ExprPatternFormed s.anything = Unit {0}

  pub ExprPatternsFormed : ExprPatterns → Type 0
  ExprPatternsFormed no_expr_patterns = Unit {0}
  ExprPatternsFormed (expr_pattern q qs) = ExprPatternFormed q × ExprPatternsFormed qs

-- a body has an element
abbrev pub HasFirst : Exprs → Type 0
HasFirst no_exprs = ⊥
HasFirst (expr e es) = Unit {0}

-- a guard has an alternative
abbrev pub HasAlternative : Condition → Type 0
HasAlternative no_tests = ⊥
HasAlternative (tests es c) = Unit {0}

abbrev mutual
  -- an expression, or where the flag says so an element of a body, which alone may be a match
  pub ExprFormed : Bool → Expr → Type 0
  ExprFormed m (p.integer z) = Unit {0}
  ExprFormed m (p.atom a) = Unit {0}
  ExprFormed m (p.text cs) = IsWithinLimits (string cs)
  ExprFormed m (p.variable x at) = Unit {0}
  ExprFormed m (p.anonymous at) = Unit {0}
  ExprFormed m (p.parentheses a) = ExprFormed false a
  ExprFormed m (p.tuple es) = ExprsFormed false es
  ExprFormed m (p.list es) = ExprsFormed false es
  ExprFormed m (p.list_on es e) = ExprsFormed false es × ExprFormed false e
  ExprFormed m (p.call f at es) = ExprsFormed false es
  ExprFormed m (p.binary o a b) = ExprFormed false a × ExprFormed false b
  ExprFormed m (p.negate a) = ExprFormed false a
  ExprFormed m (p.and_also a b) = ExprFormed false a × ExprFormed false b
  ExprFormed m (p.or_else a b) = ExprFormed false a × ExprFormed false b
  ExprFormed m (p.send a b) = ExprFormed false a × ExprFormed false b
  ExprFormed m (p.match q a) = IsTrue m × ExprPatternFormed q × ExprFormed true a
  ExprFormed m (p.case a bs) = ExprFormed false a × BranchesFormed bs
  ExprFormed m (p.if_expression bs) = BranchesFormed bs
  ExprFormed m (p.receive bs) = BranchesFormed bs

  pub ExprsFormed : Bool → Exprs → Type 0
  ExprsFormed m no_exprs = Unit {0}
  ExprsFormed m (expr e es) = ExprFormed m e × ExprsFormed m es

  pub ConditionFormed : Condition → Type 0
  ConditionFormed no_tests = Unit {0}
  ConditionFormed (tests es c) = ExprsFormed false es × ConditionFormed c

  pub BranchesFormed : Branches → Type 0
  BranchesFormed no_branches = Unit {0}
  BranchesFormed (branch q c es bs) = ExprPatternFormed q × HasAlternative c × ConditionFormed c × HasFirst es
      × ExprsFormed true es × BranchesFormed bs

-- a clause of a function
abbrev pub HeadFormed : Head → Type 0
HeadFormed h = ExprPatternsFormed h.parameters × HasAlternative h.condition × ConditionFormed h.condition
    × HasFirst h.body × ExprsFormed true h.body

-- a function has a clause
abbrev pub FunctionFormed : List Head → Type 0
FunctionFormed [] = ⊥
FunctionFormed (h ∷ hs) = All HeadFormed (h ∷ hs)

-- the functions of a module
abbrev pub AreFormed : List (List Head) → Type 0
AreFormed fs = All FunctionFormed fs
