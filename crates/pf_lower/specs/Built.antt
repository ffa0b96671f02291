-- What the parts that were built are: where no static rule is broken, what the names become.
use Rattle.std.specs.Prelude.{◌≡◌, ℕ, List, [], false, true}
use Rattle.std.specs.List.{All}
use Rattle.pf_syntax.specs.ExprPattern.{ExprPattern, ExprPatterns}
use Rattle.pf_syntax.specs.Expr.{Expr, Exprs, Condition, Branches}
use Rattle.pf_syntax.specs.SyntaxTree.{Head}
use Rattle.pf_syntax.specs.Scope.{Scope}
use Rattle.pf_syntax.specs.Naming.{Names, ExprPatternIs, ExprPatternsAre, ExprIs, ExprsAre, ElementIs, BodyIs, GuardIs}
use Rattle.pf_syntax.specs.Naming.{BranchesAre}
use Rattle.pf_syntax.specs.Pattern.{Pattern, Patterns}
use Rattle.pf_syntax.specs.Tree.{Tree, Trees, Clauses}
use Rattle.pf_syntax.specs.Tree.{Guard as GuardTree}
use Rattle.pf_syntax.specs.Module.{Checked, pattern_at}
use Rattle.pf_syntax.specs.Over.{patterns_at, part_over, parts_over, guard_over, clauses_over}
use Rattle.pf_syntax.specs.Within.{PatternRepresents, OperandRepresents, GuardRepresents, ClauseRepresents}
use Rattle.pf_syntax.specs.declared.node.PatternId.{PatternId}
use Rattle.pf_syntax.specs.declared.node.Operand.{Operand}
use Rattle.pf_syntax.specs.declared.node.Guard.{Guard}
use Rattle.pf_syntax.specs.declared.node.Clause.{Clause}
use Rattle.pf_rules.specs.Static.{names_of_module, expr_pattern_faults, expr_patterns_faults, expr_faults, exprs_faults}
use Rattle.pf_rules.specs.Static.{condition_faults, branches_faults}
use Rattle.pf_rules.specs.Formed.{ExprPatternFormed, ExprPatternsFormed, ExprFormed, ExprsFormed, ConditionFormed}
use Rattle.pf_rules.specs.Formed.{BranchesFormed, HasFirst, HasAlternative}
use Rattle.pf_lower.specs.Grown.{Grown}

-- ---- what each of them becomes, where these names are bound: where it has no fault, what the names say

module _ (n : Names) (names : List ℕ) where
  abbrev pub ExprPatternBecomes : ExprPattern → Pattern → Type 0
  ExprPatternBecomes q y = (g : Scope) → g.bound ≡ names → ExprPatternFormed q → expr_pattern_faults g q ≡ []
      → ExprPatternIs n g q y

  abbrev pub ExprPatternsBecome : ExprPatterns → Patterns → Type 0
  ExprPatternsBecome qs ys = (g : Scope) → g.bound ≡ names → ExprPatternsFormed qs → expr_patterns_faults g qs ≡ []
      → ExprPatternsAre n g qs ys

  abbrev pub ExprBecomes : Expr → Tree → Type 0
  ExprBecomes e x = (g : Scope) → g.bound ≡ names → ExprFormed false e → expr_faults n g e ≡ [] → ExprIs n g e x

  abbrev pub ExprsBecome : Exprs → Trees → Type 0
  ExprsBecome es xs = (g : Scope) → g.bound ≡ names → ExprsFormed false es → exprs_faults n g es ≡ []
      → ExprsAre n g es xs

  abbrev pub ElementBecomes : Expr → Patterns → Tree → Type 0
  ElementBecomes e ys x = (g : Scope) → g.bound ≡ names → ExprFormed true e → expr_faults n g e ≡ []
      → ElementIs n g e ys x

  abbrev pub BodyBecomes : Exprs → Tree → Type 0
  BodyBecomes es x = (g : Scope) → g.bound ≡ names → HasFirst es → ExprsFormed true es → exprs_faults n g es ≡ []
      → BodyIs n g es x

  abbrev pub GuardBecomes : Condition → GuardTree → Type 0
  GuardBecomes c d = (g : Scope) → g.bound ≡ names → HasAlternative c → ConditionFormed c → condition_faults n g c ≡ []
      → GuardIs n g c d

  abbrev pub BranchesBecome : Branches → Clauses → Type 0
  BranchesBecome bs cs = (g : Scope) → g.bound ≡ names → BranchesFormed bs → branches_faults n g bs ≡ []
      → BranchesAre n g bs cs

-- ---- each of them in a module, whose atoms name the built-in functions

module _ (fs : List (List Head)) (m : Checked) (names : List ℕ) where
  pub record ExprPatternMeans (q : ExprPattern) (y : PatternId) : Type 0 where
    pub is_there : PatternRepresents m.tables y
    pub means : ExprPatternBecomes (names_of_module m.atoms fs) names q (pattern_at m.tables y.0)

  pub record ExprPatternsMean (qs : ExprPatterns) (ys : List PatternId) : Type 0 where
    pub is_there : All (PatternRepresents m.tables) ys
    pub means : ExprPatternsBecome (names_of_module m.atoms fs) names qs (patterns_at m.tables ys)

  pub record ExprMeans (e : Expr) (x : Operand) : Type 0 where
    pub is_there : OperandRepresents m.tables x
    pub means : ExprBecomes (names_of_module m.atoms fs) names e (part_over m.tables x)

  pub record ExprsMean (es : Exprs) (xs : List Operand) : Type 0 where
    pub is_there : All (OperandRepresents m.tables) xs
    pub means : ExprsBecome (names_of_module m.atoms fs) names es (parts_over m.tables xs)

  pub record ElementMeans (e : Expr) (ys : List PatternId) (x : Operand) : Type 0 where
    pub patterns_are_there : All (PatternRepresents m.tables) ys
    pub is_there : OperandRepresents m.tables x
    pub means : ElementBecomes (names_of_module m.atoms fs) names e (patterns_at m.tables ys) (part_over m.tables x)

  pub record BodyMeans (es : Exprs) (x : Operand) : Type 0 where
    pub is_there : OperandRepresents m.tables x
    pub means : BodyBecomes (names_of_module m.atoms fs) names es (part_over m.tables x)

  pub record GuardMeans (c : Condition) (d : Guard) : Type 0 where
    pub is_there : GuardRepresents m.tables d
    pub means : GuardBecomes (names_of_module m.atoms fs) names c (guard_over m.tables d)

  pub record BranchesMean (bs : Branches) (cs : List Clause) : Type 0 where
    pub is_there : All (ClauseRepresents m.tables) cs
    pub means : BranchesBecome (names_of_module m.atoms fs) names bs (clauses_over m.tables cs)

-- ---- what a call lowered: the module grew, these names became bound, and the answer means this in the new module

pub record Lowers (old new : Checked) (bound wanted : List ℕ) (Means : Checked → Type 0) : Type 0 where
  pub grown : Grown old new
  pub bound_is : bound ≡ wanted
  pub answer : Means new
