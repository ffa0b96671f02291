-- What a walk through a part of a clause does: to what is seen, to the trail, and to the first fault.
use Rattle.std.specs.Prelude.{◌≡◌, ℕ, true, false, ◌&&◌, ◌||◌, if◌then◌else◌, List, [], ◌∷◌, ◌++◌}
use Rattle.pf_errors.specs.declared.refusal.SourceRefusal.{SourceRefusal}
use Rattle.pf_errors.specs.declared.code.Code.TheVariants.{Unbound, Undefined, Unsafe}
use Rattle.pf_syntax.specs.ExprPattern.{ExprPattern, ExprPatterns}
use Rattle.pf_syntax.specs.Expr.{Expr, Exprs, Condition, Branches}
use Rattle.pf_syntax.specs.Scope.{Scope, no_scope, has, is_new, is_unsafe, after_expr_pattern, after_expr_patterns}
use Rattle.pf_syntax.specs.Scope.{after, after_all, scope_leaving, ends_of}
use Rattle.pf_syntax.specs.Naming.{Names}
use Rattle.pf_syntax.specs.SyntaxTree.{NodeTable}
use Rattle.pf_syntax.specs.SyntaxTreeOver.{branches_over}
use Rattle.pf_syntax.specs.declared.expr.Branch.{Branch}
use Rattle.pf_rules.specs.Static.{fault_if, is_builtin, expr_pattern_faults, expr_patterns_faults, expr_faults}
use Rattle.pf_rules.specs.Static.{exprs_faults, condition_faults, branches_faults}
use Rattle.pf_static_check.specs.Earliest.{earliest, earliest_kept}
use Rattle.pf_static_check.specs.Marks.{KnowsScope, Trails, trail_of, status_of, is_marked}
use Rattle.pf_rules.specs.Listing.{lists}
use Rattle.pf_rules.specs.declared.signatures.Signatures.{Signatures}
use Rattle.pf_static_check.specs.declared.walk.ClauseWalk.{ClauseWalk}

-- a walk whose part changes what is seen so and has these faults
pub record Walks (old new : ClauseWalk) (step : Scope → Scope) (faults : Scope → List SourceRefusal) : Type 0 where
  pub trails : Trails old.variables new.variables
  pub is_there : (g : Scope) → KnowsScope old.variables g → KnowsScope new.variables (step g)
  pub found : (g : Scope) → KnowsScope old.variables g
      → earliest_kept new.first ≡ earliest (earliest_kept old.first) (faults g)

-- through a pattern, and through patterns
abbrev pub ExprPatternWalked : ClauseWalk → ClauseWalk → ExprPattern → Type 0
ExprPatternWalked old new q = Walks old new (λ g. after_expr_pattern g q) (λ g. expr_pattern_faults g q)

abbrev pub ExprPatternsWalked : ClauseWalk → ClauseWalk → ExprPatterns → Type 0
ExprPatternsWalked old new qs = Walks old new (λ g. after_expr_patterns g qs) (λ g. expr_patterns_faults g qs)

-- through an expression, and through expressions
abbrev pub ExprWalked : Names → ClauseWalk → ClauseWalk → Expr → Type 0
ExprWalked n old new e = Walks old new (λ g. after g e) (λ g. expr_faults n g e)

abbrev pub ExprsWalked : Names → ClauseWalk → ClauseWalk → Exprs → Type 0
ExprsWalked n old new es = Walks old new (λ g. after_all g es) (λ g. exprs_faults n g es)

-- through two expressions
abbrev pub PairWalked : Names → ClauseWalk → ClauseWalk → Expr → Expr → Type 0
PairWalked n old new a b = Walks old new (λ g. after (after g a) b)
    (λ g. expr_faults n g a ++ expr_faults n (after g a) b)

-- through an alternative of a guard, and through a guard
abbrev pub TestsWalked : Names → ClauseWalk → ClauseWalk → Exprs → Type 0
TestsWalked n old new es = Walks old new (λ g. g) (λ g. exprs_faults n g es)

abbrev pub ConditionWalked : Names → ClauseWalk → ClauseWalk → Condition → Type 0
ConditionWalked n old new c = Walks old new (λ g. g) (λ g. condition_faults n g c)

-- through the clauses of a construct, and out of it
abbrev pub BranchesWalked : Names → ClauseWalk → ClauseWalk → Branches → Type 0
BranchesWalked n old new bs = Walks old new (λ g. scope_leaving g (ends_of g bs)) (λ g. branches_faults n g bs)

-- through clauses that end with these names: the trail has those that were new, and what is seen is as before
pub record ClausesWalked (old new : ClauseWalk) (ends : Scope → List ℕ) (faults : Scope
    → List SourceRefusal) : Type 0 where
  pub names : List ℕ
  pub longer : trail_of new.variables ≡ trail_of old.variables ++ names
  pub same : (x : ℕ) → status_of new.variables x ≡ status_of old.variables x
  pub fresh : (x : ℕ) → has names x ≡ true → is_marked (status_of old.variables x) ≡ false
  pub named : (g : Scope) → KnowsScope old.variables g → (x : ℕ) → has names x ≡ (is_new g x && has (ends g) x)
  pub found : (g : Scope) → KnowsScope old.variables g
      → earliest_kept new.first ≡ earliest (earliest_kept old.first) (faults g)

-- a clause alone
abbrev pub branch_of : NodeTable → Branch → Branches
branch_of b c = branches_over b (c ∷ [])

abbrev pub BranchWalked : Names → ClauseWalk → ClauseWalk → Branches → Type 0
BranchWalked n old new bs = ClausesWalked old new (λ g. ends_of g bs) (λ g. branches_faults n g bs)

-- a variable of a pattern, before it is bound
abbrev pub SafeWalked : ClauseWalk → ClauseWalk → ℕ → ℕ → Type 0
SafeWalked old new x at = Walks old new (λ g. g) (λ g. fault_if (is_unsafe g x) Unsafe at)

-- a variable in an expression, `_` there, and the name of a call
abbrev pub VariableWalked : ClauseWalk → ClauseWalk → ℕ → ℕ → Type 0
VariableWalked old new x at = Walks old new (λ g. g)
    (λ g. fault_if (is_unsafe g x) Unsafe at ++ fault_if (is_new g x) Unbound at)

abbrev pub AnonymousWalked : ClauseWalk → ClauseWalk → ℕ → Type 0
AnonymousWalked old new at = Walks old new (λ g. g) (λ g. fault_if true Unbound at)

abbrev pub CallWalked : List (List ℕ) → Signatures → ClauseWalk → ClauseWalk → ℕ → ℕ → ℕ → Type 0
CallWalked atoms o old new f at arity = Walks old new (λ g. g) (λ g. if lists o f arity || is_builtin atoms f arity then
    [] else fault_if true Undefined at)

-- through a part that begins with no variable, after which there is again none
pub record BeginsAnew (old new : ClauseWalk) (faults : List SourceRefusal) : Type 0 where
  pub is_there : KnowsScope old.variables no_scope → KnowsScope new.variables no_scope
  pub found : KnowsScope old.variables no_scope → earliest_kept new.first ≡ earliest (earliest_kept old.first) faults
