-- A module that grows: what was built stays what it is.
use Rattle.std.proofs.Common.{◌≡◌, ℕ, List, refl, sym, ◌∙◌, subst}
use Rattle.pf_syntax.specs.SyntaxTree.{Head}
use Rattle.pf_syntax.specs.ExprPattern.{ExprPattern, ExprPatterns}
use Rattle.pf_syntax.specs.Expr.{Expr, Exprs, Condition}
use Rattle.pf_syntax.specs.Pattern.{Pattern}
use Rattle.pf_syntax.specs.Tree.{Tree}
use Rattle.pf_syntax.specs.Naming.{Names}
use Rattle.pf_syntax.specs.Module.{Checked}
use Rattle.pf_syntax.specs.Over.{with_pattern, with_tree, with_tables}
use Rattle.pf_syntax.proofs.Extends.{extends_itself, extends_on, extends_pattern, extends_tree, part_kept}
use Rattle.pf_syntax.proofs.Extends.{part_is_there}
use Rattle.pf_syntax.proofs.Extends.{parts_kept, all_parts_are_there, pattern_is_there, patterns_kept}
use Rattle.pf_syntax.proofs.Extends.{all_patterns_are_there}
use Rattle.pf_syntax.proofs.Extends.{guard_kept, guard_is_there}
use Rattle.pf_syntax.specs.declared.node.PatternId.{PatternId}
use Rattle.pf_syntax.specs.declared.node.PatternNode.{PatternNode}
use Rattle.pf_syntax.specs.declared.node.Operand.{Operand}
use Rattle.pf_syntax.specs.declared.node.Node.{Node}
use Rattle.pf_syntax.specs.declared.node.Guard.{Guard}
use Rattle.pf_rules.specs.Static.{names_of_module}
use Rattle.pf_lower.specs.Grown.{Grown}
use Rattle.std.specs.Prelude.{Result, Ok, Err, IfOk}
use Rattle.pf_lower.specs.Bound.{bound_by}
use Rattle.pf_lower.specs.Grown.{PatternPut, PartPut}
use Rattle.pf_lower.specs.Built.{Lowers, ExprPatternBecomes, ExprPatternsBecome, ExprBecomes, ExprsBecome, GuardBecomes}
use Rattle.pf_lower.specs.Built.{ExprPatternMeans, ExprPatternsMean, ExprMeans, ExprsMean, GuardMeans}

pub grown_itself : (m : Checked) → Grown m m
grown_itself m = record { name = refl; atoms = refl; functions = refl; tables = extends_itself m.tables }

pub grown_on : (m n o : Checked) → Grown m n → Grown n o → Grown m o
grown_on m n o g h = record {
  name = h.name ∙ g.name;
  atoms = h.atoms ∙ g.atoms;
  functions = h.functions ∙ g.functions;
  tables = extends_on m.tables n.tables o.tables g.tables h.tables;
}

pub grown_pattern : (m : Checked) (n : PatternNode) → Grown m (with_tables m (with_pattern m.tables n))
grown_pattern m n = record { name = refl; atoms = refl; functions = refl; tables = extends_pattern m.tables _ }

pub grown_node : (m : Checked) (n : Node) → Grown m (with_tables m (with_tree m.tables n))
grown_node m n = record { name = refl; atoms = refl; functions = refl; tables = extends_tree m.tables n }

-- what something becomes, among the names of the same atoms
pub becomes_on : {X : Type 0} (B : Names → X → Type 0) (fs : List (List Head)) (t u : Checked) (x y : X) → Grown t u
    → y ≡ x → B (names_of_module t.atoms fs) x → B (names_of_module u.atoms fs) y
becomes_on B fs t u x y e d h = subst (λ (a : List (List ℕ)). B (names_of_module a fs) y) (sym e.atoms)
    (subst (B (names_of_module t.atoms fs)) (sym d) h)

module _ (fs : List (List Head)) (t u : Checked) (e : Grown t u) (names : List ℕ) where
  pub expr_pattern_means_on : (q : ExprPattern) (y : PatternId) → ExprPatternMeans fs t names q y
      → ExprPatternMeans fs u names q y
  expr_pattern_means_on q y h = record {
    is_there = pattern_is_there t.tables u.tables e.tables y h.is_there;
    means = becomes_on (λ n z. ExprPatternBecomes n names q z) fs t u _ _ e (e.tables.patterns y.0 h.is_there) h.means;
  }

  pub expr_patterns_mean_on : (qs : ExprPatterns) (ys : List PatternId) → ExprPatternsMean fs t names qs ys
      → ExprPatternsMean fs u names qs ys
  expr_patterns_mean_on qs ys h = record {
    is_there = all_patterns_are_there t.tables u.tables e.tables ys h.is_there;
    means = becomes_on (λ n z. ExprPatternsBecome n names qs z) fs t u _ _ e
        (patterns_kept t.tables u.tables e.tables ys h.is_there) h.means;
  }

  pub expr_means_on : (x : Expr) (y : Operand) → ExprMeans fs t names x y → ExprMeans fs u names x y
  expr_means_on x y h = record {
    is_there = part_is_there t.tables u.tables e.tables y h.is_there;
    means = becomes_on (λ n z. ExprBecomes n names x z) fs t u _ _ e
        (part_kept t.tables u.tables e.tables y h.is_there) h.means;
  }

  pub exprs_mean_on : (xs : Exprs) (ys : List Operand) → ExprsMean fs t names xs ys → ExprsMean fs u names xs ys
  exprs_mean_on xs ys h = record {
    is_there = all_parts_are_there t.tables u.tables e.tables ys h.is_there;
    means = becomes_on (λ n z. ExprsBecome n names xs z) fs t u _ _ e
        (parts_kept t.tables u.tables e.tables ys h.is_there) h.means;
  }

  pub guard_means_on : (c : Condition) (d : Guard) → GuardMeans fs t names c d → GuardMeans fs u names c d
  guard_means_on c d h = record {
    is_there = guard_is_there t.tables u.tables e.tables d h.is_there;
    means = becomes_on (λ n z. GuardBecomes n names c z) fs t u _ _ e
        (guard_kept t.tables u.tables e.tables d h.is_there) h.means;
  }

-- what holds of an answer makes something else hold of it
pub by_ok : {X E : Type 0} (r : Result X E) (P Q : X → Type 0) → IfOk r P → ((x : X) → P x → Q x) → IfOk r Q
by_ok (Ok x) P Q h w = w x h
by_ok (Err e) P Q h w = h

-- a pattern that was put last is the whole answer
pub expr_pattern_put : (fs : List (List Head)) (m0 m1 m2 : Checked) (b names : List ℕ) (q q' : ExprPattern)
    (y : Pattern) (p : PatternId)
    → q' ≡ q → b ≡ bound_by names q' → Grown m0 m1
    → ExprPatternBecomes (names_of_module m1.atoms fs) names q' y
    → PatternPut m1 m2 y p → Lowers m0 m2 b (bound_by names q) (λ t. ExprPatternMeans fs t names q p)
expr_pattern_put fs m0 m1 m2 b names q q' y p same bound grown means put =
    subst (λ s. Lowers m0 m2 b (bound_by names s) (λ t. ExprPatternMeans fs t names s p)) same
    (record {
      grown = grown_on m0 m1 m2 grown put.grown;
      bound_is = bound;
      answer = record {
        is_there = put.is_there;
        means = becomes_on (λ n z. ExprPatternBecomes n names q' z) fs m1 m2 _ _ put.grown put.is means;
      };
    })

-- a part that was put last is the whole answer
pub expr_put : (fs : List (List Head)) (m0 m1 m2 : Checked) (b names : List ℕ) (e e' : Expr) (y : Tree) (x : Operand)
    → e' ≡ e → b ≡ names → Grown m0 m1
    → ExprBecomes (names_of_module m1.atoms fs) names e' y
    → PartPut m1 m2 y x → Lowers m0 m2 b names (λ t. ExprMeans fs t names e x)
expr_put fs m0 m1 m2 b names e e' y x same bound grown means put =
    subst (λ s. Lowers m0 m2 b names (λ t. ExprMeans fs t names s x)) same
    (record {
      grown = grown_on m0 m1 m2 grown put.grown;
      bound_is = bound;
      answer = record {
        is_there = put.is_there;
        means = becomes_on (λ n z. ExprBecomes n names e' z) fs m1 m2 _ _ put.grown put.is means;
      };
    })
