use Rattle.std.proofs.Common.{◌≡◌, ◌↔◌, ◌<◌, ◌≤◌, ◌==◌, IsTrue, false, List, [], ◌∷◌, length, get_or, refl, sym, ap}
use Rattle.std.proofs.Common.{◌∙◌, subst, arith}
use Rattle.std.proofs.lemmas.Bool.{false≢true}
use Rattle.std.proofs.lemmas.Bool.Decides.{nat_tests}
use Rattle.pf_syntax.specs.Expr.{Exprs, Condition, no_exprs, expr, no_tests, tests}
use Rattle.pf_syntax.specs.SyntaxTree.{NodeTable}
use Rattle.pf_syntax.specs.SyntaxTreeOver.{exprs_at, alternatives_at}
use Rattle.pf_syntax.specs.declared.expr.ExprId.{ExprId}
use Rattle.pf_syntax.specs.declared.expr.Tests.{Tests}
use Rattle.pf_syntax.specs.ExprModule.{unguarded}
use Rattle.pf_lower.proofs.expressions.is_unguarded.Goals as goal

abbrev IsUnguarded : Condition → Type 0
IsUnguarded (tests no_exprs no_tests) = Unit {0}
IsUnguarded c = ⊥

seen : (c : Condition) → c ≡ unguarded → IsUnguarded c
seen c e = subst IsUnguarded (sym e) tt

-- a guard of one alternative
one_alternative : (b : NodeTable) (gs : List Tests) (g : Tests) (l : List ExprId) → 1 ≤ length gs → length gs < 2
    → g ≡ get_or gs 0 g → l ≡ g.tests.items
    → IsTrue (length l == 0) ↔ (alternatives_at b gs ≡ unguarded)
one_alternative b [] g l h i e d = absurd (omega arith)
one_alternative b (x ∷ y ∷ gs) g l h i e d = absurd (omega arith)
one_alternative b (x ∷ []) g [] h i e d = (
  λ _. ap (λ ids. tests (exprs_at b ids) no_tests)
      (sym (d ∙ ap (λ a. a.tests.items) e)),
  λ _. refl,
)
one_alternative b (x ∷ []) g (p ∷ l) h i e d =
    let z : (length (p ∷ l) == 0) ≡ false = grind (arith, nat_tests) in (
      λ r. absurd (false≢true (sym z ∙ r)),
      λ k.
          absurd (seen (tests (exprs_at b (p ∷ l)) no_tests)
          (ap (λ ids. tests (exprs_at b ids) no_tests) (d ∙ ap (λ a. a.tests.items) e) ∙ k)),
    )

-- a guard of several
more_alternatives : (b : NodeTable) (gs : List Tests) → 2 ≤ length gs
    → IsTrue false ↔ (alternatives_at b gs ≡ unguarded)
more_alternatives b [] h = absurd (omega arith)
more_alternatives b (x ∷ []) h = absurd (omega arith)
more_alternatives b (x ∷ y ∷ gs) h = (
  λ r. absurd (false≢true r),
  λ k. absurd (closed (exprs_at b x.tests.items) (exprs_at b y.tests.items) (alternatives_at b gs) (seen _ k)),
)
  where
    closed : (es fs : Exprs) (c : Condition) → IsUnguarded (tests es (tests fs c)) → ⊥
    closed no_exprs fs c h = h
    closed (expr e es) fs c h = h

pub returns-in-len1 : goal.returns-in-len1
returns-in-len1 c = λ b.
    let value = c.as_slice.ensures.value in
    subst (λ r. IsTrue r ↔ (alternatives_at b c.args.condition.now.alternatives.items ≡ unguarded))
    (sym c.is_empty.ensures)
    (subst (λ gs. IsTrue (length c.as_slice-in-len1.result.now == 0) ↔ (alternatives_at b gs ≡ unguarded)) value
    (one_alternative b c.as_slice.result.now c.alternative-item.result c.as_slice-in-len1.result.now (omega arith)
    (omega arith) c.alternative-item.is c.as_slice-in-len1.ensures.value))

pub returns-in_default-2 : goal.returns-in_default-2
returns-in_default-2 c = λ b.
    subst (λ gs. IsTrue false ↔ (alternatives_at b gs ≡ unguarded)) c.as_slice.ensures.value
    (more_alternatives b c.as_slice.result.now (omega arith))
