-- The expressions, bodies and clauses that names become are closed.
use Rattle.std.proofs.Common.{◌≡◌, ℕ, ◌+◌, Some, refl, sym, ap, ◌∙◌, subst, arith}
use Rattle.std.proofs.lemmas.Option.{slice_get_within}
use Rattle.pf_syntax.specs.Pattern.{Pattern, Patterns, no_patterns, pattern}
use Rattle.pf_syntax.specs.Tree.{Tree, Trees, Clauses, Guard, lit, no_trees, tree, FunctionClause, Program}
use Rattle.pf_syntax.specs.declared.operator.Builtin.{Builtin}
use Rattle.pf_syntax.specs.Expr.{Expr, Exprs, Condition, Branches}
use Rattle.pf_syntax.specs.SyntaxTree.{Head}
use Rattle.pf_syntax.specs.Scope.{Scope, no_scope, after_expr_pattern, after_expr_patterns, after, after_all}
use Rattle.pf_syntax.specs.Naming as e
use Rattle.pf_syntax.specs.Naming.{Names, arity_of, conses, empty_list, with_pattern, ending, ExprIs, ExprsAre, no_more}
use Rattle.pf_syntax.specs.Naming.{and_more, ElementIs, plain, BodyIs, last, before, GuardIs, no_more_tests, or_tests}
use Rattle.pf_syntax.specs.Naming.{BranchesAre, no_more_branches, and_branches, HeadIs}
use Rattle.pf_rules.specs.Static.{parameters_of}
use Rattle.pf_model.specs.Closed.{binds, all_bind, PatternIsClosed, PatternsAreClosed, tree_count, HasArity}
use Rattle.pf_model.specs.Closed.{builtin_arity, IsClosed, AllAreClosed, ClausesAreClosed, GuardIsClosed}
use Rattle.pf_model.specs.Closed.{FunctionClauseIsClosed}
use Rattle.pf_laws.proofs.Bindings.{many, pattern_binds, patterns_bind}

after_closed : (n k : ℕ) (ys : Patterns) (y : Pattern) → k ≡ n + all_bind ys → PatternsAreClosed n ys
    → PatternIsClosed k y
    → PatternsAreClosed n (with_pattern ys y) × (all_bind (with_pattern ys y) ≡ all_bind ys + binds y)
after_closed n k no_patterns y q h c = let d : k ≡ n = omega arith in
    ((subst (λ i. PatternIsClosed i y) d c, tt), omega arith)
after_closed n k (pattern p ps) y q h c =
    let r = after_closed (n + binds p) k ps y (omega arith) h.1 c in let d = r.1 in ((h.0, r.0), omega arith)

module _ (fs : Program) where
  conses_closed : (n : ℕ) (xs : Trees) (x : Tree) → AllAreClosed fs n xs → IsClosed fs n x → IsClosed fs n (conses xs x)
  conses_closed n no_trees x h k = k
  conses_closed n (tree t ts) x h k = (h.0, conses_closed n ts x h.1 k)

  ending_closed : (n : ℕ) (ys : Patterns) (x : Tree) → PatternsAreClosed n ys → IsClosed fs n x
      → IsClosed fs n (ending ys x)
  ending_closed n no_patterns x h k = k
  ending_closed n (pattern y ys) x h k = (h, k)

  -- names of functions stand for functions with that number of arguments
  pub record AreRight (n : Names) : Type 0 where
    pub own : (f k i : ℕ) → n.own_of f k ≡ Some i → HasArity fs i k
    pub built_in : (f k : ℕ) (b : Builtin) → n.builtin_of f k ≡ Some b → builtin_arity b ≡ k

  -- an expression that is closed where g is seen, and binds nothing
  abbrev Closes : Scope → Expr → Tree → Type 0
  Closes g e x = IsClosed fs (many g) x × (many (after g e) ≡ many g)

  abbrev AllClose : Scope → Exprs → Trees → Type 0
  AllClose g es xs = AllAreClosed fs (many g) xs × (many (after_all g es) ≡ many g) × (tree_count xs ≡ arity_of es)

  -- an element of a body, which binds what its patterns do
  abbrev ElementCloses : Scope → Expr → Patterns → Tree → Type 0
  ElementCloses g e ys x = PatternsAreClosed (many g) ys × IsClosed fs (many g) x
      × (many (after g e) ≡ many g + all_bind ys)

  -- what is closed where as many variables are bound
  moved : (k n : ℕ) (x : Tree) → k ≡ n → IsClosed fs k x → IsClosed fs n x
  moved k n x q h = subst (λ i. IsClosed fs i x) q h

  module _ (n : Names) (right : AreRight n) where
    two_close : (g : Scope) (a b : Expr) (x y : Tree) → Closes g a x → Closes (after g a) b y
        → (IsClosed fs (many g) x × IsClosed fs (many g) y) × (many (after (after g a) b) ≡ many g)
    two_close g a b x y h k = ((h.0, moved (many (after g a)) (many g) y h.1 k.0), k.1 ∙ h.1)

    mutual
      expression_closes : (g : Scope) (a : Expr) (x : Tree) → ExprIs n g a x → Closes g a x
      expression_closes _ _ _ (e.integer g z) = (tt, refl)
      expression_closes _ _ _ (e.atom g a) = (tt, refl)
      expression_closes _ _ _ (e.text g cs) = (tt, refl)
      expression_closes _ _ _ (e.variable g x at k h) = (slice_get_within g.bound k x h, refl)
      expression_closes _ _ _ (e.parentheses g a x h) = expression_closes g a x h
      expression_closes _ _ _ (e.tuple g es xs h) = let r = expressions_close g es xs h in (r.0, r.1)
      expression_closes _ _ _ (e.list g es xs h) =
          let r = expressions_close g es xs h in (conses_closed (many g) xs (lit empty_list) r.0 tt, r.1)
      expression_closes _ _ _ (e.list_on g es a xs x h k) =
          let r = expressions_close g es xs h in
          let s = expression_closes (after_all g es) a x k in
          (conses_closed (many g) xs x r.0 (moved (many (after_all g es)) (many g) x r.1 s.0), s.1 ∙ r.1)
      expression_closes _ _ _ (e.own g f at i es xs o h) =
          let r = expressions_close g es xs h in ((rw r.2 (right.own f (arity_of es) i o), r.0), r.1)
      expression_closes _ _ _ (e.builtin g f at b es xs o h) =
          let r = expressions_close g es xs h in ((r.2 ∙ sym (right.built_in f (arity_of es) b o), r.0), r.1)
      expression_closes _ _ _ (e.binary g o a b x y h k) =
          two_close g a b x y (expression_closes g a x h) (expression_closes (after g a) b y k)
      expression_closes _ _ _ (e.negate g a x h) = expression_closes g a x h
      expression_closes _ _ _ (e.and_also g a b x y h k) =
          two_close g a b x y (expression_closes g a x h) (expression_closes (after g a) b y k)
      expression_closes _ _ _ (e.or_else g a b x y h k) =
          two_close g a b x y (expression_closes g a x h) (expression_closes (after g a) b y k)
      expression_closes _ _ _ (e.send g a b x y h k) =
          two_close g a b x y (expression_closes g a x h) (expression_closes (after g a) b y k)
      expression_closes _ _ _ (e.case g a bs x cs h k) =
          let r = expression_closes g a x h in
          ((r.0, subst (λ i. ClausesAreClosed fs i cs) r.1 (branches_close (after g a) bs cs k)), r.1)
      expression_closes _ _ _ (e.if_expression g bs cs h) = (branches_close g bs cs h, refl)
      expression_closes _ _ _ (e.receive g bs cs h) = (branches_close g bs cs h, refl)

      expressions_close : (g : Scope) (es : Exprs) (xs : Trees) → ExprsAre n g es xs → AllClose g es xs
      expressions_close _ _ _ (no_more g) = (tt, refl, refl)
      expressions_close _ _ _ (and_more g a es x xs h k) =
          let r = expression_closes g a x h in
          let s = expressions_close (after g a) es xs k in
          ((r.0, subst (λ i. AllAreClosed fs i xs) r.1 s.0), s.1 ∙ r.1, ap (λ i. 1 + i) s.2)

      element_closes : (g : Scope) (a : Expr) (ys : Patterns) (x : Tree) → ElementIs n g a ys x → ElementCloses g a ys x
      element_closes _ _ _ _ (plain g a x h) = let r = expression_closes g a x h in let d = r.1 in
          (tt, r.0, omega arith)
      element_closes _ _ _ _ (e.match g q a ys y x h k) =
          let r = element_closes g a ys x h in
          let s = pattern_binds n (after g a) q y k in
          let t = after_closed (many g) (many (after g a)) ys y r.2 r.0 s.0 in
          let c = r.2 in let d = s.1 in let f = t.1 in (t.0, r.1, omega arith)

      body_closes : (g : Scope) (es : Exprs) (x : Tree) → BodyIs n g es x → IsClosed fs (many g) x
      body_closes _ _ _ (last g a ys x h) = let r = element_closes g a ys x h in ending_closed (many g) ys x r.0 r.1
      body_closes _ _ _ (before g a es ys x rest h k) =
          let r = element_closes g a ys x h in
          (r.0, r.1, moved (many (after g a)) (many g + all_bind ys) rest r.2 (body_closes (after g a) es rest k))

      guard_closes : (g : Scope) (c : Condition) (d : Guard) → GuardIs n g c d → GuardIsClosed fs (many g) d
      guard_closes _ _ _ (no_more_tests g) = tt
      guard_closes _ _ _ (or_tests g es c xs d h k) = ((expressions_close g es xs h).0, guard_closes g c d k)

      branches_close : (g : Scope) (bs : Branches) (cs : Clauses) → BranchesAre n g bs cs
          → ClausesAreClosed fs (many g) cs
      branches_close _ _ _ (no_more_branches g) = tt
      branches_close _ _ _ (and_branches g q c es bs y d x cs h k l o) =
          let r = pattern_binds n g q y h in
          let s = after_expr_pattern g q in (
            r.0,
            subst (λ i. GuardIsClosed fs i d) r.1 (guard_closes s c d k),
            moved (many s) (many g + binds y) x r.1 (body_closes s es x l),
            branches_close g bs cs o,
          )

    pub head_closes : (h : Head) (c : FunctionClause) → HeadIs n h c
        → FunctionClauseIsClosed fs (parameters_of h.parameters) c
    head_closes h c k =
        let s = after_expr_patterns no_scope h.parameters in
        let r = patterns_bind n no_scope h.parameters c.parameters k.parameters in
        let d = r.1 in
        let q : many s ≡ all_bind c.parameters = omega arith in
        record {
          as_many = r.2;
          parameters = r.0;
          guard = subst (λ i. GuardIsClosed fs i c.guard) q (guard_closes s h.condition c.guard k.guard);
          body = moved (many s) (all_bind c.parameters) c.body q (body_closes s h.body c.body k.body);
        }
