-- Bodies, guards and clauses: what their parts mean is what they mean.
use Rattle.std.proofs.Common.{◌≡◌, ℕ, zero, suc, ◌<◌, ◌≤◌, Bool, true, false, List, [], ◌∷◌, ◌++◌, length, take, get_or}
use Rattle.std.proofs.Common.{refl, sym, ap, ◌∙◌, subst, arith, Some, append_assoc}
use Rattle.std.specs.Prelude.{fold, if◌then◌else◌}
use Rattle.std.specs.List.{All}
use Rattle.std.proofs.lemmas.List.{take_all}
use Rattle.std.proofs.Math.Seq.{take-append_seam}
use Rattle.std.proofs.lemmas.List.Elements.{All-nil, All-cons, All-head, All-tail, All-append, All-pop, All-weaker}
use Rattle.pf_syntax.specs.ExprPattern as s
use Rattle.pf_syntax.specs.ExprPattern.{ExprPattern, ExprPatterns, no_expr_patterns, expr_pattern, expr_pattern_depth}
use Rattle.pf_syntax.specs.Expr as p
use Rattle.pf_syntax.specs.Expr.{Expr, Exprs, Condition, Branches, no_exprs, expr, no_tests, tests, no_branches, branch}
use Rattle.pf_syntax.specs.Expr.{exprs_depth, condition_depth, branches_depth}
use Rattle.pf_syntax.specs.Pattern.{pattern}
use Rattle.pf_syntax.specs.Tree as tr
use Rattle.pf_syntax.specs.Tree.{Tree, no_trees, no_alternatives, no_guard}
use Rattle.pf_syntax.specs.SyntaxTree.{NodeTable, Head, expr_pattern_at, expr_at}
use Rattle.pf_syntax.specs.SyntaxTreeOver.{exprs_at, alternatives_at, condition_over, branches_over, branch_depth}
use Rattle.pf_syntax.specs.Scope.{Scope, has, after, after_expr_pattern}
use Rattle.pf_syntax.specs.Naming as w
use Rattle.pf_syntax.specs.Naming.{ElementIs, BodyIs, GuardIs, BranchesAre, with_pattern, ending}
use Rattle.pf_syntax.specs.Module.{Checked, Tables, pattern_at}
use Rattle.pf_syntax.specs.Over.{part_over, patterns_at, alternatives_over, guard_from, clauses_over}
use Rattle.pf_syntax.specs.Within.{PatternRepresents, OperandRepresents, ClauseRepresents}
use Rattle.pf_syntax.proofs.Extends.{Extends, patterns_kept, part_kept, guard_kept, all_patterns_are_there}
use Rattle.pf_syntax.proofs.Extends.{part_is_there}
use Rattle.pf_syntax.proofs.Extends.{pattern_is_there, guard_is_there}
use Rattle.pf_syntax.specs.declared.node.PatternId.{PatternId}
use Rattle.pf_syntax.specs.declared.node.Operand.{Operand}
use Rattle.pf_syntax.specs.declared.node.Alternative.{Alternative}
use Rattle.pf_syntax.specs.declared.node.Guard.{Guard}
use Rattle.pf_syntax.specs.declared.node.Clause.{Clause}
use Rattle.pf_syntax.specs.declared.expr.ExprId.{ExprId}
use Rattle.pf_syntax.specs.declared.expr.Tests.{Tests}
use Rattle.pf_syntax.specs.declared.expr.Branch.{Branch}
use Rattle.pf_syntax.specs.ExprModule.{unguarded}
use Rattle.pf_lower.specs.declared.bodies.Element.{Element}
use Rattle.pf_rules.specs.Static.{names_of_module, expr_pattern_faults, expr_faults, exprs_faults, condition_faults}
use Rattle.pf_rules.specs.Static.{branches_faults}
use Rattle.pf_rules.specs.Formed.{ExprsFormed, ConditionFormed, BranchesFormed, HasFirst, HasAlternative}
use Rattle.pf_lower.specs.Bound.{bound_by, all_bound_by, bound_after, all_bound_after, IsNoMatch}
use Rattle.pf_lower.specs.Grown.{Grown, PartPut}
use Rattle.pf_lower.specs.Built.{Lowers, ExprPatternBecomes, ElementBecomes, BodyBecomes, ExprPatternMeans, ExprMeans}
use Rattle.pf_lower.specs.Built.{ExprsMean, ElementMeans, BodyMeans, GuardMeans, BranchesMean}
use Rattle.pf_lower.specs.Bodies.{ElementRepresents, bound_elements, ElementBuilt, EachElementMeans, BranchGuardBecomes}
use Rattle.pf_lower.specs.Bodies.{BranchBodyBecomes, BranchMeans}
use Rattle.pf_lower.proofs.Growing.{grown_on, grown_itself, becomes_on, expr_pattern_means_on, exprs_mean_on}
use Rattle.pf_lower.proofs.Growing.{guard_means_on}
use Rattle.pf_lower.proofs.Threads.{Threaded, SoFar}
use Rattle.pf_lower.proofs.ExprPatterns_mean.{expr_pattern_bound}
use Rattle.pf_lower.proofs.Exprs_mean.{element_bound, plain_formed, plain_bound}
use Rattle.pf_lower.proofs.Exists.{left_empty, right_empty}

-- ---- names that were bound stay the first ones

abbrev pub Begins : List ℕ → List ℕ → Type 0
Begins names more = (rest : List ℕ) × (more ≡ names ++ rest)

begins_itself : (names : List ℕ) → Begins names names
begins_itself [] = ([], refl)
begins_itself (x ∷ names) = let h = begins_itself names in (h.0, ap (λ l. x ∷ l) h.1)

begins_on : (a b c : List ℕ) → Begins a b → Begins b c → Begins a c
begins_on a b c h k = (h.0 ++ k.0, k.1 ∙ ap (λ l. l ++ k.0) h.1 ∙ append_assoc a h.0 k.0)

begins_one : (names : List ℕ) (x : ℕ) (b : Bool) → Begins names (if b then names else names ++ x ∷ [])
begins_one names x true = begins_itself names
begins_one names x false = (x ∷ [], refl)

mutual
  pub begins_by : (names : List ℕ) (q : ExprPattern) → Begins names (bound_by names q)
  begins_by names (s.variable x at) = begins_one names x (has names x)
  begins_by names (s.tuple qs) = begins_by_all names qs
  begins_by names (s.list qs) = begins_by_all names qs
  begins_by names (s.list_on qs q) = begins_on names _ _ (begins_by_all names qs) (begins_by (all_bound_by names qs) q)
  begins_by names (s.integer z) = begins_itself names
  begins_by names (s.atom a) = begins_itself names
  begins_by names (s.text cs) = begins_itself names
  begins_by names s.anything = begins_itself names

  pub begins_by_all : (names : List ℕ) (qs : ExprPatterns) → Begins names (all_bound_by names qs)
  begins_by_all names no_expr_patterns = begins_itself names
  begins_by_all names (expr_pattern q qs) = begins_on names _ _ (begins_by names q)
      (begins_by_all (bound_by names q) qs)

begins_after : (names : List ℕ) (e : Expr) → Begins names (bound_after names e)
begins_after names (p.match q a) = begins_on names _ _ (begins_after names a) (begins_by (bound_after names a) q)
begins_after names (p.integer z) = begins_itself names
begins_after names (p.atom a) = begins_itself names
begins_after names (p.text cs) = begins_itself names
begins_after names (p.variable x at) = begins_itself names
begins_after names (p.anonymous at) = begins_itself names
begins_after names (p.parentheses a) = begins_itself names
begins_after names (p.tuple es) = begins_itself names
begins_after names (p.list es) = begins_itself names
begins_after names (p.list_on es e) = begins_itself names
begins_after names (p.call x at es) = begins_itself names
begins_after names (p.binary o a b) = begins_itself names
begins_after names (p.negate a) = begins_itself names
begins_after names (p.and_also a b) = begins_itself names
begins_after names (p.or_else a b) = begins_itself names
begins_after names (p.send a b) = begins_itself names
begins_after names (p.case a bs) = begins_itself names
begins_after names (p.if_expression bs) = begins_itself names
begins_after names (p.receive bs) = begins_itself names

begins_after_all : (names : List ℕ) (es : Exprs) → Begins names (all_bound_after names es)
begins_after_all names no_exprs = begins_itself names
begins_after_all names (expr e es) = begins_on names _ _ (begins_after names e)
    (begins_after_all (bound_after names e) es)

-- so the first ones alone are left when the others are forgotten
pub forgotten : (names : List ℕ) (q : ExprPattern) (es : Exprs)
    → take (length names) (all_bound_after (bound_by names q) es) ≡ names
forgotten names q es =
    let h = begins_on names _ _ (begins_by names q) (begins_after_all (bound_by names q) es) in
    ap (take (length names)) h.1 ∙ take-append_seam names h.0

-- ---- elements

patterns_after : (t : Tables) (ys : List PatternId) (y : PatternId)
    → patterns_at t (ys ++ y ∷ []) ≡ with_pattern (patterns_at t ys) (pattern_at t y.0)
patterns_after t [] y = refl
patterns_after t (x ∷ ys) y = ap (pattern (pattern_at t x.0)) (patterns_after t ys y)

module _ (fs : List (List Head)) where
  pub element_means_on : (t u : Checked) → Grown t u → (names : List ℕ) (e : Expr) (ys : List PatternId) (x : Operand)
      → ElementMeans fs t names e ys x → ElementMeans fs u names e ys x
  element_means_on t u on names e ys x h =
      let front : patterns_at u.tables ys ≡ patterns_at t.tables ys =
      patterns_kept t.tables u.tables on.tables ys h.patterns_are_there in
      let value : part_over u.tables x ≡ part_over t.tables x = part_kept t.tables u.tables on.tables x h.is_there in
      record {
        patterns_are_there = all_patterns_are_there t.tables u.tables on.tables ys h.patterns_are_there;
        is_there = part_is_there t.tables u.tables on.tables x h.is_there;
        means =
            becomes_on (λ n v. ElementBecomes n names e (patterns_at u.tables ys) v) fs t u _ _ on value
            (subst (λ v. ElementBecomes (names_of_module t.atoms fs) names e v (part_over t.tables x))
            (sym front) h.means);
      }

  pub plain_lowers : (m0 m1 : Checked) (b names : List ℕ) (e : Expr) (x : Operand) → IsNoMatch e
      → Lowers m0 m1 b names (λ t. ExprMeans fs t names e x)
      → Lowers m0 m1 b (bound_after names e) (λ t. ElementMeans fs t names e [] x)
  plain_lowers m0 m1 b names e x plain d = record {
    grown = d.grown;
    bound_is = d.bound_is ∙ sym (plain_bound e names plain);
    answer = record {
      patterns_are_there = All-nil (PatternRepresents m1.tables);
      is_there = d.answer.is_there;
      means = λ g h f k. w.plain g e _ (d.answer.means g h (plain_formed e plain f) k);
    };
  }

  pub match_lowers : (m0 m1 m2 : Checked) (b1 b2 names : List ℕ) (q : ExprPattern) (a e : Expr) (ys : List PatternId)
      (y : PatternId) (x : Operand) → e ≡ p.match q a
      → Lowers m0 m1 b1 (bound_after names a) (λ t. ElementMeans fs t names a ys x)
      → Lowers m1 m2 b2 (bound_by b1 q) (λ t. ExprPatternMeans fs t b1 q y)
      → Lowers m0 m2 b2 (bound_after names e) (λ t. ElementMeans fs t names e (ys ++ y ∷ []) x)
  match_lowers m0 m1 m2 b1 b2 names q a e ys y x is d r =
      let inner = element_means_on m1 m2 r.grown names a ys x d.answer in
      subst (λ z. Lowers m0 m2 b2 (bound_after names z) (λ t. ElementMeans fs t names z (ys ++ y ∷ []) x)) (sym is)
      (record {
        grown = grown_on m0 m1 m2 d.grown r.grown;
        bound_is = r.bound_is ∙ ap (λ n. bound_by n q) d.bound_is;
        answer = record {
          patterns_are_there = All-append (PatternRepresents m2.tables) ys (y ∷ []) inner.patterns_are_there
              (All-cons (PatternRepresents m2.tables) y [] r.answer.is_there (All-nil (PatternRepresents m2.tables)));
          is_there = inner.is_there;
          means = λ g h f k.
              let here : expr_faults (names_of_module m2.atoms fs) g a ≡ [] =
              left_empty (expr_faults (names_of_module m2.atoms fs) g a) _ k in
              let later : expr_pattern_faults (after g a) q ≡ [] =
              right_empty (expr_faults (names_of_module m2.atoms fs) g a) _ k in
              let seen : (after g a).bound ≡ b1 = element_bound (names_of_module m2.atoms fs) g a f.2 here
              ∙ ap (λ n. bound_after n a) h ∙ sym d.bound_is in
              subst (λ v. ElementIs (names_of_module m2.atoms fs) g (p.match q a) v (part_over m2.tables x))
              (sym (patterns_after m2.tables ys y))
              (w.match g q a _ _ _ (inner.means g h f.2 here) (r.answer.means (after g a) seen f.1 later));
        };
      })

module _ (fs : List (List Head)) (b : NodeTable) where
  abbrev pub next_element : List ℕ → ExprId → List ℕ
  next_element names id = bound_after names (expr_at b id.0)

  abbrev pub EachElement : Checked → List ℕ → ExprId → Element → Type 0
  EachElement t names id x = ElementBuilt fs t names (expr_at b id.0) x

  pub each_element_on : (t u : Checked) → Grown t u → (names : List ℕ) (id : ExprId) (x : Element)
      → EachElement t names id x → EachElement u names id x
  each_element_on t u e names id x h = element_means_on fs t u e names (expr_at b id.0) x.patterns.items x.value h

  each_mean : (t : Checked) (names : List ℕ) (ids : List ExprId) (xs : List Element)
      → Threaded next_element (EachElement t) names ids xs → EachElementMeans fs b t names ids xs
  each_mean t names [] [] h = tt
  each_mean t names (id ∷ ids) (x ∷ xs) h = (h.0, each_mean t (next_element names id) ids xs h.1)
  each_mean t names [] (x ∷ xs) h = absurd h
  each_mean t names (id ∷ ids) [] h = absurd h

  all_next_element : (names : List ℕ) (ids : List ExprId)
      → fold next_element names ids ≡ all_bound_after names (exprs_at b ids)
  all_next_element names [] = refl
  all_next_element names (id ∷ ids) = all_next_element (next_element names id) ids

  pub elements_done : (m0 m1 : Checked) (names now : List ℕ) (ids : List ExprId) (k : ℕ) (xs : List Element)
      → length ids ≤ k
      → SoFar next_element EachElement m0 m1 names now (take k ids) xs
      → Lowers m0 m1 now (all_bound_after names (exprs_at b ids)) (λ t. EachElementMeans fs b t names ids xs)
  elements_done m0 m1 names now ids k xs le h =
      let whole : SoFar next_element EachElement m0 m1 names now ids xs =
      subst (λ l. SoFar next_element EachElement m0 m1 names now l xs) (take_all k ids le) h in
      record {
        grown = whole.grown;
        bound_is = whole.bound_is ∙ all_next_element names ids;
        answer = each_mean m1 names ids xs whole.answer;
      }

  -- ---- bodies

  pub each_is_there : (t : Checked) (names : List ℕ) (ids : List ExprId) (xs : List Element)
      → EachElementMeans fs b t names ids xs → All (ElementRepresents t.tables) xs
  each_is_there t names [] [] h = All-nil (ElementRepresents t.tables)
  each_is_there t names (id ∷ ids) (x ∷ xs) h = All-cons (ElementRepresents t.tables) x xs (
    h.0.patterns_are_there,
    h.0.is_there,
  ) (each_is_there t (next_element names id) ids xs h.1)
  each_is_there t names [] (x ∷ xs) h = absurd h
  each_is_there t names (id ∷ ids) [] h = absurd h

  no_elements : (t : Checked) (names : List ℕ) (ids : List ExprId) (xs : List Element) → xs ≡ []
      → EachElementMeans fs b t names ids xs → HasFirst (exprs_at b ids) → ⊥
  no_elements t names [] xs e h f = f
  no_elements t names (id ∷ ids) [] e h f = h
  no_elements t names (id ∷ ids) (x ∷ xs) e h f = cc

  body_is : (t : Checked) (names : List ℕ) (ids : List ExprId) (front : List Element) (last : Element)
      → EachElementMeans fs b t names ids (front ++ last ∷ [])
      → (g : Scope) → g.bound ≡ names → ExprsFormed true (exprs_at b ids)
      → exprs_faults (names_of_module t.atoms fs) g (exprs_at b ids) ≡ []
      → BodyIs (names_of_module t.atoms fs) g (exprs_at b ids)
      (bound_elements t.tables front (ending (patterns_at t.tables last.patterns.items)
      (part_over t.tables last.value)))
  body_is t names [] [] last h g e f k = absurd h
  body_is t names [] (x ∷ front) last h g e f k = absurd h
  body_is t names (id ∷ []) [] last h g e f k =
      w.last g (expr_at b id.0) _ _ (h.0.means g e f.0
      (left_empty (expr_faults (names_of_module t.atoms fs) g (expr_at b id.0)) _ k))
  body_is t names (id ∷ other ∷ ids) [] last h g e f k = absurd h.1
  body_is t names (id ∷ ids) (x ∷ front) last h g e f k =
      let e0 = expr_at b id.0 in
      let here : expr_faults (names_of_module t.atoms fs) g e0 ≡ [] =
      left_empty (expr_faults (names_of_module t.atoms fs) g e0) _ k in
      let later : exprs_faults (names_of_module t.atoms fs) (after g e0) (exprs_at b ids) ≡ [] =
      right_empty (expr_faults (names_of_module t.atoms fs) g e0) _ k in
      w.before g e0 (exprs_at b ids) _ _ _ (h.0.means g e f.0 here)
      (body_is t (next_element names id) ids front last h.1 (after g e0)
      (element_bound (names_of_module t.atoms fs) g e0 f.0 here ∙ ap (λ n. bound_after n e0) e) f.1 later)

  pub no_body : (m0 m1 : Checked) (bound wanted names : List ℕ) (ids : List ExprId) (xs : List Element) (x : Operand)
      → OperandRepresents m1.tables x → xs ≡ []
      → Lowers m0 m1 bound wanted (λ t. EachElementMeans fs b t names ids xs)
      → Lowers m0 m1 bound wanted (λ t. BodyMeans fs t names (exprs_at b ids) x)
  no_body m0 m1 bound wanted names ids xs x st e d = record {
    grown = d.grown;
    bound_is = d.bound_is;
    answer = record { is_there = st; means = λ g h i f k. absurd (no_elements m1 names ids xs e d.answer i) };
  }

binds_kept : (t u : Tables) → Extends t u → (es : List Element) (x : Tree) → All (ElementRepresents t) es
    → bound_elements u es x ≡ bound_elements t es x
binds_kept t u on [] x h = refl
binds_kept t u on (e ∷ es) x h =
    let s = All-head (ElementRepresents t) e es h in
    let front = patterns_kept t u on e.patterns.items s.0 in
    let value = part_kept t u on e.value s.1 in
    let rest = binds_kept t u on es x (All-tail (ElementRepresents t) e es h) in
    cc

pub elements_are_there_on : (t u : Tables) → Extends t u → (es : List Element) → All (ElementRepresents t) es
    → All (ElementRepresents u) es
elements_are_there_on t u on es h = All-weaker (ElementRepresents t) (ElementRepresents u)
    (λ e s. (all_patterns_are_there t u on e.patterns.items s.0, part_is_there t u on e.value s.1)) es h

pub body_done : (fs : List (List Head)) (b : NodeTable) (m0 m1 m2 m3 : Checked) (bound wanted names : List ℕ)
    (ids : List ExprId) (xs front : List Element) (last : Element) (end x : Operand)
    → xs ≡ front ++ last ∷ [] → Lowers m0 m1 bound wanted (λ t. EachElementMeans fs b t names ids xs)
    → PartPut m1 m2 (ending (patterns_at m1.tables last.patterns.items) (part_over m1.tables last.value)) end
    → PartPut m2 m3 (bound_elements m2.tables front (part_over m2.tables end)) x
    → Lowers m0 m3 bound wanted (λ t. BodyMeans fs t names (exprs_at b ids) x)
body_done fs b m0 m1 m2 m3 bound wanted names ids xs front last end x e d put_end put =
    let each : EachElementMeans fs b m1 names ids (front ++ last ∷ []) =
    subst (EachElementMeans fs b m1 names ids) e d.answer in
    let are_there = All-pop (ElementRepresents m1.tables) xs front (Some last) e
    (each_is_there fs b m1 names ids xs d.answer) in
    let whole : bound_elements m2.tables front (part_over m2.tables end) ≡ bound_elements m1.tables front
    (ending (patterns_at m1.tables last.patterns.items) (part_over m1.tables last.value)) =
    ap (bound_elements m2.tables front) put_end.is ∙ binds_kept m1.tables m2.tables put_end.grown.tables
    front _ are_there.0 in
    let on = grown_on m1 m2 m3 put_end.grown put.grown in
    record {
      grown = grown_on m0 m1 m3 d.grown on;
      bound_is = d.bound_is;
      answer = record {
        is_there = put.is_there;
        means = becomes_on (λ n y. BodyBecomes n names (exprs_at b ids) y) fs m1 m3 _ _ on (put.is ∙ whole)
            (λ g h i f k. body_is fs b m1 names ids front last each g h f k);
      };
    }

binds_last : (t : Tables) (es : List Element) (e : Element) (x : Tree)
    → bound_elements t (es ++ e ∷ []) x ≡ bound_elements t es
    (tr.bind (patterns_at t e.patterns.items) (part_over t e.value) x)
binds_last t [] e x = refl
binds_last t (d ∷ es) e x = ap (tr.bind (patterns_at t d.patterns.items) (part_over t d.value)) (binds_last t es e x)

pub bind_step : (m0 m1 m2 : Checked) (all rest : List Element) (e : Element) (l k : Operand) (whole : Tree)
    → all ≡ rest ++ e ∷ [] → Grown m0 m1
    → All (ElementRepresents m0.tables) all → PartPut m1 m2
    (tr.bind (patterns_at m1.tables e.patterns.items) (part_over m1.tables e.value) (part_over m1.tables l)) k
    → bound_elements m0.tables all (part_over m1.tables l) ≡ whole
    → All (ElementRepresents m0.tables) rest × (bound_elements m0.tables rest (part_over m2.tables k) ≡ whole)
bind_step m0 m1 m2 all rest e l k whole is g h put was =
    let parts = All-pop (ElementRepresents m0.tables) all rest (Some e) is h in
    let front = patterns_kept m0.tables m1.tables g.tables e.patterns.items parts.1.0 in
    let value = part_kept m0.tables m1.tables g.tables e.value parts.1.1 in (
      parts.0,
      ap (bound_elements m0.tables rest) (put.is
          ∙ ap (λ z. tr.bind z (part_over m1.tables e.value) (part_over m1.tables l)) front
          ∙ ap (λ z. tr.bind (patterns_at m0.tables e.patterns.items) z (part_over m1.tables l)) value)
          ∙ sym (binds_last m0.tables rest e (part_over m1.tables l))
          ∙ ap (λ es. bound_elements m0.tables es (part_over m1.tables l)) (sym is) ∙ was,
    )

-- ---- guards

module _ (fs : List (List Head)) (b : NodeTable) where
  abbrev pub next_tests : List ℕ → Tests → List ℕ
  next_tests names g = names

  abbrev pub EachTests : Checked → List ℕ → Tests → Alternative → Type 0
  EachTests t names g a = ExprsMean fs t names (exprs_at b g.tests.items) a.tests.items

  pub each_tests_on : (t u : Checked) → Grown t u → (names : List ℕ) (g : Tests) (a : Alternative)
      → EachTests t names g a → EachTests u names g a
  each_tests_on t u on names g a h = exprs_mean_on fs t u on names (exprs_at b g.tests.items) a.tests.items h

  abbrev AlternativeRepresents : Tables → Alternative → Type 0
  AlternativeRepresents t a = All (OperandRepresents t) a.tests.items

  alternatives_are_there : (t : Checked) (names : List ℕ) (gs : List Tests) (ds : List Alternative)
      → Threaded next_tests (EachTests t) names gs ds → All (AlternativeRepresents t.tables) ds
  alternatives_are_there t names [] [] h = All-nil (AlternativeRepresents t.tables)
  alternatives_are_there t names (g ∷ gs) (d ∷ ds) h = All-cons (AlternativeRepresents t.tables) d ds h.0.is_there
      (alternatives_are_there t names gs ds h.1)
  alternatives_are_there t names [] (d ∷ ds) h = absurd h
  alternatives_are_there t names (g ∷ gs) [] h = absurd h

  alternatives_mean : (t : Checked) (names : List ℕ) (gs : List Tests) (ds : List Alternative)
      → Threaded next_tests (EachTests t) names gs ds
      → (s : Scope) → s.bound ≡ names → ConditionFormed (alternatives_at b gs)
      → condition_faults (names_of_module t.atoms fs) s (alternatives_at b gs) ≡ []
      → GuardIs (names_of_module t.atoms fs) s (alternatives_at b gs) (alternatives_over t.tables ds)
  alternatives_mean t names [] [] h s e f k = w.no_more_tests s
  alternatives_mean t names (g ∷ gs) (d ∷ ds) h s e f k =
      let es = exprs_at b g.tests.items in
      w.or_tests s es (alternatives_at b gs) _ _
      (h.0.means s e f.0 (left_empty (exprs_faults (names_of_module t.atoms fs) s es) _ k))
      (alternatives_mean t names gs ds h.1 s e f.1 (right_empty (exprs_faults (names_of_module t.atoms fs) s es) _ k))
  alternatives_mean t names [] (d ∷ ds) h s e f k = absurd h
  alternatives_mean t names (g ∷ gs) [] h s e f k = absurd h

  -- a guard that has an alternative is that of its list
  guard_means : (t : Checked) (names : List ℕ) (gs : List Tests) (ds : List Alternative)
      → Threaded next_tests (EachTests t) names gs ds
      → (s : Scope) → s.bound ≡ names → HasAlternative (alternatives_at b gs) → ConditionFormed (alternatives_at b gs)
      → condition_faults (names_of_module t.atoms fs) s (alternatives_at b gs) ≡ []
      → GuardIs (names_of_module t.atoms fs) s (alternatives_at b gs) (guard_from t.tables ds)
  guard_means t names [] ds h s e some f k = absurd some
  guard_means t names (g ∷ gs) (d ∷ ds) h s e some f k = alternatives_mean t names (g ∷ gs) (d ∷ ds) h s e f k
  guard_means t names (g ∷ gs) [] h s e some f k = absurd h

  -- a clause with no `when` has the empty list
  pub unguarded_done : (m : Checked) (names : List ℕ) (c : Condition) (d : Guard) → d.alternatives.items ≡ []
      → c ≡ unguarded → Lowers m m names names (λ t. GuardMeans fs t names c d)
  unguarded_done m names c d none e = record {
    grown = grown_itself m;
    bound_is = refl;
    answer = record {
      is_there = subst (All (AlternativeRepresents m.tables)) (sym none) (All-nil (AlternativeRepresents m.tables));
      means = λ s _ some f k.
          subst (λ ds. GuardIs (names_of_module m.atoms fs) s c (guard_from m.tables ds)) (sym none)
          (subst (λ x. GuardIs (names_of_module m.atoms fs) s x no_guard) (sym e)
          (w.or_tests s no_exprs no_tests no_trees no_alternatives (w.no_more s) (w.no_more_tests s)));
    };
  }

  all_next_tests : (names : List ℕ) (gs : List Tests) → fold next_tests names gs ≡ names
  all_next_tests names [] = refl
  all_next_tests names (g ∷ gs) = all_next_tests names gs

  pub guard_done : (m0 m1 : Checked) (names now : List ℕ) (gs : List Tests) (k : ℕ) (d : Guard) → length gs ≤ k
      → SoFar next_tests EachTests m0 m1 names now (take k gs) d.alternatives.items
      → Lowers m0 m1 now names (λ t. GuardMeans fs t names (alternatives_at b gs) d)
  guard_done m0 m1 names now gs k d le h =
      let whole : SoFar next_tests EachTests m0 m1 names now gs d.alternatives.items =
      subst (λ l. SoFar next_tests EachTests m0 m1 names now l d.alternatives.items) (take_all k gs le) h in
      record {
        grown = whole.grown;
        bound_is = whole.bound_is ∙ all_next_tests names gs;
        answer = record {
          is_there = alternatives_are_there m1 names gs d.alternatives.items whole.answer;
          means = guard_means m1 names gs d.alternatives.items whole.answer;
        };
      }

  -- ---- clauses

  pub branch_done : (m0 m1 m2 m3 : Checked) (b1 b2 b3 b4 names : List ℕ) (r : Branch) (y : PatternId)
      (d : Guard) (x : Operand)
      → Lowers m0 m1 b1 (bound_by names (expr_pattern_at b r.expr_pattern.0))
      (λ t. ExprPatternMeans fs t names (expr_pattern_at b r.expr_pattern.0) y)
      → Lowers m1 m2 b2 b1 (λ t. GuardMeans fs t b1 (condition_over b r.condition) d)
      → Lowers m2 m3 b3 (all_bound_after b2 (exprs_at b r.body.items))
      (λ t. BodyMeans fs t b2 (exprs_at b r.body.items) x)
      → b4 ≡ take (length names) b3
      → Lowers m0 m3 b4 names (λ t. BranchMeans fs b t names r (record { pattern = y; guard = d; body = x }))
  branch_done m0 m1 m2 m3 b1 b2 b3 b4 names r y d x p1 p2 p3 cut =
      let q = expr_pattern_at b r.expr_pattern.0 in
      let asked = expr_pattern_means_on fs m1 m3 (grown_on m1 m2 m3 p2.grown p3.grown) names q y p1.answer in
      let guarded = guard_means_on fs m2 m3 p3.grown b1 (condition_over b r.condition) d p2.answer in
      let at2 : b2 ≡ bound_by names q = p2.bound_is ∙ p1.bound_is in
      record {
        grown = grown_on m0 m1 m3 p1.grown (grown_on m1 m2 m3 p2.grown p3.grown);
        bound_is = cut ∙ ap (take (length names))
            (p3.bound_is ∙ ap (λ n. all_bound_after n (exprs_at b r.body.items)) at2) ∙ forgotten names q
            (exprs_at b r.body.items);
        answer = record {
          is_there = (asked.is_there, guarded.is_there, p3.answer.is_there);
          pattern = asked.means;
          guard = λ g e here some f k. guarded.means (after_expr_pattern g q)
              (expr_pattern_bound g q here ∙ ap (λ n. bound_by n q) e ∙ sym p1.bound_is) some f k;
          body = λ g e here i f k. p3.answer.means (after_expr_pattern g q)
              (expr_pattern_bound g q here ∙ ap (λ n. bound_by n q) e ∙ sym at2) i f k;
        };
      }

  abbrev pub next_branch : List ℕ → Branch → List ℕ
  next_branch names r = names

  abbrev pub EachBranch : Checked → List ℕ → Branch → Clause → Type 0
  EachBranch t names r c = BranchMeans fs b t names r c

  pub each_branch_on : (t u : Checked) → Grown t u → (names : List ℕ) (r : Branch) (c : Clause) → EachBranch t names r c
      → EachBranch u names r c
  each_branch_on t u on names r c h =
      record {
        is_there = (
          pattern_is_there t.tables u.tables on.tables c.pattern h.is_there.0,
          guard_is_there t.tables u.tables on.tables c.guard h.is_there.1,
          part_is_there t.tables u.tables on.tables c.body h.is_there.2,
        );
        pattern = becomes_on (λ n y. ExprPatternBecomes n names (expr_pattern_at b r.expr_pattern.0) y) fs t u _ _ on
            (on.tables.patterns c.pattern.0 h.is_there.0) h.pattern;
        guard = becomes_on (λ n d. BranchGuardBecomes n b names r d) fs t u _ _ on
            (guard_kept t.tables u.tables on.tables c.guard h.is_there.1) h.guard;
        body = becomes_on (λ n x. BranchBodyBecomes n b names r x) fs t u _ _ on
            (part_kept t.tables u.tables on.tables c.body h.is_there.2) h.body;
      }

  branches_are_there : (t : Checked) (names : List ℕ) (rs : List Branch) (cs : List Clause)
      → Threaded next_branch (EachBranch t) names rs cs → All (ClauseRepresents t.tables) cs
  branches_are_there t names [] [] h = All-nil (ClauseRepresents t.tables)
  branches_are_there t names (r ∷ rs) (c ∷ cs) h = All-cons (ClauseRepresents t.tables) c cs h.0.is_there
      (branches_are_there t names rs cs h.1)
  branches_are_there t names [] (c ∷ cs) h = absurd h
  branches_are_there t names (r ∷ rs) [] h = absurd h

  branches_mean : (t : Checked) (names : List ℕ) (rs : List Branch) (cs : List Clause)
      → Threaded next_branch (EachBranch t) names rs cs
      → (g : Scope) → g.bound ≡ names → BranchesFormed (branches_over b rs)
      → branches_faults (names_of_module t.atoms fs) g (branches_over b rs) ≡ []
      → BranchesAre (names_of_module t.atoms fs) g (branches_over b rs) (clauses_over t.tables cs)
  branches_mean t names [] [] h g e f k = w.no_more_branches g
  branches_mean t names (r ∷ rs) (c ∷ cs) h g e f k =
      let q = expr_pattern_at b r.expr_pattern.0 in
      let n = names_of_module t.atoms fs in
      let c1 = condition_over b r.condition in
      let es = exprs_at b r.body.items in
      let first : (expr_pattern_faults g q ++ condition_faults n (after_expr_pattern g q) c1)
      ++ exprs_faults n (after_expr_pattern g q) es ≡ [] =
      left_empty _ (branches_faults n g (branches_over b rs)) k in
      let rest : branches_faults n g (branches_over b rs) ≡ [] =
      right_empty ((expr_pattern_faults g q ++ condition_faults n (after_expr_pattern g q) c1)
      ++ exprs_faults n (after_expr_pattern g q) es) _ k in
      let in_body : exprs_faults n (after_expr_pattern g q) es ≡ [] =
      right_empty (expr_pattern_faults g q ++ condition_faults n (after_expr_pattern g q) c1) _ first in
      let two : expr_pattern_faults g q ++ condition_faults n (after_expr_pattern g q) c1 ≡ [] =
      left_empty _ (exprs_faults n (after_expr_pattern g q) es) first in
      let here : expr_pattern_faults g q ≡ [] = left_empty (expr_pattern_faults g q) _ two in
      let in_guard : condition_faults n (after_expr_pattern g q) c1 ≡ [] =
      right_empty (expr_pattern_faults g q) _ two in
      w.and_branches g q c1 es (branches_over b rs) _ _ _ _ (h.0.pattern g e f.0 here)
      (h.0.guard g e here f.1 f.2 in_guard) (h.0.body g e here f.3 f.4 in_body)
      (branches_mean t names rs cs h.1 g e f.5 rest)
  branches_mean t names [] (c ∷ cs) h g e f k = absurd h
  branches_mean t names (r ∷ rs) [] h g e f k = absurd h

  all_next_branch : (names : List ℕ) (rs : List Branch) → fold next_branch names rs ≡ names
  all_next_branch names [] = refl
  all_next_branch names (r ∷ rs) = all_next_branch names rs

  pub branches_done : (m0 m1 : Checked) (names now : List ℕ) (rs : List Branch) (k : ℕ) (cs : List Clause)
      → length rs ≤ k
      → SoFar next_branch EachBranch m0 m1 names now (take k rs) cs
      → Lowers m0 m1 now names (λ t. BranchesMean fs t names (branches_over b rs) cs)
  branches_done m0 m1 names now rs k cs le h =
      let whole : SoFar next_branch EachBranch m0 m1 names now rs cs =
      subst (λ l. SoFar next_branch EachBranch m0 m1 names now l cs) (take_all k rs le) h in
      record {
        grown = whole.grown;
        bound_is = whole.bound_is ∙ all_next_branch names rs;
        answer = record {
          is_there = branches_are_there m1 names rs cs whole.answer;
          means = branches_mean m1 names rs cs whole.answer;
        };
      }

-- ---- parts are no deeper than the whole

pub tests_shallow : (b : NodeTable) (gs : List Tests) (k : ℕ) (d : Tests) → k < length gs
    → exprs_depth (exprs_at b (get_or gs k d).tests.items) ≤ condition_depth (alternatives_at b gs)
tests_shallow b [] k d lt = absurd (omega arith)
tests_shallow b (g ∷ gs) zero d lt = omega arith
tests_shallow b (g ∷ gs) (suc k) d lt = let h = tests_shallow b gs k d (omega arith) in omega arith

pub branch_shallow : (b : NodeTable) (rs : List Branch) (k : ℕ) (d : Branch) → k < length rs
    → branch_depth b (get_or rs k d) ≤ branches_depth (branches_over b rs)
branch_shallow b [] k d lt = absurd (omega arith)
branch_shallow b (r ∷ rs) zero d lt = omega arith
branch_shallow b (r ∷ rs) (suc k) d lt = let h = branch_shallow b rs k d (omega arith) in omega arith

-- a list of no length is empty
pub no_items : {X : Type 0} (xs : List X) → length xs ≡ 0 → xs ≡ []
no_items [] e = refl
no_items (x ∷ xs) e = absurd (omega arith)
