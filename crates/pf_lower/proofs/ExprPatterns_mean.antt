-- Patterns: what each of several means is what they mean together.
use Rattle.std.proofs.Common.{◌≡◌, ℕ, zero, suc, ◌<◌, ◌≤◌, length, take, get_or, arith, Bool, true, false, List, []}
use Rattle.std.proofs.Common.{◌∷◌, ◌++◌, refl, sym, ap, ◌∙◌, subst}
use Rattle.std.specs.Prelude.{fold, not, ◌||◌, if◌then◌else◌, slice_get, Some}
use Rattle.std.proofs.lemmas.List.Elements.{All-nil, All-cons}
use Rattle.pf_errors.specs.declared.code.Code.TheVariants.{Unsafe}
use Rattle.pf_syntax.specs.ExprPattern as s
use Rattle.pf_syntax.specs.ExprPattern.{ExprPattern, ExprPatterns, no_expr_patterns, expr_pattern, expr_pattern_depth}
use Rattle.pf_syntax.specs.ExprPattern.{expr_patterns_depth}
use Rattle.pf_syntax.specs.Pattern.{new, slot, known, tuple_of}
use Rattle.pf_syntax.specs.SyntaxTree.{NodeTable, Head, expr_pattern_at}
use Rattle.pf_syntax.specs.SyntaxTreeOver.{expr_patterns_at}
use Rattle.pf_syntax.specs.Scope.{Scope, has, is_unsafe, after_expr_pattern, after_expr_patterns}
use Rattle.pf_syntax.specs.Naming as w
use Rattle.pf_syntax.specs.Naming.{Names, ExprPatternIs, conses_of, empty_list}
use Rattle.pf_syntax.specs.Module.{Checked, pattern_at}
use Rattle.pf_syntax.specs.Over.{patterns_at}
use Rattle.pf_syntax.specs.Within.{PatternRepresents}
use Rattle.pf_syntax.specs.declared.node.PatternId.{PatternId}
use Rattle.pf_syntax.specs.declared.expr.ExprPatternId.{ExprPatternId}
use Rattle.pf_rules.specs.Static.{names_of_module, fault_if, expr_pattern_faults, expr_patterns_faults}
use Rattle.pf_lower.specs.Bound.{bound_by, all_bound_by}
use Rattle.pf_lower.specs.Built.{Lowers, ExprPatternMeans, ExprPatternsMean}
use Rattle.pf_lower.specs.Grown.{Grown, PatternPut}
use Rattle.pf_lower.proofs.Exists.{new_by_tests, left_empty, right_empty}
use Rattle.pf_lower.proofs.Threads.{Threaded, SoFar}
use Rattle.pf_lower.proofs.Growing.{expr_pattern_means_on, expr_patterns_mean_on, expr_pattern_put, grown_on}

-- ---- what is bound

by_tests : (g : Scope) (x at : ℕ) (u b : Bool) → fault_if u Unsafe at ≡ []
    → (if not (b || u) then record { bound = g.bound ++ x ∷ []; unsafe = g.unsafe } else g).bound
    ≡ (if b then g.bound else g.bound ++ x ∷ [])
by_tests g x at true b h = cc
by_tests g x at false true h = refl
by_tests g x at false false h = refl

mutual
  pub expr_pattern_bound : (g : Scope) (q : ExprPattern) → expr_pattern_faults g q ≡ []
      → (after_expr_pattern g q).bound ≡ bound_by g.bound q
  expr_pattern_bound g (s.variable x at) h = by_tests g x at (is_unsafe g x) (has g.bound x) h
  expr_pattern_bound g (s.tuple qs) h = expr_patterns_bound g qs h
  expr_pattern_bound g (s.list qs) h = expr_patterns_bound g qs h
  expr_pattern_bound g (s.list_on qs q) h =
      expr_pattern_bound (after_expr_patterns g qs) q (right_empty (expr_patterns_faults g qs) _ h)
      ∙ ap (λ n. bound_by n q) (expr_patterns_bound g qs (left_empty (expr_patterns_faults g qs) _ h))
  expr_pattern_bound g (s.integer z) h = refl
  expr_pattern_bound g (s.atom a) h = refl
  expr_pattern_bound g (s.text cs) h = refl
  expr_pattern_bound g s.anything h = refl

  pub expr_patterns_bound : (g : Scope) (qs : ExprPatterns) → expr_patterns_faults g qs ≡ []
      → (after_expr_patterns g qs).bound ≡ all_bound_by g.bound qs
  expr_patterns_bound g no_expr_patterns h = refl
  expr_patterns_bound g (expr_pattern q qs) h =
      expr_patterns_bound (after_expr_pattern g q) qs (right_empty (expr_pattern_faults g q) _ h)
      ∙ ap (λ n. all_bound_by n qs) (expr_pattern_bound g q (left_empty (expr_pattern_faults g q) _ h))

-- ---- variables

pub fresh_means : (n : Names) (g : Scope) (names : List ℕ) (x at : ℕ) → g.bound ≡ names → has names x ≡ false
    → expr_pattern_faults g (s.variable x at) ≡ []
    → ExprPatternIs n g (s.variable x at) new
fresh_means n g names x at e absent h =
    w.fresh g x at (new_by_tests at (is_unsafe g x) (has g.bound x) h (ap (λ l. has l x) e ∙ absent))

pub known_means : (n : Names) (g : Scope) (names : List ℕ) (x at k : ℕ) → g.bound ≡ names → slice_get names k ≡ Some x
    → ExprPatternIs n g (s.variable x at) (slot k)
known_means n g names x at k e there = w.bound g x at k (ap (λ l. slice_get l k) e ∙ there)

-- ---- several

take_whole : {X : Type 0} (xs : List X) (k : ℕ) → length xs ≤ k → take k xs ≡ xs
take_whole [] zero h = refl
take_whole [] (suc k) h = refl
take_whole (x ∷ xs) zero h = absurd (omega arith)
take_whole (x ∷ xs) (suc k) h = ap (λ l. x ∷ l) (take_whole xs k (omega arith))

module _ (fs : List (List Head)) (b : NodeTable) where
  abbrev pub next_expr_pattern : List ℕ → ExprPatternId → List ℕ
  next_expr_pattern names id = bound_by names (expr_pattern_at b id.0)

  abbrev pub EachExprPattern : Checked → List ℕ → ExprPatternId → PatternId → Type 0
  EachExprPattern t names id y = ExprPatternMeans fs t names (expr_pattern_at b id.0) y

  pub each_expr_pattern_on : (t u : Checked) → Grown t u → (names : List ℕ) (id : ExprPatternId) (y : PatternId)
      → EachExprPattern t names id y → EachExprPattern u names id y
  each_expr_pattern_on t u e names id y h = expr_pattern_means_on fs t u e names (expr_pattern_at b id.0) y h

  pub all_next_expr_pattern : (names : List ℕ) (ids : List ExprPatternId)
      → fold next_expr_pattern names ids ≡ all_bound_by names (expr_patterns_at b ids)
  all_next_expr_pattern names [] = refl
  all_next_expr_pattern names (id ∷ ids) = all_next_expr_pattern (next_expr_pattern names id) ids

  pub expr_patterns_mean : (t : Checked) (names : List ℕ) (ids : List ExprPatternId) (ys : List PatternId)
      → Threaded next_expr_pattern (EachExprPattern t) names ids ys
      → ExprPatternsMean fs t names (expr_patterns_at b ids) ys
  expr_patterns_mean t names [] [] h = record {
    is_there = All-nil (PatternRepresents t.tables);
    means = λ g e f k.
        w.no_more_expr_patterns g;
  }
  expr_patterns_mean t names (id ∷ ids) (y ∷ ys) h =
      let q = expr_pattern_at b id.0 in
      let rest = expr_patterns_mean t (next_expr_pattern names id) ids ys h.1 in
      record {
        is_there = All-cons (PatternRepresents t.tables) y ys h.0.is_there rest.is_there;
        means = λ g e f k.
            let here : expr_pattern_faults g q ≡ [] = left_empty (expr_pattern_faults g q) _ k in
            let later : expr_patterns_faults (after_expr_pattern g q) (expr_patterns_at b ids) ≡ [] =
            right_empty (expr_pattern_faults g q) _ k in
            w.and_expr_patterns g q (expr_patterns_at b ids) (pattern_at t.tables y.0) _ (h.0.means g e f.0 here)
            (rest.means (after_expr_pattern g q) (expr_pattern_bound g q here ∙ ap (λ n. bound_by n q) e) f.1 later);
      }
  expr_patterns_mean t names [] (y ∷ ys) h = absurd h
  expr_patterns_mean t names (id ∷ ids) [] h = absurd h

  -- all of them, at the end of the loop
  pub expr_patterns_done : (m0 m1 : Checked) (names now : List ℕ) (ids : List ExprPatternId) (k : ℕ)
      (ys : List PatternId) → length ids ≤ k
      → SoFar next_expr_pattern EachExprPattern m0 m1 names now (take k ids) ys
      → Lowers m0 m1 now (all_bound_by names (expr_patterns_at b ids))
      (λ t. ExprPatternsMean fs t names (expr_patterns_at b ids) ys)
  expr_patterns_done m0 m1 names now ids k ys le h =
      let whole : SoFar next_expr_pattern EachExprPattern m0 m1 names now ids ys =
      subst (λ l. SoFar next_expr_pattern EachExprPattern m0 m1 names now l ys) (take_whole ids k le) h in
      record {
        grown = whole.grown;
        bound_is = whole.bound_is ∙ all_next_expr_pattern names ids;
        answer = expr_patterns_mean m1 names ids ys whole.answer;
      }

-- one pattern is no deeper than several
pub expr_pattern_shallow : (b : NodeTable) (ids : List ExprPatternId) (k : ℕ) (d : ExprPatternId) → k < length ids
    → expr_pattern_depth (expr_pattern_at b (get_or ids k d).0) ≤ expr_patterns_depth (expr_patterns_at b ids)
expr_pattern_shallow b [] k d lt = absurd (omega arith)
expr_pattern_shallow b (id ∷ ids) zero d lt = omega arith
expr_pattern_shallow b (id ∷ ids) (suc k) d lt = let h = expr_pattern_shallow b ids k d (omega arith) in omega arith

-- ---- lists

module _ (fs : List (List Head)) (m0 m1 m2 m3 : Checked) (names b1 : List ℕ) (qs : ExprPatterns) (ps : List PatternId)
    (p : PatternId)
    (d : Lowers m0 m1 b1 (all_bound_by names qs) (λ t. ExprPatternsMean fs t names qs ps)) where
  pub tuple_expr_pattern : (q : ExprPattern) → s.tuple qs ≡ q → PatternPut m1 m2 (tuple_of (patterns_at m1.tables ps)) p
      → Lowers m0 m2 b1 (bound_by names q) (λ t. ExprPatternMeans fs t names q p)
  tuple_expr_pattern q same put =
      expr_pattern_put fs m0 m1 m2 b1 names q (s.tuple qs) _ p same d.bound_is d.grown
      (λ g e f k. w.tuple g qs _ (d.answer.means g e f k)) put

  pub list_expr_pattern : (q : ExprPattern) (nil : PatternId) → s.list qs ≡ q → PatternPut m1 m2 (known empty_list) nil
      → PatternPut m2 m3 (conses_of (patterns_at m2.tables ps) (pattern_at m2.tables nil.0)) p
      → Lowers m0 m3 b1 (bound_by names q) (λ t. ExprPatternMeans fs t names q p)
  list_expr_pattern q nil same end put =
      let whole : conses_of (patterns_at m2.tables ps) (pattern_at m2.tables nil.0)
      ≡ conses_of (patterns_at m2.tables ps) (known empty_list) =
      ap (conses_of (patterns_at m2.tables ps)) end.is in
      let front = expr_patterns_mean_on fs m1 m2 end.grown names qs ps d.answer in
      expr_pattern_put fs m0 m2 m3 b1 names q (s.list qs) _ p same d.bound_is (grown_on m0 m1 m2 d.grown end.grown)
      (λ g e f k. subst (ExprPatternIs (names_of_module m2.atoms fs) g (s.list qs)) (sym whole)
      (w.list g qs _ (front.means g e f k))) put

  pub list_on_expr_pattern : (b2 : List ℕ) (q q1 : ExprPattern) (rest : PatternId) → s.list_on qs q1 ≡ q
      → Lowers m1 m2 b2 (bound_by b1 q1) (λ t. ExprPatternMeans fs t b1 q1 rest)
      → PatternPut m2 m3 (conses_of (patterns_at m2.tables ps) (pattern_at m2.tables rest.0)) p
      → Lowers m0 m3 b2 (bound_by names q) (λ t. ExprPatternMeans fs t names q p)
  list_on_expr_pattern b2 q q1 rest same r put =
      let front = expr_patterns_mean_on fs m1 m2 r.grown names qs ps d.answer in
      expr_pattern_put fs m0 m2 m3 b2 names q (s.list_on qs q1) _ p same
      (r.bound_is ∙ ap (λ n. bound_by n q1) d.bound_is) (grown_on m0 m1 m2 d.grown r.grown)
      (λ g e f k.
      let here : expr_patterns_faults g qs ≡ [] = left_empty (expr_patterns_faults g qs) _ k in
      let later : expr_pattern_faults (after_expr_patterns g qs) q1 ≡ [] =
      right_empty (expr_patterns_faults g qs) _ k in
      w.list_on g qs q1 _ _ (front.means g e f.0 here)
      (r.answer.means (after_expr_patterns g qs) (expr_patterns_bound g qs here ∙ ap (λ n. all_bound_by n qs) e
      ∙ sym d.bound_is) f.1 later))
      put
