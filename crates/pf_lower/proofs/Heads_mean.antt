-- Clauses of functions, functions and modules: what their parts mean is what they mean.
use Rattle.std.proofs.Common.{◌≡◌, ℕ, ◌<◌, ◌≤◌, List, [], ◌∷◌, ◌++◌, length, take, refl, sym, ap, ◌∙◌, subst}
use Rattle.std.specs.Prelude.{fold, map, flat_map}
use Rattle.std.specs.List.{All}
use Rattle.std.proofs.lemmas.List.{take_all}
use Rattle.std.proofs.lemmas.List.Elements.{All-nil, All-cons, All-head, All-tail}
use Rattle.pf_syntax.specs.SyntaxTree.{NodeTable, Head, Export}
use Rattle.pf_syntax.specs.SyntaxTreeOver.{expr_patterns_at, exprs_at, condition_over, head_over}
use Rattle.pf_syntax.specs.Scope.{no_scope, after_expr_patterns}
use Rattle.pf_syntax.specs.Naming.{Names, ExprPatternsAre, GuardIs, BodyIs, HeadIs}
use Rattle.pf_syntax.specs.Tree.{Function as Made}
use Rattle.pf_syntax.specs.Module.{Checked}
use Rattle.pf_syntax.specs.Over.{patterns_at, guard_over, part_over, function_clause_over}
use Rattle.pf_syntax.specs.Within.{FunctionClauseRepresents, GuardRepresents, OperandRepresents}
use Rattle.pf_syntax.proofs.Extends.{patterns_kept, all_patterns_are_there, guard_kept, guard_is_there, part_kept}
use Rattle.pf_syntax.proofs.Extends.{part_is_there}
use Rattle.pf_syntax.specs.declared.node.PatternId.{PatternId}
use Rattle.pf_syntax.specs.declared.node.Operand.{Operand}
use Rattle.pf_syntax.specs.declared.node.Guard.{Guard}
use Rattle.pf_syntax.specs.declared.node.FunctionClause.{FunctionClause}
use Rattle.pf_syntax.specs.declared.node.Function.{Function}
use Rattle.pf_syntax.specs.declared.expr.Head.{Head as HeadNode}
use Rattle.pf_rules.specs.Static.{names_of_module, expr_patterns_faults, condition_faults, exprs_faults, head_faults}
use Rattle.pf_rules.specs.Static.{parameters_of}
use Rattle.pf_rules.specs.Formed.{HeadFormed, FunctionFormed, AreFormed}
use Rattle.pf_lower.specs.Bound.{all_bound_by, all_bound_after}
use Rattle.pf_rules.specs.Checks.{Pairwise, FunctionIs, is_exported}
use Rattle.pf_lower.specs.Grown.{Grown}
use Rattle.pf_lower.specs.Built.{Lowers, ExprPatternsMean, GuardMeans, BodyMeans}
use Rattle.pf_lower.specs.Heads.{HeadMeans, HeadsMean, FunctionMeans}
use Rattle.pf_lower.proofs.Growing.{grown_on, becomes_on, expr_patterns_mean_on, guard_means_on}
use Rattle.pf_lower.proofs.Threads.{Threaded, SoFar}
use Rattle.pf_lower.proofs.ExprPatterns_mean.{expr_patterns_bound}
use Rattle.pf_lower.proofs.Exists.{left_empty, right_empty}

module _ (fs : List (List Head)) (b : NodeTable) where
  pub clause_done : (m0 m1 m2 m3 : Checked) (b1 b2 b3 b4 names : List ℕ) (h : HeadNode) (ys : List PatternId)
      (d : Guard) (x : Operand) (c : FunctionClause)
      → names ≡ [] → c.parameters.items ≡ ys → c.guard ≡ d → c.body ≡ x
      → Lowers m0 m1 b1 (all_bound_by names (expr_patterns_at b h.parameters.items))
      (λ t. ExprPatternsMean fs t names (expr_patterns_at b h.parameters.items) ys)
      → Lowers m1 m2 b2 b1 (λ t. GuardMeans fs t b1 (condition_over b h.condition) d)
      → Lowers m2 m3 b3 (all_bound_after b2 (exprs_at b h.body.items))
      (λ t. BodyMeans fs t b2 (exprs_at b h.body.items) x)
      → b4 ≡ [] → Lowers m0 m3 b4 [] (λ t. HeadMeans fs t (head_over b h) c)
  clause_done m0 m1 m2 m3 b1 b2 b3 b4 names h ys d x c none cys cd cx p1 p2 p3 cut =
      let n = names_of_module m3.atoms fs in
      let qs = expr_patterns_at b h.parameters.items in
      let c1 = condition_over b h.condition in
      let es = exprs_at b h.body.items in
      let s = after_expr_patterns no_scope qs in
      let on13 = grown_on m1 m2 m3 p2.grown p3.grown in
      let asked = expr_patterns_mean_on fs m1 m3 on13 names qs ys p1.answer in
      let guarded = guard_means_on fs m2 m3 p3.grown b1 c1 d p2.answer in
      let at2 : b2 ≡ all_bound_by names qs = p2.bound_is ∙ p1.bound_is in
      record {
        grown = grown_on m0 m1 m3 p1.grown on13;
        bound_is = cut;
        answer = record {
          is_there = (
            subst (λ l. All (λ q. q.0 < length m3.tables.patterns) l) (sym cys) asked.is_there,
            subst (λ g. GuardRepresents m3.tables g) (sym cd) guarded.is_there,
            subst (λ y. OperandRepresents m3.tables y) (sym cx) p3.answer.is_there,
          );
          means = λ f k.
              let two : expr_patterns_faults no_scope qs ++ condition_faults n s c1 ≡ [] =
              left_empty _ (exprs_faults n s es) k in
              let in_body : exprs_faults n s es ≡ [] =
              right_empty (expr_patterns_faults no_scope qs ++ condition_faults n s c1) _ k in
              let here : expr_patterns_faults no_scope qs ≡ [] = left_empty (expr_patterns_faults no_scope qs) _ two in
              let in_guard : condition_faults n s c1 ≡ [] = right_empty (expr_patterns_faults no_scope qs) _ two in
              let seen : s.bound ≡ all_bound_by names qs = expr_patterns_bound no_scope qs here
              ∙ ap (λ l. all_bound_by l qs) (sym none) in
              record {
                parameters = subst (λ l. ExprPatternsAre n no_scope qs (patterns_at m3.tables l)) (sym cys)
                    (asked.means no_scope (sym none) f.0 here);
                guard = subst (λ g. GuardIs n s c1 (guard_over m3.tables g)) (sym cd)
                    (guarded.means s (seen ∙ sym p1.bound_is) f.1 f.2 in_guard);
                body = subst (λ y. BodyIs n s es (part_over m3.tables y)) (sym cx)
                    (p3.answer.means s (seen ∙ sym at2) f.3 f.4 in_body);
              };
        };
      }

  abbrev pub next_head : List ℕ → HeadNode → List ℕ
  next_head names h = []

  abbrev pub EachHead : Checked → List ℕ → HeadNode → FunctionClause → Type 0
  EachHead t names h c = HeadMeans fs t (head_over b h) c

  pub each_head_on : (t u : Checked) → Grown t u → (names : List ℕ) (h : HeadNode) (c : FunctionClause)
      → EachHead t names h c → EachHead u names h c
  each_head_on t u on names h c m =
      let front : patterns_at u.tables c.parameters.items ≡ patterns_at t.tables c.parameters.items =
      patterns_kept t.tables u.tables on.tables c.parameters.items m.is_there.0 in
      let middle : guard_over u.tables c.guard ≡ guard_over t.tables c.guard =
      guard_kept t.tables u.tables on.tables c.guard m.is_there.1 in
      let end : part_over u.tables c.body ≡ part_over t.tables c.body =
      part_kept t.tables u.tables on.tables c.body m.is_there.2 in
      let whole : function_clause_over u.tables c ≡ function_clause_over t.tables c = cc in
      record {
        is_there = (
          all_patterns_are_there t.tables u.tables on.tables c.parameters.items m.is_there.0,
          guard_is_there t.tables u.tables on.tables c.guard m.is_there.1,
          part_is_there t.tables u.tables on.tables c.body m.is_there.2,
        );
        means = becomes_on (λ n x. HeadFormed (head_over b h) → head_faults n (head_over b h) ≡ []
            → HeadIs n (head_over b h) x) fs t u _ _ on whole m.means;
      }

  heads_mean : (t : Checked) (names : List ℕ) (hs : List HeadNode) (cs : List FunctionClause)
      → Threaded next_head (EachHead t) names hs cs → HeadsMean fs t (map (head_over b) hs) cs
  heads_mean t names [] [] h = record { is_there = All-nil (FunctionClauseRepresents t.tables); means = λ f k. tt }
  heads_mean t names (x ∷ hs) (c ∷ cs) h =
      let n = names_of_module t.atoms fs in
      let rest = heads_mean t [] hs cs h.1 in
      record {
        is_there = All-cons (FunctionClauseRepresents t.tables) c cs h.0.is_there rest.is_there;
        means = λ f k. (
          h.0.means (All-head HeadFormed (head_over b x) (map (head_over b) hs) f)
              (left_empty (head_faults n (head_over b x)) _ k),
          rest.means (All-tail HeadFormed (head_over b x) (map (head_over b) hs) f)
              (right_empty (head_faults n (head_over b x)) _ k),
        );
      }
  heads_mean t names [] (c ∷ cs) h = absurd h
  heads_mean t names (x ∷ hs) [] h = absurd h

  all_next_head : (hs : List HeadNode) → fold next_head [] hs ≡ []
  all_next_head [] = refl
  all_next_head (h ∷ hs) = all_next_head hs

  pub heads_done : (m0 m1 : Checked) (names now : List ℕ) (hs : List HeadNode) (k : ℕ) (cs : List FunctionClause)
      → names ≡ [] → length hs ≤ k
      → SoFar next_head EachHead m0 m1 names now (take k hs) cs
      → Lowers m0 m1 now [] (λ t. HeadsMean fs t (map (head_over b) hs) cs)
  heads_done m0 m1 names now hs k cs none le h =
      let whole : SoFar next_head EachHead m0 m1 names now hs cs =
      subst (λ l. SoFar next_head EachHead m0 m1 names now l cs) (take_all k hs le) h in
      record {
        grown = whole.grown;
        bound_is = whole.bound_is ∙ ap (λ s. fold next_head s hs) none ∙ all_next_head hs;
        answer = heads_mean m1 names hs cs whole.answer;
      }

  -- a function whose first clause is known
  pub function_done : (exports : List Export) (m0 m1 : Checked) (now : List ℕ) (hs : List Head) (h : Head)
      (rest : List Head) (f : Function) → hs ≡ h ∷ rest
      → f.name.0 ≡ h.name → f.arity ≡ parameters_of h.parameters
      → f.exported ≡ is_exported exports h.name (parameters_of h.parameters)
      → Lowers m0 m1 now [] (λ t. HeadsMean fs t hs f.clauses.items)
      → Lowers m0 m1 now [] (λ t. FunctionMeans fs exports t hs f)
  function_done exports m0 m1 now hs h rest f is name arity exported d =
      subst (λ l. Lowers m0 m1 now [] (λ t. FunctionMeans fs exports t l f)) (sym is)
      (record {
        grown = d.grown;
        bound_is = d.bound_is;
        answer =
            let inner : HeadsMean fs m1 (h ∷ rest) f.clauses.items =
            subst (λ l. HeadsMean fs m1 l f.clauses.items) is d.answer in
            record { is_there = inner.is_there; means = λ g k. (name, arity, exported, inner.means g k) };
      })

  pub no_function : (exports : List Export) (m0 m1 : Checked) (now : List ℕ) (hs : List Head) (f : Function) → hs ≡ []
      → Lowers m0 m1 now [] (λ t. HeadsMean fs t hs f.clauses.items)
      → Lowers m0 m1 now [] (λ t. FunctionMeans fs exports t hs f)
  no_function exports m0 m1 now hs f is d = subst (λ l. Lowers m0 m1 now [] (λ t. FunctionMeans fs exports t l f))
      (sym is)
      (record {
        grown = d.grown;
        bound_is = d.bound_is;
        answer =
            record { is_there = d.answer.is_there; means = λ g k. absurd g };
      })

-- ---- modules

-- each function so far, where no function breaks a rule
module _ (n : Names) (exports : List Export) where
  abbrev pub EachFunction : List (List Head) → List Made → Type 0
  EachFunction [] [] = Unit {0}
  EachFunction (hs ∷ more) (f ∷ made) = (FunctionFormed hs → flat_map (head_faults n) hs ≡ []
      → FunctionIs n exports hs f) × EachFunction more made
  EachFunction _ _ = ⊥

  pub one_function_more : (xs : List (List Head)) (made : List Made) (hs : List Head) (f : Made) → EachFunction xs made
      → (FunctionFormed hs → flat_map (head_faults n) hs ≡ [] → FunctionIs n exports hs f)
      → EachFunction (xs ++ hs ∷ []) (made ++ f ∷ [])
  one_function_more [] [] hs f h r = (r, tt)
  one_function_more (x ∷ xs) (m ∷ made) hs f h r = (h.0, one_function_more xs made hs f h.1 r)
  one_function_more [] (m ∷ made) hs f h r = absurd h
  one_function_more (x ∷ xs) [] hs f h r = absurd h

  pub functions_are : (xs : List (List Head)) (made : List Made) → EachFunction xs made → AreFormed xs
      → flat_map (flat_map (head_faults n)) xs ≡ []
      → Pairwise (FunctionIs n exports) xs made
  functions_are [] [] h f k = tt
  functions_are (x ∷ xs) (m ∷ made) h f k = (
    h.0 (All-head FunctionFormed x xs f) (left_empty (flat_map (head_faults n) x) _ k),
    functions_are xs made h.1 (All-tail FunctionFormed x xs f) (right_empty (flat_map (head_faults n) x) _ k),
  )
  functions_are [] (m ∷ made) h f k = absurd h
  functions_are (x ∷ xs) [] h f k = absurd h
