-- Expressions: an expression of the grammar binds nothing outside bodies, and what its parts mean is what it means.
use Rattle.std.proofs.Common.{◌≡◌, ℕ, zero, suc, ◌<◌, ◌≤◌, true, false, List, [], ◌∷◌, ◌++◌, length, take, get_or, refl}
use Rattle.std.proofs.Common.{sym, ap, ◌∙◌, subst, arith}
use Rattle.std.specs.Prelude.{fold, slice_get, Some, None, ◌||◌, if◌then◌else◌, is_some, Option}
use Rattle.std.proofs.lemmas.List.{take_all}
use Rattle.std.proofs.lemmas.List.Elements.{All-nil, All-cons}
use Rattle.pf_errors.specs.declared.code.Code.TheVariants.{Undefined}
use Rattle.pf_syntax.specs.Expr as p
use Rattle.pf_syntax.specs.Expr.{Expr, Exprs, Branches, no_exprs, expr, expr_depth, exprs_depth}
use Rattle.pf_syntax.specs.Tree as tr
use Rattle.pf_syntax.specs.Tree.{Tree, lit, var}
use Rattle.pf_syntax.specs.SyntaxTree.{NodeTable, Head, expr_at}
use Rattle.pf_syntax.specs.SyntaxTreeOver.{exprs_at}
use Rattle.pf_syntax.specs.Scope.{Scope, has, is_unsafe, after, after_all}
use Rattle.pf_syntax.specs.Naming as w
use Rattle.pf_syntax.specs.Naming.{Names, ExprIs, conses, arity_of}
use Rattle.pf_syntax.specs.Module.{Checked}
use Rattle.pf_syntax.specs.Over.{part_over, parts_over, clauses_over}
use Rattle.pf_syntax.specs.Within.{OperandRepresents}
use Rattle.pf_syntax.specs.declared.node.Operand.{Operand}
use Rattle.pf_syntax.specs.declared.node.Clause.{Clause}
use Rattle.pf_syntax.specs.declared.expr.ExprId.{ExprId}
use Rattle.pf_rules.specs.Static.{names_of_module, fault_if, is_defined, expr_faults, exprs_faults, branches_faults}
use Rattle.pf_rules.specs.Formed.{ExprFormed, ExprsFormed}
use Rattle.pf_lower.specs.Bound.{bound_by, bound_after, IsNoMatch}
use Rattle.pf_lower.specs.Grown.{Grown, PartPut}
use Rattle.pf_lower.specs.Built.{Lowers, ExprBecomes, ExprMeans, ExprsMean, BranchesMean}
use Rattle.pf_lower.proofs.Exists.{bound_by_tests, left_empty, right_empty}
use Rattle.pf_lower.proofs.Growing.{grown_itself, grown_on, expr_put, expr_means_on, exprs_mean_on}
use Rattle.pf_lower.proofs.Threads.{Threaded, SoFar}
use Rattle.pf_lower.proofs.ExprPatterns_mean.{expr_pattern_bound}

-- ---- what is bound

mutual
  pub kept : (g : Scope) (e : Expr) → ExprFormed false e → (after g e).bound ≡ g.bound
  kept g (p.integer z) f = refl
  kept g (p.atom a) f = refl
  kept g (p.text cs) f = refl
  kept g (p.variable x at) f = refl
  kept g (p.anonymous at) f = refl
  kept g (p.parentheses a) f = kept g a f
  kept g (p.tuple es) f = all_kept g es f
  kept g (p.list es) f = all_kept g es f
  kept g (p.list_on es e) f = kept (after_all g es) e f.1 ∙ all_kept g es f.0
  kept g (p.call x at es) f = all_kept g es f
  kept g (p.binary o a b) f = kept (after g a) b f.1 ∙ kept g a f.0
  kept g (p.negate a) f = kept g a f
  kept g (p.and_also a b) f = kept (after g a) b f.1 ∙ kept g a f.0
  kept g (p.or_else a b) f = kept (after g a) b f.1 ∙ kept g a f.0
  kept g (p.send a b) f = kept (after g a) b f.1 ∙ kept g a f.0
  kept g (p.match q a) f = let no = f.0 in cc
  kept g (p.case a bs) f = kept g a f.0
  kept g (p.if_expression bs) f = refl
  kept g (p.receive bs) f = refl

  pub all_kept : (g : Scope) (es : Exprs) → ExprsFormed false es → (after_all g es).bound ≡ g.bound
  all_kept g no_exprs f = refl
  all_kept g (expr e es) f = all_kept (after g e) es f.1 ∙ kept g e f.0

pub plain_formed : (e : Expr) → IsNoMatch e → ExprFormed true e → ExprFormed false e
plain_formed (p.integer z) i f = f
plain_formed (p.atom a) i f = f
plain_formed (p.text cs) i f = f
plain_formed (p.variable x at) i f = f
plain_formed (p.anonymous at) i f = f
plain_formed (p.parentheses a) i f = f
plain_formed (p.tuple es) i f = f
plain_formed (p.list es) i f = f
plain_formed (p.list_on es e) i f = f
plain_formed (p.call x at es) i f = f
plain_formed (p.binary o a b) i f = f
plain_formed (p.negate a) i f = f
plain_formed (p.and_also a b) i f = f
plain_formed (p.or_else a b) i f = f
plain_formed (p.send a b) i f = f
plain_formed (p.match q a) i f = absurd i
plain_formed (p.case a bs) i f = f
plain_formed (p.if_expression bs) i f = f
plain_formed (p.receive bs) i f = f

pub plain_bound : (e : Expr) (names : List ℕ) → IsNoMatch e → bound_after names e ≡ names
plain_bound (p.integer z) names i = refl
plain_bound (p.atom a) names i = refl
plain_bound (p.text cs) names i = refl
plain_bound (p.variable x at) names i = refl
plain_bound (p.anonymous at) names i = refl
plain_bound (p.parentheses a) names i = refl
plain_bound (p.tuple es) names i = refl
plain_bound (p.list es) names i = refl
plain_bound (p.list_on es e) names i = refl
plain_bound (p.call x at es) names i = refl
plain_bound (p.binary o a b) names i = refl
plain_bound (p.negate a) names i = refl
plain_bound (p.and_also a b) names i = refl
plain_bound (p.or_else a b) names i = refl
plain_bound (p.send a b) names i = refl
plain_bound (p.match q a) names i = absurd i
plain_bound (p.case a bs) names i = refl
plain_bound (p.if_expression bs) names i = refl
plain_bound (p.receive bs) names i = refl

pub element_bound : (n : Names) (g : Scope) (e : Expr) → ExprFormed true e → expr_faults n g e ≡ []
    → (after g e).bound ≡ bound_after g.bound e
element_bound n g (p.match q a) f k =
    expr_pattern_bound (after g a) q (right_empty (expr_faults n g a) _ k)
    ∙ ap (λ l. bound_by l q) (element_bound n g a f.2 (left_empty (expr_faults n g a) _ k))
element_bound n g (p.integer z) f k = refl
element_bound n g (p.atom a) f k = refl
element_bound n g (p.text cs) f k = refl
element_bound n g (p.variable x at) f k = refl
element_bound n g (p.anonymous at) f k = refl
element_bound n g (p.parentheses a) f k = kept g (p.parentheses a) f
element_bound n g (p.tuple es) f k = kept g (p.tuple es) f
element_bound n g (p.list es) f k = kept g (p.list es) f
element_bound n g (p.list_on es e) f k = kept g (p.list_on es e) f
element_bound n g (p.call x at es) f k = kept g (p.call x at es) f
element_bound n g (p.binary o a b) f k = kept g (p.binary o a b) f
element_bound n g (p.negate a) f k = kept g (p.negate a) f
element_bound n g (p.and_also a b) f k = kept g (p.and_also a b) f
element_bound n g (p.or_else a b) f k = kept g (p.or_else a b) f
element_bound n g (p.send a b) f k = kept g (p.send a b) f
element_bound n g (p.case a bs) f k = kept g (p.case a bs) f
element_bound n g (p.if_expression bs) f k = kept g (p.if_expression bs) f
element_bound n g (p.receive bs) f k = kept g (p.receive bs) f

-- ---- answers

module _ (fs : List (List Head)) where
  -- a part that needs nothing put
  pub expr_here : (m : Checked) (names : List ℕ) (e e' : Expr) (x : Operand) → e' ≡ e → OperandRepresents m.tables x
      → ExprBecomes (names_of_module m.atoms fs) names e' (part_over m.tables x)
      → Lowers m m names names (λ t. ExprMeans fs t names e x)
  expr_here m names e e' x same is_there means = subst
      (λ s. Lowers m m names names (λ t. ExprMeans fs t names s x)) same
      (record { grown = grown_itself m; bound_is = refl; answer = record { is_there = is_there; means = means } })

  -- what was done after something else that bound nothing
  pub after_lowers : (m0 m1 m2 : Checked) (b1 b2 names : List ℕ) (e e' : Expr) (x : Operand) → Grown m0 m1
      → b1 ≡ names → e' ≡ e
      → Lowers m1 m2 b2 b1 (λ t. ExprMeans fs t b1 e' x) → Lowers m0 m2 b2 names (λ t. ExprMeans fs t names e x)
  after_lowers m0 m1 m2 b1 b2 names e e' x grown same is d =
      subst (λ s. Lowers m0 m2 b2 names (λ t. ExprMeans fs t names s x)) is
      (record {
        grown = grown_on m0 m1 m2 grown d.grown;
        bound_is = d.bound_is ∙ same;
        answer =
            subst (λ n. ExprMeans fs m2 n e' x) same d.answer;
      })

  pub parentheses_lowers : (m0 m1 : Checked) (b names : List ℕ) (a e : Expr) (x : Operand) → p.parentheses a ≡ e
      → Lowers m0 m1 b names (λ t. ExprMeans fs t names a x)
      → Lowers m0 m1 b names (λ t. ExprMeans fs t names e x)
  parentheses_lowers m0 m1 b names a e x is d = subst (λ s. Lowers m0 m1 b names (λ t. ExprMeans fs t names s x)) is
      (record {
        grown = d.grown;
        bound_is = d.bound_is;
        answer =
            record { is_there = d.answer.is_there; means = λ g h f k. w.parentheses g a _ (d.answer.means g h f k) };
      })

  -- two operands
  pub pair_lowers : (m0 m1 m2 : Checked) (b1 b2 names : List ℕ) (a b : Expr) (x y : Operand)
      → Lowers m0 m1 b1 names (λ t. ExprMeans fs t names a x)
      → Lowers m1 m2 b2 b1 (λ t. ExprMeans fs t b1 b y)
      → Lowers m0 m2 b2 names (λ t. ExprMeans fs t names a x × ExprMeans fs t names b y)
  pair_lowers m0 m1 m2 b1 b2 names a b x y d e = record {
    grown = grown_on m0 m1 m2 d.grown e.grown;
    bound_is = e.bound_is ∙ d.bound_is;
    answer = (
      expr_means_on fs m1 m2 e.grown names a x d.answer,
      subst (λ n. ExprMeans fs m2 n b y) d.bound_is e.answer,
    );
  }

  pub two_mean : (t : Checked) (names : List ℕ) (a b : Expr) (x y : Operand)
      → ExprMeans fs t names a x × ExprMeans fs t names b y
      → (g : Scope) → g.bound ≡ names → ExprFormed false a × ExprFormed false b
      → expr_faults (names_of_module t.atoms fs) g a ++ expr_faults (names_of_module t.atoms fs) (after g a) b ≡ []
      → ExprIs (names_of_module t.atoms fs) g a (part_over t.tables x) × ExprIs (names_of_module t.atoms fs)
      (after g a) b (part_over t.tables y)
  two_mean t names a b x y h g e f k = (
    h.0.means g e f.0 (left_empty (expr_faults (names_of_module t.atoms fs) g a) _ k),
    h.1.means (after g a) (kept g a f.0 ∙ e) f.1 (right_empty (expr_faults (names_of_module t.atoms fs) g a) _ k),
  )

  pub list_on_put : (m0 m1 m2 m3 : Checked) (b1 b2 names : List ℕ) (es : Exprs) (e e' : Expr) (xs : List Operand)
      (x y : Operand) → p.list_on es e' ≡ e
      → Lowers m0 m1 b1 names (λ t. ExprsMean fs t names es xs) → Lowers m1 m2 b2 b1 (λ t. ExprMeans fs t b1 e' x)
      → PartPut m2 m3 (conses (parts_over m2.tables xs) (part_over m2.tables x)) y
      → Lowers m0 m3 b2 names (λ t. ExprMeans fs t names e y)
  list_on_put m0 m1 m2 m3 b1 b2 names es e e' xs x y is d r put =
      let front = exprs_mean_on fs m1 m2 r.grown names es xs d.answer in
      let n = names_of_module m2.atoms fs in
      expr_put fs m0 m2 m3 b2 names e (p.list_on es e') _ y is (r.bound_is ∙ d.bound_is)
      (grown_on m0 m1 m2 d.grown r.grown)
      (λ g h f k.
      let here : exprs_faults n g es ≡ [] = left_empty (exprs_faults n g es) _ k in
      let later : expr_faults n (after_all g es) e' ≡ [] = right_empty (exprs_faults n g es) _ k in
      w.list_on g es e' _ _ (front.means g h f.0 here)
      (r.answer.means (after_all g es) (all_kept g es f.0 ∙ h ∙ sym d.bound_is) f.1 later))
      put

  pub case_put : (m0 m1 m2 m3 : Checked) (b1 b2 names : List ℕ) (a e : Expr) (bs : Branches) (x y : Operand)
      (cs : List Clause) → p.case a bs ≡ e
      → Lowers m0 m1 b1 names (λ t. ExprMeans fs t names a x) → Lowers m1 m2 b2 b1 (λ t. BranchesMean fs t b1 bs cs)
      → PartPut m2 m3 (tr.case (part_over m2.tables x) (clauses_over m2.tables cs)) y
      → Lowers m0 m3 b2 names (λ t. ExprMeans fs t names e y)
  case_put m0 m1 m2 m3 b1 b2 names a e bs x y cs is d r put =
      let value = expr_means_on fs m1 m2 r.grown names a x d.answer in
      expr_put fs m0 m2 m3 b2 names e (p.case a bs) _ y is (r.bound_is ∙ d.bound_is) (grown_on m0 m1 m2 d.grown r.grown)
      (λ g h f k.
      let here : expr_faults (names_of_module m2.atoms fs) g a ≡ [] =
      left_empty (expr_faults (names_of_module m2.atoms fs) g a) _ k in
      let later : branches_faults (names_of_module m2.atoms fs) (after g a) bs ≡ [] =
      right_empty (expr_faults (names_of_module m2.atoms fs) g a) _ k in
      w.case g a bs _ _ (value.means g h f.0 here)
      (r.answer.means (after g a) (kept g a f.0 ∙ h ∙ sym d.bound_is) f.1 later))
      put

-- ---- variables and calls

pub variable_bound : (n : Names) (g : Scope) (names : List ℕ) (x at : ℕ) → g.bound ≡ names
    → expr_faults n g (p.variable x at) ≡ [] → has names x ≡ true
variable_bound n g names x at e h = sym (ap (λ l. has l x) e) ∙ bound_by_tests at (is_unsafe g x) (has g.bound x) h

pub variable_means : (n : Names) (g : Scope) (names : List ℕ) (x at k : ℕ) → g.bound ≡ names
    → slice_get names k ≡ Some x → ExprIs n g (p.variable x at) (var k)
variable_means n g names x at k e there = w.variable g x at k (ap (λ l. slice_get l k) e ∙ there)

undefined : {A B : Type 0} (at : ℕ) (own : Option A) (built : Option B) → own ≡ None → built ≡ None
    → (if is_some own || is_some built then [] else fault_if true Undefined at) ≡ [] → ⊥
undefined at None None e d h = cc
undefined at None (Some y) e d h = cc
undefined at (Some x) built e d h = cc

-- a call without a fault finds a function
pub call_defined : (n : Names) (g : Scope) (f at : ℕ) (es : Exprs) → n.own_of f (arity_of es) ≡ None
    → n.builtin_of f (arity_of es) ≡ None → expr_faults n g (p.call f at es) ≡ [] → ⊥
call_defined n g f at es e d h = undefined at (n.own_of f (arity_of es)) (n.builtin_of f (arity_of es)) e d
    (left_empty _ (exprs_faults n g es) h)

pub call_clean : (n : Names) (g : Scope) (f at : ℕ) (es : Exprs) → expr_faults n g (p.call f at es) ≡ []
    → exprs_faults n g es ≡ []
call_clean n g f at es h = right_empty (if is_defined n f (arity_of es) then [] else fault_if true Undefined at) _ h

-- ---- several

module _ (fs : List (List Head)) (b : NodeTable) where
  abbrev pub next_expr : List ℕ → ExprId → List ℕ
  next_expr names id = names

  abbrev pub EachExpr : Checked → List ℕ → ExprId → Operand → Type 0
  EachExpr t names id x = ExprMeans fs t names (expr_at b id.0) x

  pub each_expr_on : (t u : Checked) → Grown t u → (names : List ℕ) (id : ExprId) (x : Operand) → EachExpr t names id x
      → EachExpr u names id x
  each_expr_on t u e names id x h = expr_means_on fs t u e names (expr_at b id.0) x h

  exprs_mean : (t : Checked) (names : List ℕ) (ids : List ExprId) (xs : List Operand)
      → Threaded next_expr (EachExpr t) names ids xs
      → ExprsMean fs t names (exprs_at b ids) xs
  exprs_mean t names [] [] h = record {
    is_there = All-nil (OperandRepresents t.tables);
    means =
        λ g e f k. w.no_more g;
  }
  exprs_mean t names (id ∷ ids) (x ∷ xs) h =
      let e0 = expr_at b id.0 in
      let rest = exprs_mean t names ids xs h.1 in
      record {
        is_there = All-cons (OperandRepresents t.tables) x xs h.0.is_there rest.is_there;
        means = λ g e f k.
            let here : expr_faults (names_of_module t.atoms fs) g e0 ≡ [] =
            left_empty (expr_faults (names_of_module t.atoms fs) g e0) _ k in
            let later : exprs_faults (names_of_module t.atoms fs) (after g e0) (exprs_at b ids) ≡ [] =
            right_empty (expr_faults (names_of_module t.atoms fs) g e0) _ k in
            w.and_more g e0 (exprs_at b ids) (part_over t.tables x) _ (h.0.means g e f.0 here)
            (rest.means (after g e0) (kept g e0 f.0 ∙ e) f.1 later);
      }
  exprs_mean t names [] (x ∷ xs) h = absurd h
  exprs_mean t names (id ∷ ids) [] h = absurd h

  all_next_expr : (names : List ℕ) (ids : List ExprId) → fold next_expr names ids ≡ names
  all_next_expr names [] = refl
  all_next_expr names (id ∷ ids) = all_next_expr names ids

  pub exprs_done : (m0 m1 : Checked) (names now : List ℕ) (ids : List ExprId) (k : ℕ) (xs : List Operand)
      → length ids ≤ k
      → SoFar next_expr EachExpr m0 m1 names now (take k ids) xs
      → Lowers m0 m1 now names (λ t. ExprsMean fs t names (exprs_at b ids) xs)
  exprs_done m0 m1 names now ids k xs le h =
      let whole : SoFar next_expr EachExpr m0 m1 names now ids xs =
      subst (λ l. SoFar next_expr EachExpr m0 m1 names now l xs) (take_all k ids le) h in
      record {
        grown = whole.grown;
        bound_is = whole.bound_is ∙ all_next_expr names ids;
        answer = exprs_mean m1 names ids xs whole.answer;
      }

pub expr_shallow : (b : NodeTable) (ids : List ExprId) (k : ℕ) (d : ExprId) → k < length ids
    → expr_depth (expr_at b (get_or ids k d).0) ≤ exprs_depth (exprs_at b ids)
expr_shallow b [] k d lt = absurd (omega arith)
expr_shallow b (id ∷ ids) zero d lt = omega arith
expr_shallow b (id ∷ ids) (suc k) d lt = let h = expr_shallow b ids k d (omega arith) in omega arith
