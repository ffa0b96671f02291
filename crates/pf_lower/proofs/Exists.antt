-- What is formed and breaks no static rule becomes something.
use Rattle.std.proofs.Common.{◌≡◌, ℕ, zero, suc, Bool, true, false, List, [], ◌∷◌, ◌++◌, Option, Some, None, flat_map}
use Rattle.std.proofs.Common.{All, refl, ap, arith, IsTrue}
use Rattle.std.specs.Prelude.{slice_get, ◌==◌, ◌||◌, not, nat_eq, is_some, if◌then◌else◌}
use Rattle.std.proofs.lemmas.Bool.Decides.{nat_tests}
use Rattle.std.proofs.lemmas.List.Elements.{All-head, All-tail}
use Rattle.pf_errors.specs.declared.refusal.SourceRefusal.{SourceRefusal}
use Rattle.pf_errors.specs.declared.code.Code.TheVariants.{Unbound, Undefined, Unsafe}
use Rattle.pf_terms.specs.Value.{int, atom as atom_value}
use Rattle.pf_syntax.specs.Pattern.{Pattern, Patterns, any, new, slot, known, tuple_of, no_patterns, pattern}
use Rattle.pf_syntax.specs.ExprPattern as s
use Rattle.pf_syntax.specs.ExprPattern.{ExprPattern, ExprPatterns, no_expr_patterns, expr_pattern}
use Rattle.pf_syntax.specs.Expr as p
use Rattle.pf_syntax.specs.Expr.{Expr, Exprs, Condition, Branches, no_exprs, expr, no_tests, tests, no_branches, branch}
use Rattle.pf_syntax.specs.Tree as t
use Rattle.pf_syntax.specs.Tree.{Tree, Trees, Clauses, Guard, lit, var, no_trees, tree, no_clauses, clause}
use Rattle.pf_syntax.specs.Tree.{no_alternatives, alternative, Function, FunctionClause, Program}
use Rattle.pf_syntax.specs.declared.operator.Builtin.{Builtin}
use Rattle.pf_syntax.specs.SyntaxTree.{Export, Head}
use Rattle.pf_syntax.specs.Scope.{Scope, no_scope, has, is_unsafe, is_new, after_expr_pattern, after_expr_patterns}
use Rattle.pf_syntax.specs.Scope.{after, after_all}
use Rattle.pf_syntax.specs.Naming as w
use Rattle.pf_syntax.specs.Naming.{Names, ExprPatternIs, ExprPatternsAre, ExprIs, ExprsAre, ElementIs, BodyIs, GuardIs}
use Rattle.pf_syntax.specs.Naming.{BranchesAre, HeadIs, IsSlotOf, arity_of, with_pattern, ending, conses, conses_of}
use Rattle.pf_syntax.specs.Naming.{empty_list, string}
use Rattle.pf_rules.specs.Static.{fault_if, parameters_of, is_defined, expr_pattern_faults, expr_patterns_faults}
use Rattle.pf_rules.specs.Static.{expr_faults, exprs_faults, condition_faults, branches_faults, head_faults}
use Rattle.pf_rules.specs.Checks.{Pairwise, FunctionIs, is_exported}
use Rattle.pf_rules.specs.Formed.{ExprFormed, ExprsFormed, ConditionFormed, BranchesFormed, HasFirst, HeadFormed}
use Rattle.pf_rules.specs.Formed.{FunctionFormed, AreFormed}

-- two lists are empty where they are so together
pub left_empty : {X : Type 0} → (xs ys : List X) → xs ++ ys ≡ [] → xs ≡ []
left_empty [] ys h = refl
left_empty (x ∷ xs) ys h = cc

pub right_empty : {X : Type 0} → (xs ys : List X) → xs ++ ys ≡ [] → ys ≡ []
right_empty [] ys h = h
right_empty (x ∷ xs) ys h = cc

pub all_three_empty : {X : Type 0} → (xs ys zs : List X) → xs ++ ys ++ zs ≡ [] → (xs ≡ []) × (ys ≡ []) × (zs ≡ [])
all_three_empty xs ys zs h =
    let front = left_empty (xs ++ ys) zs h in
    (left_empty xs ys front, right_empty xs ys front, right_empty (xs ++ ys) zs h)

-- ---- variables

no_or : (b c : Bool) → b ≡ false → b || c ≡ true → c ≡ true
no_or true c e h = cc
no_or false c e h = h

same_name : (x y : ℕ) → nat_eq y x ≡ true → y ≡ x
same_name x y e = grind (arith, nat_tests)

-- a name that is among others has a slot
slot_of : (x : ℕ) (names : List ℕ) → has names x ≡ true → (k : ℕ) × (slice_get names k ≡ Some x)
slot_of x [] h = cc
slot_of x (y ∷ names) h = by_first (y == x) refl (slot_of x names)
  where
    by_first : (b : Bool) → y == x ≡ b → (has names x ≡ true → (k : ℕ) × (slice_get names k ≡ Some x))
        → (k : ℕ) × (slice_get (y ∷ names) k ≡ Some x)
    by_first true e further = (zero, ap Some (same_name x y e))
    by_first false e further = let i = further (no_or (y == x) (has names x) e h) in (suc i.0, i.1)

-- what two tests leave open
pub new_by_tests : (at : ℕ) (u b : Bool) → fault_if u Unsafe at ≡ [] → b ≡ false → IsTrue (not (b || u))
new_by_tests at true b h e = cc
new_by_tests at false true h e = cc
new_by_tests at false false h e = refl

pub bound_by_tests : (at : ℕ) (u b : Bool) → fault_if u Unsafe at ++ fault_if (not (b || u)) Unbound at ≡ [] → b ≡ true
bound_by_tests at true b h = cc
bound_by_tests at false true h = refl
bound_by_tests at false false h = cc

module _ (n : Names) where
  -- ---- patterns

  variable_expr_pattern : (g : Scope) (x at : ℕ) → fault_if (is_unsafe g x) Unsafe at ≡ []
      → (y : Pattern) × ExprPatternIs n g (s.variable x at) y
  variable_expr_pattern g x at h = by_bound (has g.bound x) refl
    where
      by_bound : (b : Bool) → has g.bound x ≡ b → (y : Pattern) × ExprPatternIs n g (s.variable x at) y
      by_bound true e = let k = slot_of x g.bound e in (slot k.0, w.bound g x at k.0 k.1)
      by_bound false e = (new, w.fresh g x at (new_by_tests at (is_unsafe g x) (has g.bound x) h e))

  mutual
    pub some_expr_pattern : (g : Scope) (q : ExprPattern) → expr_pattern_faults g q ≡ []
        → (y : Pattern) × ExprPatternIs n g q y
    some_expr_pattern g (s.integer z) h = (known (int z), w.integer g z)
    some_expr_pattern g (s.atom a) h = (known (atom_value (n.atom_of a)), w.atom g a)
    some_expr_pattern g (s.text cs) h = (known (string cs), w.text g cs)
    some_expr_pattern g s.anything h = (any, w.anything g)
    some_expr_pattern g (s.variable x at) h = variable_expr_pattern g x at h
    some_expr_pattern g (s.tuple qs) h = let i = some_expr_patterns g qs h in (tuple_of i.0, w.tuple g qs i.0 i.1)
    some_expr_pattern g (s.list qs) h = let i = some_expr_patterns g qs h in
        (conses_of i.0 (known empty_list), w.list g qs i.0 i.1)
    some_expr_pattern g (s.list_on qs q) h =
        let i = some_expr_patterns g qs (left_empty (expr_patterns_faults g qs) _ h) in
        let j = some_expr_pattern (after_expr_patterns g qs) q (right_empty (expr_patterns_faults g qs) _ h) in
        (conses_of i.0 j.0, w.list_on g qs q i.0 j.0 i.1 j.1)

    some_expr_patterns : (g : Scope) (qs : ExprPatterns) → expr_patterns_faults g qs ≡ []
        → (ys : Patterns) × ExprPatternsAre n g qs ys
    some_expr_patterns g no_expr_patterns h = (no_patterns, w.no_more_expr_patterns g)
    some_expr_patterns g (expr_pattern q qs) h =
        let i = some_expr_pattern g q (left_empty (expr_pattern_faults g q) _ h) in
        let j = some_expr_patterns (after_expr_pattern g q) qs (right_empty (expr_pattern_faults g q) _ h) in
        (pattern i.0 j.0, w.and_expr_patterns g q qs i.0 j.0 i.1 j.1)

  -- ---- expressions and elements of bodies

  -- what an expression is, or where the flag says so an element of a body
  abbrev SomeExpr : Bool → Scope → Expr → Type 0
  SomeExpr false g e = (x : Tree) × ExprIs n g e x
  SomeExpr true g e = (ys : Patterns) × (x : Tree) × ElementIs n g e ys x

  standing : (m : Bool) (g : Scope) (e : Expr) (x : Tree) → ExprIs n g e x → SomeExpr m g e
  standing false g e x h = (x, h)
  standing true g e x h = (no_patterns, x, w.plain g e x h)

  variable_expr : (g : Scope) (x at : ℕ) → fault_if (is_unsafe g x) Unsafe at ++ fault_if (is_new g x) Unbound at ≡ []
      → (k : ℕ) × ExprIs n g (p.variable x at) (var k)
  variable_expr g x at h = let k = slot_of x g.bound (bound_by_tests at (is_unsafe g x) (has g.bound x) h) in
      (k.0, w.variable g x at k.0 k.1)

  no_fault_there : (at : ℕ) → fault_if true Unbound at ≡ [] → ⊥
  no_fault_there at h = cc

  callee_by : (g : Scope) (f at : ℕ) (es : Exprs) (xs : Trees) (o : Option ℕ) (b : Option Builtin)
      → n.own_of f (arity_of es) ≡ o → n.builtin_of f (arity_of es) ≡ b
      → (if is_some o || is_some b then [] else fault_if true Undefined at) ≡ [] → ExprsAre n g es xs
      → (x : Tree) × ExprIs n g (p.call f at es) x
  callee_by g f at es xs (Some i) b e1 e2 h k = (t.call i xs, w.own g f at i es xs e1 k)
  callee_by g f at es xs None (Some b) e1 e2 h k = (t.builtin b xs, w.builtin g f at b es xs e2 k)
  callee_by g f at es xs None None e1 e2 h k = cc

  matched : (m : Bool) (g : Scope) (q : ExprPattern) (a : Expr) → IsTrue m → SomeExpr true g a
      → (y : Pattern) × ExprPatternIs n (after g a) q y → SomeExpr m g (p.match q a)
  matched true g q a m i j = (with_pattern i.0 j.0, i.1, w.match g q a i.0 j.0 i.1 i.2 j.1)
  matched false g q a m i j = cc

  mutual
    some_expr : (m : Bool) (g : Scope) (e : Expr) → ExprFormed m e → expr_faults n g e ≡ [] → SomeExpr m g e
    some_expr m g (p.integer z) f h = standing m g _ _ (w.integer g z)
    some_expr m g (p.atom a) f h = standing m g _ _ (w.atom g a)
    some_expr m g (p.text cs) f h = standing m g _ _ (w.text g cs)
    some_expr m g (p.variable x at) f h = standing m g _ _ (variable_expr g x at h).1
    some_expr m g (p.anonymous at) f h = absurd (no_fault_there at h)
    some_expr m g (p.parentheses a) f h = let i = some_expr false g a f h in
        standing m g _ _ (w.parentheses g a i.0 i.1)
    some_expr m g (p.tuple es) f h = let i = some_exprs g es f h in standing m g _ _ (w.tuple g es i.0 i.1)
    some_expr m g (p.list es) f h = let i = some_exprs g es f h in standing m g _ _ (w.list g es i.0 i.1)
    some_expr m g (p.list_on es e) f h =
        let i = some_exprs g es f.0 (left_empty (exprs_faults n g es) _ h) in
        let j = some_expr false (after_all g es) e f.1 (right_empty (exprs_faults n g es) _ h) in
        standing m g _ _ (w.list_on g es e i.0 j.0 i.1 j.1)
    some_expr m g (p.call a at es) f h =
        let undefined : List SourceRefusal = if is_defined n a (arity_of es) then [] else fault_if true Undefined at in
        let i = some_exprs g es f (right_empty undefined (exprs_faults n g es) h) in
        let j = callee_by g a at es i.0 (n.own_of a (arity_of es)) (n.builtin_of a (arity_of es)) refl refl
        (left_empty undefined (exprs_faults n g es) h) i.1 in
        standing m g _ _ j.1
    some_expr m g (p.binary o a b) f h =
        let i = some_expr false g a f.0 (left_empty (expr_faults n g a) _ h) in
        let j = some_expr false (after g a) b f.1 (right_empty (expr_faults n g a) _ h) in
        standing m g _ _ (w.binary g o a b i.0 j.0 i.1 j.1)
    some_expr m g (p.negate a) f h = let i = some_expr false g a f h in standing m g _ _ (w.negate g a i.0 i.1)
    some_expr m g (p.and_also a b) f h =
        let i = some_expr false g a f.0 (left_empty (expr_faults n g a) _ h) in
        let j = some_expr false (after g a) b f.1 (right_empty (expr_faults n g a) _ h) in
        standing m g _ _ (w.and_also g a b i.0 j.0 i.1 j.1)
    some_expr m g (p.or_else a b) f h =
        let i = some_expr false g a f.0 (left_empty (expr_faults n g a) _ h) in
        let j = some_expr false (after g a) b f.1 (right_empty (expr_faults n g a) _ h) in
        standing m g _ _ (w.or_else g a b i.0 j.0 i.1 j.1)
    some_expr m g (p.send a b) f h =
        let i = some_expr false g a f.0 (left_empty (expr_faults n g a) _ h) in
        let j = some_expr false (after g a) b f.1 (right_empty (expr_faults n g a) _ h) in
        standing m g _ _ (w.send g a b i.0 j.0 i.1 j.1)
    some_expr m g (p.match q a) f h =
        matched m g q a f.0 (some_expr true g a f.2 (left_empty (expr_faults n g a) _ h))
        (some_expr_pattern (after g a) q (right_empty (expr_faults n g a) _ h))
    some_expr m g (p.case a bs) f h =
        let i = some_expr false g a f.0 (left_empty (expr_faults n g a) _ h) in
        let j = some_branches (after g a) bs f.1 (right_empty (expr_faults n g a) _ h) in
        standing m g _ _ (w.case g a bs i.0 j.0 i.1 j.1)
    some_expr m g (p.if_expression bs) f h = let i = some_branches g bs f h in
        standing m g _ _ (w.if_expression g bs i.0 i.1)
    some_expr m g (p.receive bs) f h = let i = some_branches g bs f h in standing m g _ _ (w.receive g bs i.0 i.1)

    some_exprs : (g : Scope) (es : Exprs) → ExprsFormed false es → exprs_faults n g es ≡ []
        → (xs : Trees) × ExprsAre n g es xs
    some_exprs g no_exprs f h = (no_trees, w.no_more g)
    some_exprs g (expr e es) f h =
        let i = some_expr false g e f.0 (left_empty (expr_faults n g e) _ h) in
        let j = some_exprs (after g e) es f.1 (right_empty (expr_faults n g e) _ h) in
        (tree i.0 j.0, w.and_more g e es i.0 j.0 i.1 j.1)

    some_body : (g : Scope) (es : Exprs) → HasFirst es → ExprsFormed true es → exprs_faults n g es ≡ []
        → (x : Tree) × BodyIs n g es x
    some_body g no_exprs first f h = absurd first
    some_body g (expr e no_exprs) first f h =
        let i = some_expr true g e f.0 (left_empty (expr_faults n g e) _ h) in (ending i.0 i.1, w.last g e i.0 i.1 i.2)
    some_body g (expr e (expr d es)) first f h =
        let i = some_expr true g e f.0 (left_empty (expr_faults n g e) _ h) in
        let j = some_body (after g e) (expr d es) tt f.1 (right_empty (expr_faults n g e) _ h) in
        (t.bind i.0 i.1 j.0, w.before g e (expr d es) i.0 i.1 j.0 i.2 j.1)

    some_guard : (g : Scope) (c : Condition) → ConditionFormed c → condition_faults n g c ≡ []
        → (d : Guard) × GuardIs n g c d
    some_guard g no_tests f h = (no_alternatives, w.no_more_tests g)
    some_guard g (tests es c) f h =
        let i = some_exprs g es f.0 (left_empty (exprs_faults n g es) _ h) in
        let j = some_guard g c f.1 (right_empty (exprs_faults n g es) _ h) in
        (alternative i.0 j.0, w.or_tests g es c i.0 j.0 i.1 j.1)

    some_branches : (g : Scope) (bs : Branches) → BranchesFormed bs → branches_faults n g bs ≡ []
        → (cs : Clauses) × BranchesAre n g bs cs
    some_branches g no_branches f h = (no_clauses, w.no_more_branches g)
    some_branches g (branch q c es bs) f h =
        let seen = after_expr_pattern g q in
        let here = expr_pattern_faults g q ++ condition_faults n seen c ++ exprs_faults n seen es in
        let parts = all_three_empty (expr_pattern_faults g q) (condition_faults n seen c) (exprs_faults n seen es)
        (left_empty here (branches_faults n g bs) h) in
        let y = some_expr_pattern g q parts.0 in
        let d = some_guard seen c f.2 parts.1 in
        let x = some_body seen es f.3 f.4 parts.2 in
        let cs = some_branches g bs f.5 (right_empty here (branches_faults n g bs) h) in
        (clause y.0 d.0 x.0 cs.0, w.and_branches g q c es bs y.0 d.0 x.0 cs.0 y.1 d.1 x.1 cs.1)

  -- ---- functions

  some_head : (h : Head) → HeadFormed h → head_faults n h ≡ [] → (c : FunctionClause) × HeadIs n h c
  some_head h f none =
      let seen = after_expr_patterns no_scope h.parameters in
      let parts = all_three_empty (expr_patterns_faults no_scope h.parameters) (condition_faults n seen h.condition)
      (exprs_faults n seen h.body) none in
      let ys = some_expr_patterns no_scope h.parameters parts.0 in
      let d = some_guard seen h.condition f.2 parts.1 in
      let x = some_body seen h.body f.3 f.4 parts.2 in
      (record { parameters = ys.0; guard = d.0; body = x.0 }, record { parameters = ys.1; guard = d.1; body = x.1 })

  some_heads : (hs : List Head) → All HeadFormed hs → flat_map (head_faults n) hs ≡ []
      → (cs : List FunctionClause) × Pairwise (HeadIs n) hs cs
  some_heads [] f none = ([], tt)
  some_heads (h ∷ hs) f none =
      let c = some_head h (All-head HeadFormed h hs f) (left_empty (head_faults n h) _ none) in
      let cs = some_heads hs (All-tail HeadFormed h hs f) (right_empty (head_faults n h) _ none) in
      (c.0 ∷ cs.0, (c.1, cs.1))

  some_function : (exports : List Export) (hs : List Head) → FunctionFormed hs → flat_map (head_faults n) hs ≡ []
      → (f : Function) × FunctionIs n exports hs f
  some_function exports [] f none = absurd f
  some_function exports (h ∷ hs) f none =
      let cs = some_heads (h ∷ hs) f none in
      let arity = parameters_of h.parameters in (
        record { name = h.name; arity = arity; exported = is_exported exports h.name arity; clauses = cs.0 },
        (refl, refl, refl, cs.1),
      )

  pub some_functions : (exports : List Export) (fs : List (List Head)) → AreFormed fs
      → flat_map (flat_map (head_faults n)) fs ≡ []
      → (made : Program) × Pairwise (FunctionIs n exports) fs made
  some_functions exports [] f none = ([], tt)
  some_functions exports (hs ∷ fs) f none =
      let one = some_function exports hs (All-head FunctionFormed hs fs f)
      (left_empty (flat_map (head_faults n) hs) _ none) in
      let others = some_functions exports fs (All-tail FunctionFormed hs fs f)
      (right_empty (flat_map (head_faults n) hs) _ none) in
      (one.0 ∷ others.0, (one.1, others.1))
