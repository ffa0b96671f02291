-- What a clause of a function becomes is one thing.
use Rattle.std.proofs.Common.{◌≡◌, ℕ, List, Some, refl, sym, ap, ap₂, ◌∙◌, ℤ, IsTrue}
use Rattle.pf_terms.specs.Value.{int, atom as atom_value}
use Rattle.pf_syntax.specs.Pattern.{Pattern, Patterns, any, new, slot, known, tuple_of, no_patterns, pattern}
use Rattle.pf_syntax.specs.ExprPattern as s
use Rattle.pf_syntax.specs.ExprPattern.{ExprPattern, ExprPatterns, no_expr_patterns, expr_pattern}
use Rattle.pf_syntax.specs.Expr as p
use Rattle.pf_syntax.specs.Expr.{Expr, Exprs, Condition, Branches, no_exprs, expr, no_tests, tests, no_branches, branch}
use Rattle.pf_syntax.specs.Tree as t
use Rattle.pf_syntax.specs.Tree.{Tree, Trees, Clauses, Guard, lit, var, no_trees, tree, no_clauses, clause}
use Rattle.pf_syntax.specs.Tree.{no_alternatives, alternative, FunctionClause}
use Rattle.pf_syntax.specs.declared.operator.Builtin.{Builtin}
use Rattle.pf_syntax.specs.declared.operator.Operator.{Operator}
use Rattle.pf_syntax.specs.SyntaxTree.{Head}
use Rattle.pf_syntax.specs.Scope.{Scope, no_scope, is_new, after_expr_pattern, after_expr_patterns, after, after_all}
use Rattle.pf_syntax.specs.Naming as w
use Rattle.pf_syntax.specs.Naming.{Names, ExprPatternIs, ExprPatternsAre, ExprIs, ExprsAre, ElementIs, BodyIs, GuardIs}
use Rattle.pf_syntax.specs.Naming.{BranchesAre, HeadIs, IsSlotOf, arity_of, with_pattern, ending, conses, conses_of}
use Rattle.pf_syntax.specs.Naming.{empty_list, string}
use Rattle.pf_check.proofs.Once.{SeenOnce, one_offset, none_seen, new_has_no_offset, once_expr_pattern}
use Rattle.pf_check.proofs.Once.{once_expr_patterns, once_expr, once_exprs}

module _ (n : Names) where
  -- ---- what a pattern can be

  integer_expr_pattern : (g : Scope) (z : ℤ) (y : Pattern) → ExprPatternIs n g (s.integer z) y → y ≡ known (int z)
  integer_expr_pattern _ _ _ (w.integer _ _) = refl

  atom_expr_pattern : (g : Scope) (a : ℕ) (y : Pattern) → ExprPatternIs n g (s.atom a) y
      → y ≡ known (atom_value (n.atom_of a))
  atom_expr_pattern _ _ _ (w.atom _ _) = refl

  text_expr_pattern : (g : Scope) (cs : List ℕ) (y : Pattern) → ExprPatternIs n g (s.text cs) y → y ≡ known (string cs)
  text_expr_pattern _ _ _ (w.text _ _) = refl

  anything_expr_pattern : (g : Scope) (y : Pattern) → ExprPatternIs n g s.anything y → y ≡ any
  anything_expr_pattern _ _ (w.anything _) = refl

  bound_expr_pattern : (g : Scope) (x at k : ℕ) (y : Pattern) → SeenOnce g → IsSlotOf g x k
      → ExprPatternIs n g (s.variable x at) y → slot k ≡ y
  bound_expr_pattern g x at k _ once e (w.bound _ _ _ j f) = ap slot (one_offset g once x k j e f)
  bound_expr_pattern g x at k _ once e (w.fresh _ _ _ h) = absurd (new_has_no_offset g x k h e)

  fresh_expr_pattern : (g : Scope) (x at : ℕ) (y : Pattern) → IsTrue (is_new g x)
      → ExprPatternIs n g (s.variable x at) y → new ≡ y
  fresh_expr_pattern g x at _ h (w.bound _ _ _ j f) = absurd (new_has_no_offset g x j h f)
  fresh_expr_pattern g x at _ h (w.fresh _ _ _ _) = refl

  tuple_expr_pattern : (g : Scope) (qs : ExprPatterns) (y : Pattern) → ExprPatternIs n g (s.tuple qs) y
      → (ys : Patterns) × ExprPatternsAre n g qs ys × (tuple_of ys ≡ y)
  tuple_expr_pattern _ _ _ (w.tuple _ _ ys h) = (ys, h, refl)

  list_expr_pattern : (g : Scope) (qs : ExprPatterns) (y : Pattern) → ExprPatternIs n g (s.list qs) y
      → (ys : Patterns) × ExprPatternsAre n g qs ys × (conses_of ys (known empty_list) ≡ y)
  list_expr_pattern _ _ _ (w.list _ _ ys h) = (ys, h, refl)

  list_on_expr_pattern : (g : Scope) (qs : ExprPatterns) (q : ExprPattern) (z : Pattern)
      → ExprPatternIs n g (s.list_on qs q) z
      → (ys : Patterns) × (y : Pattern) × ExprPatternsAre n g qs ys × ExprPatternIs n (after_expr_patterns g qs) q y
      × (conses_of ys y ≡ z)
  list_on_expr_pattern _ _ _ _ (w.list_on _ _ _ ys y h k) = (ys, y, h, k, refl)

  no_more_expr_patterns : (g : Scope) (ys : Patterns) → ExprPatternsAre n g no_expr_patterns ys → no_patterns ≡ ys
  no_more_expr_patterns _ _ (w.no_more_expr_patterns _) = refl

  and_expr_patterns : (g : Scope) (q : ExprPattern) (qs : ExprPatterns) (zs : Patterns)
      → ExprPatternsAre n g (expr_pattern q qs) zs
      → (y : Pattern) × (ys : Patterns) × ExprPatternIs n g q y × ExprPatternsAre n (after_expr_pattern g q) qs ys
      × (pattern y ys ≡ zs)
  and_expr_patterns _ _ _ _ (w.and_expr_patterns _ _ _ y ys h k) = (y, ys, h, k, refl)

  mutual
    pub one_expr_pattern : (g : Scope) (q : ExprPattern) (y z : Pattern) → SeenOnce g → ExprPatternIs n g q y
        → ExprPatternIs n g q z → y ≡ z
    one_expr_pattern _ _ _ z once (w.integer g x) b = sym (integer_expr_pattern g x z b)
    one_expr_pattern _ _ _ z once (w.atom g a) b = sym (atom_expr_pattern g a z b)
    one_expr_pattern _ _ _ z once (w.text g cs) b = sym (text_expr_pattern g cs z b)
    one_expr_pattern _ _ _ z once (w.anything g) b = sym (anything_expr_pattern g z b)
    one_expr_pattern _ _ _ z once (w.bound g x at k e) b = bound_expr_pattern g x at k z once e b
    one_expr_pattern _ _ _ z once (w.fresh g x at h) b = fresh_expr_pattern g x at z h b
    one_expr_pattern _ _ _ z once (w.tuple g qs ys h) b = let i = tuple_expr_pattern g qs z b in
        ap tuple_of (one_expr_patterns g qs ys i.0 once h i.1) ∙ i.2
    one_expr_pattern _ _ _ z once (w.list g qs ys h) b =
        let i = list_expr_pattern g qs z b in
        ap (λ xs. conses_of xs (known empty_list)) (one_expr_patterns g qs ys i.0 once h i.1) ∙ i.2
    one_expr_pattern _ _ _ z once (w.list_on g qs q ys y h k) b =
        let i = list_on_expr_pattern g qs q z b in
        ap₂ conses_of (one_expr_patterns g qs ys i.0 once h i.2)
        (one_expr_pattern (after_expr_patterns g qs) q y i.1 (once_expr_patterns g qs once) k i.3) ∙ i.4

    pub one_expr_patterns : (g : Scope) (qs : ExprPatterns) (ys zs : Patterns) → SeenOnce g → ExprPatternsAre n g qs ys
        → ExprPatternsAre n g qs zs → ys ≡ zs
    one_expr_patterns _ _ _ zs once (w.no_more_expr_patterns g) b = no_more_expr_patterns g zs b
    one_expr_patterns _ _ _ zs once (w.and_expr_patterns g q qs y ys h k) b =
        let i = and_expr_patterns g q qs zs b in
        ap₂ pattern (one_expr_pattern g q y i.0 once h i.2)
        (one_expr_patterns (after_expr_pattern g q) qs ys i.1 (once_expr_pattern g q once) k i.3) ∙ i.4

  -- ---- what an expression can be

  integer_expr : (g : Scope) (z : ℤ) (x : Tree) → ExprIs n g (p.integer z) x → lit (int z) ≡ x
  integer_expr _ _ _ (w.integer _ _) = refl

  atom_expr : (g : Scope) (a : ℕ) (x : Tree) → ExprIs n g (p.atom a) x → lit (atom_value (n.atom_of a)) ≡ x
  atom_expr _ _ _ (w.atom _ _) = refl

  text_expr : (g : Scope) (cs : List ℕ) (x : Tree) → ExprIs n g (p.text cs) x → lit (string cs) ≡ x
  text_expr _ _ _ (w.text _ _) = refl

  variable_expr : (g : Scope) (x at k : ℕ) (y : Tree) → SeenOnce g → IsSlotOf g x k
      → ExprIs n g (p.variable x at) y → var k ≡ y
  variable_expr g x at k _ once e (w.variable _ _ _ j f) = ap var (one_offset g once x k j e f)

  parentheses_expr : (g : Scope) (a : Expr) (x : Tree) → ExprIs n g (p.parentheses a) x → ExprIs n g a x
  parentheses_expr _ _ _ (w.parentheses _ _ _ h) = h

  tuple_expr : (g : Scope) (es : Exprs) (z : Tree) → ExprIs n g (p.tuple es) z
      → (xs : Trees) × ExprsAre n g es xs × (t.tuple xs ≡ z)
  tuple_expr _ _ _ (w.tuple _ _ xs h) = (xs, h, refl)

  list_expr : (g : Scope) (es : Exprs) (z : Tree) → ExprIs n g (p.list es) z
      → (xs : Trees) × ExprsAre n g es xs × (conses xs (lit empty_list) ≡ z)
  list_expr _ _ _ (w.list _ _ xs h) = (xs, h, refl)

  list_on_expr : (g : Scope) (es : Exprs) (e : Expr) (z : Tree) → ExprIs n g (p.list_on es e) z
      → (xs : Trees) × (x : Tree) × ExprsAre n g es xs × ExprIs n (after_all g es) e x × (conses xs x ≡ z)
  list_on_expr _ _ _ _ (w.list_on _ _ _ xs x h k) = (xs, x, h, k, refl)

  one_some : {A : Type 0} (a b : A) → Some a ≡ Some b → a ≡ b
  one_some a b e = cc

  -- no function is both an own one and a built-in one
  abbrev pub Apart : Type 0
  Apart = (f k i : ℕ) (b : Builtin) → n.own_of f k ≡ Some i → n.builtin_of f k ≡ Some b → ⊥

  own_expr : Apart → (g : Scope) (f at i : ℕ) (es : Exprs) (z : Tree) → n.own_of f (arity_of es) ≡ Some i
      → ExprIs n g (p.call f at es) z → (xs : Trees) × ExprsAre n g es xs × (t.call i xs ≡ z)
  own_expr apart g f at i es _ e (w.own _ _ _ j _ xs d h) = (xs, h, ap (λ k. t.call k xs) (one_some i j (sym e ∙ d)))
  own_expr apart g f at i es _ e (w.builtin _ _ _ b _ xs d h) = absurd (apart f (arity_of es) i b e d)

  builtin_expr : Apart → (g : Scope) (f at : ℕ) (b : Builtin) (es : Exprs) (z : Tree)
      → n.builtin_of f (arity_of es) ≡ Some b
      → ExprIs n g (p.call f at es) z → (xs : Trees) × ExprsAre n g es xs × (t.builtin b xs ≡ z)
  builtin_expr apart g f at b es _ e (w.own _ _ _ i _ xs d h) = absurd (apart f (arity_of es) i b d e)
  builtin_expr apart g f at b es _ e (w.builtin _ _ _ c _ xs d h) =
      (xs, h, ap (λ k. t.builtin k xs) (one_some b c (sym e ∙ d)))

  binary_expr : (g : Scope) (o : Operator) (a b : Expr) (z : Tree) → ExprIs n g (p.binary o a b) z
      → (x y : Tree) × ExprIs n g a x × ExprIs n (after g a) b y × (t.op o x y ≡ z)
  binary_expr _ _ _ _ _ (w.binary _ _ _ _ x y h k) = (x, y, h, k, refl)

  negate_expr : (g : Scope) (a : Expr) (z : Tree) → ExprIs n g (p.negate a) z
      → (x : Tree) × ExprIs n g a x × (t.neg x ≡ z)
  negate_expr _ _ _ (w.negate _ _ x h) = (x, h, refl)

  both_expr : (g : Scope) (a b : Expr) (z : Tree) → ExprIs n g (p.and_also a b) z
      → (x y : Tree) × ExprIs n g a x × ExprIs n (after g a) b y × (t.and_also x y ≡ z)
  both_expr _ _ _ _ (w.and_also _ _ _ x y h k) = (x, y, h, k, refl)

  either_expr : (g : Scope) (a b : Expr) (z : Tree) → ExprIs n g (p.or_else a b) z
      → (x y : Tree) × ExprIs n g a x × ExprIs n (after g a) b y × (t.or_else x y ≡ z)
  either_expr _ _ _ _ (w.or_else _ _ _ x y h k) = (x, y, h, k, refl)

  send_expr : (g : Scope) (a b : Expr) (z : Tree) → ExprIs n g (p.send a b) z
      → (x y : Tree) × ExprIs n g a x × ExprIs n (after g a) b y × (t.send x y ≡ z)
  send_expr _ _ _ _ (w.send _ _ _ x y h k) = (x, y, h, k, refl)

  case_expr : (g : Scope) (a : Expr) (bs : Branches) (z : Tree) → ExprIs n g (p.case a bs) z
      → (x : Tree) × (cs : Clauses) × ExprIs n g a x × BranchesAre n (after g a) bs cs × (t.case x cs ≡ z)
  case_expr _ _ _ _ (w.case _ _ _ x cs h k) = (x, cs, h, k, refl)

  decide_expr : (g : Scope) (bs : Branches) (z : Tree) → ExprIs n g (p.if_expression bs) z
      → (cs : Clauses) × BranchesAre n g bs cs × (t.if_expression cs ≡ z)
  decide_expr _ _ _ (w.if_expression _ _ cs h) = (cs, h, refl)

  receive_expr : (g : Scope) (bs : Branches) (z : Tree) → ExprIs n g (p.receive bs) z
      → (cs : Clauses) × BranchesAre n g bs cs × (t.receive cs ≡ z)
  receive_expr _ _ _ (w.receive _ _ cs h) = (cs, h, refl)

  no_match_expr : (g : Scope) (q : ExprPattern) (e : Expr) (x : Tree) → ExprIs n g (p.match q e) x → ⊥
  no_match_expr _ _ _ _ h = elim h [ ]

  no_more_exprs : (g : Scope) (xs : Trees) → ExprsAre n g no_exprs xs → no_trees ≡ xs
  no_more_exprs _ _ (w.no_more _) = refl

  and_exprs : (g : Scope) (e : Expr) (es : Exprs) (zs : Trees) → ExprsAre n g (expr e es) zs
      → (x : Tree) × (xs : Trees) × ExprIs n g e x × ExprsAre n (after g e) es xs × (tree x xs ≡ zs)
  and_exprs _ _ _ _ (w.and_more _ _ _ x xs h k) = (x, xs, h, k, refl)

  -- ---- what a body can be

  -- an element that was read as a plain expression
  plain_element : (g : Scope) (e : Expr) (x : Tree) → ExprIs n g e x → (ys : Patterns) (z : Tree) → ElementIs n g e ys z
      → ExprIs n g e z × (no_patterns ≡ ys)
  plain_element g e x a _ _ (w.plain _ _ _ h) = (h, refl)
  plain_element g _ x a _ _ (w.match _ q e _ _ _ _ _) = absurd (no_match_expr g q e x a)

  match_element : (g : Scope) (q : ExprPattern) (e : Expr) (zs : Patterns) (x : Tree) → ElementIs n g (p.match q e) zs x
      → (ys : Patterns) × (y : Pattern) × ElementIs n g e ys x × ExprPatternIs n (after g e) q y
      × (with_pattern ys y ≡ zs)
  match_element g q e _ x (w.plain _ _ _ h) = absurd (no_match_expr g q e x h)
  match_element _ _ _ _ _ (w.match _ _ _ ys y _ h k) = (ys, y, h, k, refl)

  no_empty_body : (g : Scope) (x : Tree) → BodyIs n g no_exprs x → ⊥
  no_empty_body _ _ h = elim h [ ]

  last_body : (g : Scope) (e : Expr) (z : Tree) → BodyIs n g (expr e no_exprs) z
      → (ys : Patterns) × (x : Tree) × ElementIs n g e ys x × (ending ys x ≡ z)
  last_body _ _ _ (w.last _ _ ys x h) = (ys, x, h, refl)
  last_body g e _ (w.before _ _ _ _ _ rest _ k) = absurd (no_empty_body (after g e) rest k)

  before_body : (g : Scope) (e : Expr) (es : Exprs) (r : Tree) → BodyIs n (after g e) es r → (z : Tree)
      → BodyIs n g (expr e es) z
      → (ys : Patterns) × (x rest : Tree) × ElementIs n g e ys x × BodyIs n (after g e) es rest × (t.bind ys x rest ≡ z)
  before_body g e _ r a _ (w.last _ _ _ _ _) = absurd (no_empty_body (after g e) r a)
  before_body _ _ _ r a _ (w.before _ _ _ ys x rest h k) = (ys, x, rest, h, k, refl)

  no_more_tests : (g : Scope) (d : Guard) → GuardIs n g no_tests d → no_alternatives ≡ d
  no_more_tests _ _ (w.no_more_tests _) = refl

  or_tests : (g : Scope) (es : Exprs) (c : Condition) (z : Guard) → GuardIs n g (tests es c) z
      → (xs : Trees) × (d : Guard) × ExprsAre n g es xs × GuardIs n g c d × (alternative xs d ≡ z)
  or_tests _ _ _ _ (w.or_tests _ _ _ xs d h k) = (xs, d, h, k, refl)

  no_more_branches : (g : Scope) (cs : Clauses) → BranchesAre n g no_branches cs → no_clauses ≡ cs
  no_more_branches _ _ (w.no_more_branches _) = refl

  -- what the first of several clauses becomes, and what the others
  record Branched (g : Scope) (q : ExprPattern) (c : Condition) (es : Exprs) (bs : Branches)
      (z : Clauses) : Type 0 where
    pattern_of : Pattern
    guard : Guard
    body : Tree
    others : Clauses
    pattern_is : ExprPatternIs n g q pattern_of
    guard_is : GuardIs n (after_expr_pattern g q) c guard
    body_is : BodyIs n (after_expr_pattern g q) es body
    others_are : BranchesAre n g bs others
    whole : clause pattern_of guard body others ≡ z

  and_branches : (g : Scope) (q : ExprPattern) (c : Condition) (es : Exprs) (bs : Branches) (z : Clauses)
      → BranchesAre n g (branch q c es bs) z → Branched g q c es bs z
  and_branches _ _ _ _ _ _ (w.and_branches _ _ _ _ _ y d x cs h1 h2 h3 h4) =
      record {
        pattern_of = y;
        guard = d;
        body = x;
        others = cs;
        pattern_is = h1;
        guard_is = h2;
        body_is = h3;
        others_are = h4;
        whole = refl;
      }

  same_clause : (y y2 : Pattern) (d d2 : Guard) (x x2 : Tree) (cs cs2 : Clauses) → y ≡ y2 → d ≡ d2 → x ≡ x2 → cs ≡ cs2
      → clause y d x cs ≡ clause y2 d2 x2 cs2
  same_clause y y2 d d2 x x2 cs cs2 e1 e2 e3 e4 = cc

  same_bind : (ys zs : Patterns) (x y r r2 : Tree) → ys ≡ zs → x ≡ y → r ≡ r2 → t.bind ys x r ≡ t.bind zs y r2
  same_bind ys zs x y r r2 e1 e2 e3 = cc

  module _ (apart : Apart) where
    mutual
      pub one_expr : (g : Scope) (e : Expr) (x z : Tree) → SeenOnce g → ExprIs n g e x → ExprIs n g e z → x ≡ z
      one_expr _ _ _ z once (w.integer g k) b = integer_expr g k z b
      one_expr _ _ _ z once (w.atom g a) b = atom_expr g a z b
      one_expr _ _ _ z once (w.text g cs) b = text_expr g cs z b
      one_expr _ _ _ z once (w.variable g x at k e) b = variable_expr g x at k z once e b
      one_expr _ _ _ z once (w.parentheses g a x h) b = one_expr g a x z once h (parentheses_expr g a z b)
      one_expr _ _ _ z once (w.tuple g es xs h) b = let i = tuple_expr g es z b in
          ap t.tuple (one_exprs g es xs i.0 once h i.1) ∙ i.2
      one_expr _ _ _ z once (w.list g es xs h) b = let i = list_expr g es z b in
          ap (λ l. conses l (lit empty_list)) (one_exprs g es xs i.0 once h i.1) ∙ i.2
      one_expr _ _ _ z once (w.list_on g es e xs x h k) b =
          let i = list_on_expr g es e z b in
          ap₂ conses (one_exprs g es xs i.0 once h i.2) (one_expr (after_all g es) e x i.1 (once_exprs g es once) k i.3)
          ∙ i.4
      one_expr _ _ _ z once (w.own g f at k es xs e h) b = let i = own_expr apart g f at k es z e b in
          ap (t.call k) (one_exprs g es xs i.0 once h i.1) ∙ i.2
      one_expr _ _ _ z once (w.builtin g f at k es xs e h) b =
          let i = builtin_expr apart g f at k es z e b in ap (t.builtin k) (one_exprs g es xs i.0 once h i.1) ∙ i.2
      one_expr _ _ _ z once (w.binary g o a c x y h k) b =
          let i = binary_expr g o a c z b in ap₂ (t.op o) (one_expr g a x i.0 once h i.2)
          (one_expr (after g a) c y i.1 (once_expr g a once) k i.3) ∙ i.4
      one_expr _ _ _ z once (w.negate g a x h) b = let i = negate_expr g a z b in
          ap t.neg (one_expr g a x i.0 once h i.1) ∙ i.2
      one_expr _ _ _ z once (w.and_also g a c x y h k) b =
          let i = both_expr g a c z b in ap₂ t.and_also (one_expr g a x i.0 once h i.2)
          (one_expr (after g a) c y i.1 (once_expr g a once) k i.3) ∙ i.4
      one_expr _ _ _ z once (w.or_else g a c x y h k) b =
          let i = either_expr g a c z b in ap₂ t.or_else (one_expr g a x i.0 once h i.2)
          (one_expr (after g a) c y i.1 (once_expr g a once) k i.3) ∙ i.4
      one_expr _ _ _ z once (w.send g a c x y h k) b =
          let i = send_expr g a c z b in ap₂ t.send (one_expr g a x i.0 once h i.2)
          (one_expr (after g a) c y i.1 (once_expr g a once) k i.3) ∙ i.4
      one_expr _ _ _ z once (w.case g a bs x cs h k) b =
          let i = case_expr g a bs z b in ap₂ t.case (one_expr g a x i.0 once h i.2)
          (one_branches (after g a) bs cs i.1 (once_expr g a once) k i.3) ∙ i.4
      one_expr _ _ _ z once (w.if_expression g bs cs h) b = let i = decide_expr g bs z b in
          ap t.if_expression (one_branches g bs cs i.0 once h i.1) ∙ i.2
      one_expr _ _ _ z once (w.receive g bs cs h) b = let i = receive_expr g bs z b in
          ap t.receive (one_branches g bs cs i.0 once h i.1) ∙ i.2

      pub one_exprs : (g : Scope) (es : Exprs) (xs zs : Trees) → SeenOnce g → ExprsAre n g es xs
          → ExprsAre n g es zs → xs ≡ zs
      one_exprs _ _ _ zs once (w.no_more g) b = no_more_exprs g zs b
      one_exprs _ _ _ zs once (w.and_more g e es x xs h k) b =
          let i = and_exprs g e es zs b in ap₂ tree (one_expr g e x i.0 once h i.2)
          (one_exprs (after g e) es xs i.1 (once_expr g e once) k i.3) ∙ i.4

      pub one_element : (g : Scope) (e : Expr) (ys zs : Patterns) (x z : Tree) → SeenOnce g → ElementIs n g e ys x
          → ElementIs n g e zs z → (ys ≡ zs) × (x ≡ z)
      one_element _ _ _ zs _ z once (w.plain g e x h) b = let i = plain_element g e x h zs z b in
          (i.1, one_expr g e x z once h i.0)
      one_element _ _ _ zs _ z once (w.match g q e ys y x h k) b =
          let i = match_element g q e zs z b in
          let inner = one_element g e ys i.0 x z once h i.2 in
          (ap₂ with_pattern inner.0 (one_expr_pattern (after g e) q y i.1 (once_expr g e once) k i.3) ∙ i.4, inner.1)

      pub one_body : (g : Scope) (es : Exprs) (x z : Tree) → SeenOnce g → BodyIs n g es x → BodyIs n g es z → x ≡ z
      one_body _ _ _ z once (w.last g e ys x h) b =
          let i = last_body g e z b in let same = one_element g e ys i.0 x i.1 once h i.2 in
          ap₂ ending same.0 same.1 ∙ i.3
      one_body _ _ _ z once (w.before g e es ys x rest h k) b =
          let i = before_body g e es rest k z b in
          let same = one_element g e ys i.0 x i.1 once h i.3 in
          same_bind ys i.0 x i.1 rest i.2 same.0 same.1 (one_body (after g e) es rest i.2 (once_expr g e once) k i.4)
          ∙ i.5

      pub one_guard : (g : Scope) (c : Condition) (d z : Guard) → SeenOnce g → GuardIs n g c d → GuardIs n g c z → d ≡ z
      one_guard _ _ _ z once (w.no_more_tests g) b = no_more_tests g z b
      one_guard _ _ _ z once (w.or_tests g es c xs d h k) b =
          let i = or_tests g es c z b in ap₂ alternative (one_exprs g es xs i.0 once h i.2)
          (one_guard g c d i.1 once k i.3) ∙ i.4

      pub one_branches : (g : Scope) (bs : Branches) (cs z : Clauses) → SeenOnce g → BranchesAre n g bs cs
          → BranchesAre n g bs z → cs ≡ z
      one_branches _ _ _ z once (w.no_more_branches g) b = no_more_branches g z b
      one_branches _ _ _ z once (w.and_branches g q c es bs y d x cs h1 h2 h3 h4) b =
          let i = and_branches g q c es bs z b in
          let seen = once_expr_pattern g q once in
          same_clause y i.pattern_of d i.guard x i.body cs i.others
          (one_expr_pattern g q y i.pattern_of once h1 i.pattern_is)
          (one_guard (after_expr_pattern g q) c d i.guard seen h2 i.guard_is)
          (one_body (after_expr_pattern g q) es x i.body seen h3 i.body_is)
          (one_branches g bs cs i.others once h4 i.others_are)
          ∙ i.whole

    same_parts : (ys zs : Patterns) (d d2 : Guard) (x x2 : Tree) → ys ≡ zs → d ≡ d2 → x ≡ x2
        → ◌≡◌ {A = FunctionClause} (record { parameters = ys; guard = d; body = x })
        (record { parameters = zs; guard = d2; body = x2 })
    same_parts ys zs d d2 x x2 e1 e2 e3 = cc

    same_head : (c d : FunctionClause) → c.parameters ≡ d.parameters → c.guard ≡ d.guard → c.body ≡ d.body → c ≡ d
    same_head c d e1 e2 e3 = same_parts c.parameters d.parameters c.guard d.guard c.body d.body e1 e2 e3

    pub one_head : (h : Head) (c d : FunctionClause) → HeadIs n h c → HeadIs n h d → c ≡ d
    one_head h c d a b =
        let seen = once_expr_patterns no_scope h.parameters none_seen in
        same_head c d (one_expr_patterns no_scope h.parameters c.parameters d.parameters none_seen
        a.parameters b.parameters)
        (one_guard (after_expr_patterns no_scope h.parameters) h.condition c.guard d.guard seen a.guard b.guard)
        (one_body (after_expr_patterns no_scope h.parameters) h.body c.body d.body seen a.body b.body)
