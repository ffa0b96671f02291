-- Tables of nodes that grow entry by entry, and what is in them.
use Rattle.std.proofs.Common.{◌≡◌, ℕ, zero, suc, ◌+◌, ◌<◌, List, [], ◌∷◌, ◌++◌, length, get_or, Some, refl, sym, ap}
use Rattle.std.proofs.Common.{◌∙◌, subst, arith, length-append}
use Rattle.std.specs.Prelude.{fold, slice_get}
use Rattle.pf_syntax.specs.ExprPattern.{ExprPattern, anything, expr_pattern_size, expr_pattern_depth}
use Rattle.pf_syntax.specs.Expr.{Expr, expr_size, expr_depth}
use Rattle.pf_syntax.specs.Measure.{IsMeasure}
use Rattle.pf_syntax.specs.SyntaxTree.{NodeTable, expr_pattern_at, expr_at}
use Rattle.pf_syntax.specs.SyntaxTreeOver.{expr_pattern_over, expr_over}
use Rattle.pf_syntax.specs.SyntaxTreeView.{expr_pattern_entered, expr_entered, ExprPatternIsSound, ExprIsSound}
use Rattle.pf_syntax.specs.SyntaxTreeView.{no_node_table, expr_patterns_of, node_table_of, Sound}
use Rattle.pf_syntax.specs.Within.{InTurn}
use Rattle.pf_syntax.proofs.NodeTableExtends.{GoesOn, plus_expr_pattern, on_by_expr_pattern, on_by_expr, on_by_nothing}
use Rattle.pf_syntax.proofs.NodeTableExtends.{on_and_on, expr_pattern_kept, expr_kept, expr_pattern_last, expr_last}
use Rattle.pf_syntax.proofs.NodeTableExtends.{expr_parts_are_there}
use Rattle.pf_syntax.specs.declared.syntax_tree.ExprPatternEntry.{ExprPatternEntry}
use Rattle.pf_syntax.specs.declared.syntax_tree.ExprEntry.{ExprEntry}
use Rattle.pf_syntax.specs.declared.syntax_tree.SyntaxTree.TheInside.{Inside}

-- ---- a pattern below expressions

pub expr_after_expr_pattern : (q : ExprPattern) (b : NodeTable) (e : ExprEntry) → ExprIsSound b e
    → expr_entered (plus_expr_pattern b q) e ≡ plus_expr_pattern (expr_entered b e) q
expr_after_expr_pattern q b e h =
    ap (λ (r : Expr). let c : NodeTable = record {
      expr_patterns = b.expr_patterns ++ q ∷ [];
      exprs = b.exprs ++ r ∷ [];
    } in c) (expr_kept b (plus_expr_pattern b q) (on_by_expr_pattern b q) e.node h.0)

pub expr_still_sound : (q : ExprPattern) (b : NodeTable) (e : ExprEntry) → ExprIsSound b e
    → ExprIsSound (plus_expr_pattern b q) e
expr_still_sound q b e h =
    let c = plus_expr_pattern b q in
    let same = sym (expr_kept b c (on_by_expr_pattern b q) e.node h.0) in (
      expr_parts_are_there b c (on_by_expr_pattern b q) e.node h.0,
      subst (λ (r : Expr). IsMeasure e.measure (expr_size r) (expr_depth r)) same h.1,
    )

-- ---- what is there, and how much

pub expr_patterns_go_on : (b : NodeTable) (es : List ExprPatternEntry) → GoesOn b (fold expr_pattern_entered b es)
expr_patterns_go_on b [] = on_by_nothing b
expr_patterns_go_on b (e ∷ es) = on_and_on b (expr_pattern_entered b e)
    (fold expr_pattern_entered (expr_pattern_entered b e) es) (on_by_expr_pattern b (expr_pattern_over b e.node))
    (expr_patterns_go_on (expr_pattern_entered b e) es)

pub exprs_go_on : (b : NodeTable) (es : List ExprEntry) → GoesOn b (fold expr_entered b es)
exprs_go_on b [] = on_by_nothing b
exprs_go_on b (e ∷ es) = on_and_on b (expr_entered b e) (fold expr_entered (expr_entered b e) es) (on_by_expr b e.node)
    (exprs_go_on (expr_entered b e) es)

pub expr_patterns_leave : (b : NodeTable) (es : List ExprPatternEntry)
    → (fold expr_pattern_entered b es).exprs ≡ b.exprs
expr_patterns_leave b [] = refl
expr_patterns_leave b (e ∷ es) = expr_patterns_leave (expr_pattern_entered b e) es

pub exprs_leave : (b : NodeTable) (es : List ExprEntry) → (fold expr_entered b es).expr_patterns ≡ b.expr_patterns
exprs_leave b [] = refl
exprs_leave b (e ∷ es) = exprs_leave (expr_entered b e) es

length-expr_patterns : (b : NodeTable) (es : List ExprPatternEntry)
    → length (fold expr_pattern_entered b es).expr_patterns ≡ length b.expr_patterns + length es
length-expr_patterns b [] = omega arith
length-expr_patterns b (e ∷ es) = omega (
  arith,
  length-expr_patterns (expr_pattern_entered b e) es,
  length-append b.expr_patterns (expr_pattern_over b e.node ∷ []),
)

length-exprs : (b : NodeTable) (es : List ExprEntry)
    → length (fold expr_entered b es).exprs ≡ length b.exprs + length es
length-exprs b [] = omega arith
length-exprs b (e ∷ es) = omega (
  arith,
  length-exprs (expr_entered b e) es,
  length-append b.exprs (expr_over b e.node ∷ []),
)

pub count-expr_patterns : (a : Inside) → length (node_table_of a).expr_patterns ≡ length a.expr_patterns.items
count-expr_patterns a =
    let e = ap (λ (qs : List ExprPattern). length qs) (exprs_leave (expr_patterns_of a) a.exprs.items) in
    omega (arith, e, length-expr_patterns no_node_table a.expr_patterns.items)

pub count-exprs : (a : Inside) → length (node_table_of a).exprs ≡ length a.exprs.items
count-exprs a =
    let e = ap (λ (es : List Expr). length es) (expr_patterns_leave no_node_table a.expr_patterns.items) in
    omega (arith, e, length-exprs (expr_patterns_of a) a.exprs.items)

-- ---- what an entry says of the table of nodes

-- the tree at a number is over the trees of the entry's parts, and the entry's measure is that of the tree
pub record ExprPatternFormed (b : NodeTable) (k : ℕ) (e : ExprPatternEntry) : Type 0 where
  pub over : expr_pattern_over b e.node ≡ expr_pattern_at b k
  pub measured : IsMeasure e.measure (expr_pattern_size (expr_pattern_at b k))
      (expr_pattern_depth (expr_pattern_at b k))

pub record ExprFormed (b : NodeTable) (k : ℕ) (e : ExprEntry) : Type 0 where
  pub over : expr_over b e.node ≡ expr_at b k
  pub measured : IsMeasure e.measure (expr_size (expr_at b k)) (expr_depth (expr_at b k))

expr_pattern_formed : (b : NodeTable) (es : List ExprPatternEntry) (k : ℕ) (e : ExprPatternEntry)
    → InTurn ExprPatternIsSound expr_pattern_entered b es → slice_get es k ≡ Some e
    → ExprPatternFormed (fold expr_pattern_entered b es) (length b.expr_patterns + k) e
expr_pattern_formed b [] k e a h = absurd (cc)
expr_pattern_formed b (d ∷ es) zero e a h =
    let c = expr_pattern_entered b d in
    let w = fold expr_pattern_entered c es in
    let q = expr_pattern_over b d.node in
    let z : length b.expr_patterns + 0 ≡ length b.expr_patterns = omega arith in
    let l : length b.expr_patterns < length c.expr_patterns = omega (arith, length-append b.expr_patterns (q ∷ [])) in
    let over = expr_pattern_kept b w (on_and_on b c w (on_by_expr_pattern b q) (expr_patterns_go_on c es))
    d.node a.0.0 in
    let at : expr_pattern_at w (length b.expr_patterns) ≡ q =
    (expr_patterns_go_on c es).expr_patterns (length b.expr_patterns) l ∙ expr_pattern_last b d.node in
    let same : d ≡ e = cc in
    let formed : ExprPatternFormed w (length b.expr_patterns) d = record {
      over = over ∙ sym at;
      measured = subst (λ (r : ExprPattern). IsMeasure d.measure (expr_pattern_size r) (expr_pattern_depth r))
          (sym at) a.0.1;
    } in
    rw (← same, z) formed
expr_pattern_formed b (d ∷ es) (suc k) e a h =
    let c = expr_pattern_entered b d in
    let z : length c.expr_patterns + k ≡ length b.expr_patterns + suc k =
    omega (arith, length-append b.expr_patterns (expr_pattern_over b d.node ∷ [])) in
    subst (λ (j : ℕ). ExprPatternFormed (fold expr_pattern_entered c es) j e) z (expr_pattern_formed c es k e a.1 h)

expr_formed : (b : NodeTable) (es : List ExprEntry) (k : ℕ) (e : ExprEntry) → InTurn ExprIsSound expr_entered b es
    → slice_get es k ≡ Some e → ExprFormed (fold expr_entered b es) (length b.exprs + k) e
expr_formed b [] k e a h = absurd (cc)
expr_formed b (d ∷ es) zero e a h =
    let c = expr_entered b d in
    let w = fold expr_entered c es in
    let r = expr_over b d.node in
    let z : length b.exprs + 0 ≡ length b.exprs = omega arith in
    let l : length b.exprs < length c.exprs = omega (arith, length-append b.exprs (r ∷ [])) in
    let over = expr_kept b w (on_and_on b c w (on_by_expr b d.node) (exprs_go_on c es)) d.node a.0.0 in
    let at : expr_at w (length b.exprs) ≡ r = (exprs_go_on c es).exprs (length b.exprs) l ∙ expr_last b d.node in
    let same : d ≡ e = cc in
    let formed : ExprFormed w (length b.exprs) d = record {
      over = over ∙ sym at;
      measured = subst (λ (x : Expr). IsMeasure d.measure (expr_size x) (expr_depth x)) (sym at) a.0.1;
    } in
    rw (← same, z) formed
expr_formed b (d ∷ es) (suc k) e a h =
    let c = expr_entered b d in
    let z : length c.exprs + k ≡ length b.exprs + suc k =
    omega (arith, length-append b.exprs (expr_over b d.node ∷ [])) in
    subst (λ (j : ℕ). ExprFormed (fold expr_entered c es) j e) z (expr_formed c es k e a.1 h)

-- a pattern's meaning depends on no expression
pub expr_pattern_alike : (b c : NodeTable) (e : ExprPatternEntry) → b.expr_patterns ≡ c.expr_patterns
    → expr_pattern_over b e.node ≡ expr_pattern_over c e.node
expr_pattern_alike b c e h = ap (λ (qs : List ExprPattern).
    let d : NodeTable = record { expr_patterns = qs; exprs = b.exprs } in expr_pattern_over d e.node) h

-- of the fields of a syntax tree
pub expr_pattern_of_entry : (a : Inside) → Sound a → (k : ℕ) (e : ExprPatternEntry)
    → slice_get a.expr_patterns.items k ≡ Some e → ExprPatternFormed (node_table_of a) k e
expr_pattern_of_entry a s k e h =
    let left = exprs_leave (expr_patterns_of a) a.exprs.items in
    let z : 0 + k ≡ k = omega arith in
    let formed : ExprPatternFormed (expr_patterns_of a) k e =
    subst (λ (j : ℕ). ExprPatternFormed (expr_patterns_of a) j e) z
    (expr_pattern_formed no_node_table a.expr_patterns.items k e s.expr_patterns h) in
    let at : expr_pattern_at (expr_patterns_of a) k ≡ expr_pattern_at (node_table_of a) k =
    ap (λ (qs : List ExprPattern). get_or qs k anything) (sym left) in
    record {
      over = expr_pattern_alike (node_table_of a) (expr_patterns_of a) e left ∙ formed.over ∙ at;
      measured = subst (λ (q : ExprPattern). IsMeasure e.measure (expr_pattern_size q) (expr_pattern_depth q)) at
          formed.measured;
    }

pub expr_of_entry : (a : Inside) → Sound a → (k : ℕ) (e : ExprEntry) → slice_get a.exprs.items k ≡ Some e
    → ExprFormed (node_table_of a) k e
expr_of_entry a s k e h =
    let l = ap (λ (es : List Expr). length es) (expr_patterns_leave no_node_table a.expr_patterns.items) in
    let z : length (expr_patterns_of a).exprs + k ≡ k = omega (arith, l) in
    subst (λ (j : ℕ). ExprFormed (node_table_of a) j e) z (expr_formed (expr_patterns_of a) a.exprs.items k e s.exprs h)
