-- Tables of nodes that go on where others end: what is in the others is in these, and means the same.
use Rattle.std.proofs.Common.{◌≡◌, ℕ, ◌<◌, ◌≤◌, List, [], ◌∷◌, ◌++◌, length, refl, ap, ◌∙◌, arith, length-append}
use Rattle.std.specs.Prelude.{map}
use Rattle.std.specs.List.{All}
use Rattle.std.proofs.lemmas.List.Elements.{All-head, All-tail, All-weaker}
use Rattle.std.proofs.lemmas.List.{get_or_append_left}
use Rattle.std.proofs.Math.Seq.{get_or-append_seam}
use Rattle.pf_syntax.specs.ExprPattern.{ExprPattern, anything}
use Rattle.pf_syntax.specs.ExprPattern as s
use Rattle.pf_syntax.specs.Expr.{list, no_exprs}
use Rattle.pf_syntax.specs.Expr as p
use Rattle.pf_syntax.specs.SyntaxTree.{NodeTable, expr_pattern_at, expr_at}
use Rattle.pf_syntax.specs.SyntaxTreeOver.{expr_patterns_at, expr_pattern_over, exprs_at, alternatives_at}
use Rattle.pf_syntax.specs.SyntaxTreeOver.{condition_over, branches_over, expr_over, head_over, heads_over}
use Rattle.pf_syntax.specs.SyntaxTreeOver.{with_expr_pattern, with_expr, ExprPatternRepresents, ExprRepresents}
use Rattle.pf_syntax.specs.SyntaxTreeOver.{ConditionRepresents, BranchRepresents, ExprPatternPartsAreThere}
use Rattle.pf_syntax.specs.SyntaxTreeOver.{ExprPartsAreThere}
use Rattle.pf_syntax.specs.SyntaxTreeOver.{HeadRepresents, HeadsAreThere}
use Rattle.pf_syntax.specs.declared.expr.ExprPatternId.{ExprPatternId}
use Rattle.pf_syntax.specs.declared.expr.ExprId.{ExprId}
use Rattle.pf_syntax.specs.declared.expr.ExprPatternNode.{ExprPatternNode}
use Rattle.pf_syntax.specs.declared.expr.ExprPatternNode.TheVariants as asks
use Rattle.pf_syntax.specs.declared.expr.ExprNode.{ExprNode}
use Rattle.pf_syntax.specs.declared.expr.ExprNode.TheVariants as says
use Rattle.pf_syntax.specs.declared.expr.Tests.{Tests}
use Rattle.pf_syntax.specs.declared.expr.Condition.{Condition}
use Rattle.pf_syntax.specs.declared.expr.Branch.{Branch}
use Rattle.pf_syntax.specs.declared.expr.Head.{Head}
use Rattle.pf_syntax.specs.declared.expr.ExprFunction.{ExprFunction}

-- c goes on where b ends
pub record GoesOn (b c : NodeTable) : Type 0 where
  pub expr_patterns : (k : ℕ) → k < length b.expr_patterns → expr_pattern_at c k ≡ expr_pattern_at b k
  pub exprs : (k : ℕ) → k < length b.exprs → expr_at c k ≡ expr_at b k
  pub more_expr_patterns : length b.expr_patterns ≤ length c.expr_patterns
  pub more_exprs : length b.exprs ≤ length c.exprs

-- the table of nodes with a pattern that is known
abbrev pub plus_expr_pattern : NodeTable → ExprPattern → NodeTable
plus_expr_pattern b q = record { expr_patterns = b.expr_patterns ++ q ∷ []; exprs = b.exprs }

pub on_by_expr_pattern : (b : NodeTable) (q : ExprPattern) → GoesOn b (plus_expr_pattern b q)
on_by_expr_pattern b q = record {
  expr_patterns = λ k h. get_or_append_left b.expr_patterns (q ∷ []) anything k h;
  exprs = λ k h. refl;
  more_expr_patterns = omega (arith, length-append b.expr_patterns (q ∷ []));
  more_exprs = omega arith;
}

pub on_by_expr : (b : NodeTable) (e : ExprNode) → GoesOn b (with_expr b e)
on_by_expr b e = record {
  expr_patterns = λ k h. refl;
  exprs = λ k h. get_or_append_left b.exprs (expr_over b e ∷ []) (list no_exprs) k h;
  more_expr_patterns = omega arith;
  more_exprs = omega (arith, length-append b.exprs (expr_over b e ∷ []));
}

pub on_by_nothing : (b : NodeTable) → GoesOn b b
on_by_nothing b = record {
  expr_patterns = λ k h. refl;
  exprs = λ k h. refl;
  more_expr_patterns = omega arith;
  more_exprs = omega arith;
}

pub on_and_on : (b c d : NodeTable) → GoesOn b c → GoesOn c d → GoesOn b d
on_and_on b c d g h = record {
  expr_patterns = λ k l. let m = g.more_expr_patterns in h.expr_patterns k (omega arith) ∙ g.expr_patterns k l;
  exprs = λ k l. let m = g.more_exprs in h.exprs k (omega arith) ∙ g.exprs k l;
  more_expr_patterns = omega (arith, g.more_expr_patterns, h.more_expr_patterns);
  more_exprs = omega (arith, g.more_exprs, h.more_exprs);
}

-- what was added last is at the end
pub expr_pattern_last : (b : NodeTable) (n : ExprPatternNode)
    → expr_pattern_at (with_expr_pattern b n) (length b.expr_patterns) ≡ expr_pattern_over b n
expr_pattern_last b n = get_or-append_seam b.expr_patterns (expr_pattern_over b n) [] anything

pub expr_last : (b : NodeTable) (n : ExprNode) → expr_at (with_expr b n) (length b.exprs) ≡ expr_over b n
expr_last b n = get_or-append_seam b.exprs (expr_over b n) [] (list no_exprs)

module _ (b c : NodeTable) (on : GoesOn b c) where
  -- ---- the same meaning

  pub expr_patterns_kept : (qs : List ExprPatternId) → All (ExprPatternRepresents b) qs
      → expr_patterns_at c qs ≡ expr_patterns_at b qs
  expr_patterns_kept [] h = refl
  expr_patterns_kept (q ∷ qs) h =
      let x = on.expr_patterns q.0 (All-head (ExprPatternRepresents b) q qs h) in
      let y = expr_patterns_kept qs (All-tail (ExprPatternRepresents b) q qs h) in
      cc

  pub expr_pattern_kept : (n : ExprPatternNode) → ExprPatternPartsAreThere b n
      → expr_pattern_over c n ≡ expr_pattern_over b n
  expr_pattern_kept (asks.Tuple qs) h = ap s.tuple (expr_patterns_kept qs.items h)
  expr_pattern_kept (asks.List qs) h = ap s.list (expr_patterns_kept qs.items h)
  expr_pattern_kept (asks.ListOn qs t) h = let x = expr_patterns_kept qs.items h.0 in
      let y = on.expr_patterns t.0 h.1 in cc
  expr_pattern_kept _ h = refl

  pub exprs_kept : (es : List ExprId) → All (ExprRepresents b) es → exprs_at c es ≡ exprs_at b es
  exprs_kept [] h = refl
  exprs_kept (e ∷ es) h =
      let x = on.exprs e.0 (All-head (ExprRepresents b) e es h) in
      let y = exprs_kept es (All-tail (ExprRepresents b) e es h) in
      cc

  alternatives_kept : (gs : List Tests) → All (λ g. All (ExprRepresents b) g.tests.items) gs
      → alternatives_at c gs ≡ alternatives_at b gs
  alternatives_kept [] h = refl
  alternatives_kept (g ∷ gs) h =
      let x = exprs_kept g.tests.items (All-head (λ g. All (ExprRepresents b) g.tests.items) g gs h) in
      let y = alternatives_kept gs (All-tail (λ g. All (ExprRepresents b) g.tests.items) g gs h) in
      cc

  pub condition_kept : (g : Condition) → ConditionRepresents b g → condition_over c g ≡ condition_over b g
  condition_kept g h = alternatives_kept g.alternatives.items h

  pub branches_kept : (bs : List Branch) → All (BranchRepresents b) bs → branches_over c bs ≡ branches_over b bs
  branches_kept [] h = refl
  branches_kept (x ∷ bs) h =
      let is_there = All-head (BranchRepresents b) x bs h in
      let q = on.expr_patterns x.expr_pattern.0 is_there.0 in
      let g = condition_kept x.condition is_there.1 in
      let e = exprs_kept x.body.items is_there.2 in
      let y = branches_kept bs (All-tail (BranchRepresents b) x bs h) in
      cc

  pub expr_kept : (n : ExprNode) → ExprPartsAreThere b n → expr_over c n ≡ expr_over b n
  expr_kept (says.Parentheses e) h = ap p.parentheses (on.exprs e.0 h)
  expr_kept (says.Tuple es) h = ap p.tuple (exprs_kept es.items h)
  expr_kept (says.List es) h = ap p.list (exprs_kept es.items h)
  expr_kept (says.ListOn es t) h = let x = exprs_kept es.items h.0 in let y = on.exprs t.0 h.1 in cc
  expr_kept (says.Call w es) h = ap (p.call w.name.0 w.offset) (exprs_kept es.items h)
  expr_kept (says.Binary o l r) h = let x = on.exprs l.0 h.0 in let y = on.exprs r.0 h.1 in cc
  expr_kept (says.Negate e) h = ap p.negate (on.exprs e.0 h)
  expr_kept (says.AndAlso l r) h = let x = on.exprs l.0 h.0 in let y = on.exprs r.0 h.1 in cc
  expr_kept (says.OrElse l r) h = let x = on.exprs l.0 h.0 in let y = on.exprs r.0 h.1 in cc
  expr_kept (says.Send l r) h = let x = on.exprs l.0 h.0 in let y = on.exprs r.0 h.1 in cc
  expr_kept (says.Match q e) h = let x = on.expr_patterns q.0 h.0 in let y = on.exprs e.0 h.1 in cc
  expr_kept (says.Case e bs) h = let x = on.exprs e.0 h.0 in let y = branches_kept bs.items h.1 in cc
  expr_kept (says.If bs) h = ap p.if_expression (branches_kept bs.items h)
  expr_kept (says.Receive bs) h = ap p.receive (branches_kept bs.items h)
  expr_kept _ h = refl

  pub head_kept : (x : Head) → HeadRepresents b x → head_over c x ≡ head_over b x
  head_kept x h =
      let q = expr_patterns_kept x.parameters.items h.0 in
      let g = condition_kept x.condition h.1 in
      let e = exprs_kept x.body.items h.2 in
      cc

  heads_kept : (xs : List Head) → All (HeadRepresents b) xs → map (head_over c) xs ≡ map (head_over b) xs
  heads_kept [] h = refl
  heads_kept (x ∷ xs) h =
      let y = head_kept x (All-head (HeadRepresents b) x xs h) in
      let ys = heads_kept xs (All-tail (HeadRepresents b) x xs h) in
      cc

  pub functions_kept : (fs : List ExprFunction) → All (HeadsAreThere b) fs
      → map (heads_over c) fs ≡ map (heads_over b) fs
  functions_kept [] h = refl
  functions_kept (f ∷ fs) h =
      let y = heads_kept f.heads.items (All-head (HeadsAreThere b) f fs h) in
      let ys = functions_kept fs (All-tail (HeadsAreThere b) f fs h) in
      cc

  -- ---- it is still there

  pub expr_pattern_is_there : (q : ExprPatternId) → ExprPatternRepresents b q → ExprPatternRepresents c q
  expr_pattern_is_there q h = omega (arith, on.more_expr_patterns)

  pub expr_is_there : (e : ExprId) → ExprRepresents b e → ExprRepresents c e
  expr_is_there e h = omega (arith, on.more_exprs)

  pub all_expr_patterns_are_there : (qs : List ExprPatternId) → All (ExprPatternRepresents b) qs
      → All (ExprPatternRepresents c) qs
  all_expr_patterns_are_there qs h = All-weaker (ExprPatternRepresents b)
      (ExprPatternRepresents c) expr_pattern_is_there qs h

  pub all_exprs_are_there : (es : List ExprId) → All (ExprRepresents b) es → All (ExprRepresents c) es
  all_exprs_are_there es h = All-weaker (ExprRepresents b) (ExprRepresents c) expr_is_there es h

  pub condition_is_there : (g : Condition) → ConditionRepresents b g → ConditionRepresents c g
  condition_is_there g h =
      All-weaker (λ a. All (ExprRepresents b) a.tests.items) (λ a. All (ExprRepresents c) a.tests.items)
      (λ a x. all_exprs_are_there a.tests.items x) g.alternatives.items h

  pub branch_is_there : (x : Branch) → BranchRepresents b x → BranchRepresents c x
  branch_is_there x h = (
    expr_pattern_is_there x.expr_pattern h.0,
    condition_is_there x.condition h.1,
    all_exprs_are_there x.body.items h.2,
  )

  pub branches_are_there : (bs : List Branch) → All (BranchRepresents b) bs → All (BranchRepresents c) bs
  branches_are_there bs h = All-weaker (BranchRepresents b) (BranchRepresents c) branch_is_there bs h

  pub expr_pattern_parts_are_there : (n : ExprPatternNode) → ExprPatternPartsAreThere b n → ExprPatternPartsAreThere c n
  expr_pattern_parts_are_there (asks.Tuple qs) h = all_expr_patterns_are_there qs.items h
  expr_pattern_parts_are_there (asks.List qs) h = all_expr_patterns_are_there qs.items h
  expr_pattern_parts_are_there (asks.ListOn qs t) h =
      (all_expr_patterns_are_there qs.items h.0, expr_pattern_is_there t h.1)
  expr_pattern_parts_are_there _ h = tt

  pub expr_parts_are_there : (n : ExprNode) → ExprPartsAreThere b n → ExprPartsAreThere c n
  expr_parts_are_there (says.Parentheses e) h = expr_is_there e h
  expr_parts_are_there (says.Tuple es) h = all_exprs_are_there es.items h
  expr_parts_are_there (says.List es) h = all_exprs_are_there es.items h
  expr_parts_are_there (says.ListOn es t) h = (all_exprs_are_there es.items h.0, expr_is_there t h.1)
  expr_parts_are_there (says.Call w es) h = all_exprs_are_there es.items h
  expr_parts_are_there (says.Binary o l r) h = (expr_is_there l h.0, expr_is_there r h.1)
  expr_parts_are_there (says.Negate e) h = expr_is_there e h
  expr_parts_are_there (says.AndAlso l r) h = (expr_is_there l h.0, expr_is_there r h.1)
  expr_parts_are_there (says.OrElse l r) h = (expr_is_there l h.0, expr_is_there r h.1)
  expr_parts_are_there (says.Send l r) h = (expr_is_there l h.0, expr_is_there r h.1)
  expr_parts_are_there (says.Match q e) h = (expr_pattern_is_there q h.0, expr_is_there e h.1)
  expr_parts_are_there (says.Case e bs) h = (expr_is_there e h.0, branches_are_there bs.items h.1)
  expr_parts_are_there (says.If bs) h = branches_are_there bs.items h
  expr_parts_are_there (says.Receive bs) h = branches_are_there bs.items h
  expr_parts_are_there _ h = tt

  pub head_is_there : (x : Head) → HeadRepresents b x → HeadRepresents c x
  head_is_there x h = (
    all_expr_patterns_are_there x.parameters.items h.0,
    condition_is_there x.condition h.1,
    all_exprs_are_there x.body.items h.2,
  )

  heads_are_there : (f : ExprFunction) → HeadsAreThere b f → HeadsAreThere c f
  heads_are_there f h = All-weaker (HeadRepresents b) (HeadRepresents c) head_is_there f.heads.items h

  pub functions_are_there : (fs : List ExprFunction) → All (HeadsAreThere b) fs → All (HeadsAreThere c) fs
  functions_are_there fs h = All-weaker (HeadsAreThere b) (HeadsAreThere c) heads_are_there fs h
