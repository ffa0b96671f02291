-- What was read is still there, and means the same, when the syntax tree has grown.
use Rattle.std.proofs.Common.{◌≡◌, List, [], ◌∷◌, ◌++◌, refl, sym, subst}
use Rattle.std.specs.Prelude.{map}
use Rattle.std.specs.List.{All}
use Rattle.std.proofs.lemmas.List.Elements.{All-head, All-tail, All-push, All-weaker}
use Rattle.pf_syntax.specs.SyntaxTree.{NodeTable}
use Rattle.pf_syntax.specs.SyntaxTreeOver.{alternatives_at, expr_patterns_at, exprs_at, branches_over, head_over}
use Rattle.pf_syntax.specs.SyntaxTreeOver.{ExprPatternRepresents, ExprRepresents, BranchRepresents, HeadRepresents}
use Rattle.pf_syntax.specs.declared.expr.Branch.{Branch}
use Rattle.pf_syntax.specs.declared.expr.Head.{Head}
use Rattle.pf_syntax.specs.declared.expr.Tests.{Tests}
use Rattle.pf_syntax.specs.declared.expr.ExprPatternId.{ExprPatternId}
use Rattle.pf_syntax.specs.declared.expr.ExprId.{ExprId}
use Rattle.pf_syntax.proofs.NodeTableExtends.{GoesOn, all_exprs_are_there, condition_kept, head_kept, head_is_there}
use Rattle.pf_grammar.specs.Parse.{expr_patterns_of, exprs_of, branches_of, condition_of}
use Rattle.pf_reader.specs.declared.part.FrontPart.{FrontPart}
use Rattle.pf_reader.specs.Given.{expr_pattern_of, expr_of, clause_of, view_of_front, view_of_tests, FrontRepresents}
use Rattle.pf_reader.specs.Given.{TestsAreThere}

-- where each keeps its meaning, all do
pub seen_alike : {X A : Type 0} (P : X → Type 0) (f g : X → A) → ((x : X) → P x → f x ≡ g x) → (xs : List X) → All P xs
    → map f xs ≡ map g xs
seen_alike P f g h [] a = refl
seen_alike P f g h (x ∷ xs) a =
    let y = h x (All-head P x xs a) in
    let ys = seen_alike P f g h xs (All-tail P x xs a) in
    cc

module _ (b c : NodeTable) (on : GoesOn b c) where
  pub expr_patterns_alike : (qs : List ExprPatternId) → All (ExprPatternRepresents b) qs
      → map (expr_pattern_of c) qs ≡ map (expr_pattern_of b) qs
  expr_patterns_alike qs h = seen_alike (ExprPatternRepresents b) (expr_pattern_of c) (expr_pattern_of b)
      (λ q s. on.expr_patterns q.0 s) qs h

  pub exprs_alike : (es : List ExprId) → All (ExprRepresents b) es → map (expr_of c) es ≡ map (expr_of b) es
  exprs_alike es h = seen_alike (ExprRepresents b) (expr_of c) (expr_of b) (λ e s. on.exprs e.0 s) es h

-- one more that is there
pub pushed_is_there : {X : Type 0} (P : X → Type 0) (xs ys : List X) (x : X) → ys ≡ xs ++ x ∷ [] → All P xs
    → P x → All P ys
pushed_is_there P xs ys x e h p = subst (All P) (sym e) (All-push P xs x h p)

-- parts in a row, as they are read and as the table of nodes has them
pub expr_patterns_in_row : (b : NodeTable) (qs : List ExprPatternId)
    → expr_patterns_at b qs ≡ expr_patterns_of (map (expr_pattern_of b) qs)
expr_patterns_in_row b [] = refl
expr_patterns_in_row b (q ∷ qs) = let e = expr_patterns_in_row b qs in cc

pub exprs_in_row : (b : NodeTable) (es : List ExprId) → exprs_at b es ≡ exprs_of (map (expr_of b) es)
exprs_in_row b [] = refl
exprs_in_row b (e ∷ es) = let r = exprs_in_row b es in cc

-- ---- guards

pub tests_alike : (b c : NodeTable) → GoesOn b c → (gs : List Tests) → All (TestsAreThere b) gs
    → map (view_of_tests c) gs ≡ map (view_of_tests b) gs
tests_alike b c on gs h = seen_alike (TestsAreThere b) (view_of_tests c) (view_of_tests b)
    (λ g s. exprs_alike b c on g.tests.items s) gs h

pub all_tests_are_there : (b c : NodeTable) → GoesOn b c → (gs : List Tests) → All (TestsAreThere b) gs
    → All (TestsAreThere c) gs
all_tests_are_there b c on gs h = All-weaker (TestsAreThere b) (TestsAreThere c)
    (λ g s. all_exprs_are_there b c on g.tests.items s) gs h

pub alternatives_in_row : (b : NodeTable) (gs : List Tests)
    → alternatives_at b gs ≡ condition_of (map (view_of_tests b) gs)
alternatives_in_row b [] = refl
alternatives_in_row b (g ∷ gs) =
    let es = exprs_in_row b g.tests.items in
    let more = alternatives_in_row b gs in
    cc

-- ---- clauses

pub front_alike : (b c : NodeTable) → GoesOn b c → (f : FrontPart) → FrontRepresents b f
    → (view_of_front c f).0 ≡ (view_of_front b f).0
front_alike b c on f h =
    let q = on.expr_patterns f.expr_pattern.0 h.0 in
    let g = condition_kept b c on f.condition h.1 in
    cc

clause_alike : (b c : NodeTable) → GoesOn b c → (x : Branch) → BranchRepresents b x → clause_of c x ≡ clause_of b x
clause_alike b c on x h =
    let q = on.expr_patterns x.expr_pattern.0 h.0 in
    let g = condition_kept b c on x.condition h.1 in
    let es = exprs_alike b c on x.body.items h.2 in
    cc

pub clauses_alike : (b c : NodeTable) → GoesOn b c → (xs : List Branch) → All (BranchRepresents b) xs
    → map (clause_of c) xs ≡ map (clause_of b) xs
clauses_alike b c on xs h = seen_alike (BranchRepresents b) (clause_of c) (clause_of b) (clause_alike b c on) xs h

pub clauses_in_row : (b : NodeTable) (xs : List Branch) → branches_over b xs ≡ branches_of (map (clause_of b) xs)
clauses_in_row b [] = refl
clauses_in_row b (x ∷ xs) =
    let es = exprs_in_row b x.body.items in
    let more = clauses_in_row b xs in
    cc

-- ---- clauses of functions

pub heads_alike : (b c : NodeTable) → GoesOn b c → (xs : List Head) → All (HeadRepresents b) xs
    → map (head_over c) xs ≡ map (head_over b) xs
heads_alike b c on xs h = seen_alike (HeadRepresents b) (head_over c) (head_over b) (head_kept b c on) xs h

pub all_heads_are_there : (b c : NodeTable) → GoesOn b c → (xs : List Head) → All (HeadRepresents b) xs
    → All (HeadRepresents c) xs
all_heads_are_there b c on xs h = All-weaker (HeadRepresents b) (HeadRepresents c) (head_is_there b c on) xs h
