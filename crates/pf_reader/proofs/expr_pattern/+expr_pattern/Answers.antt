use Rattle.std.proofs.Common.{◌≡◌, suc, ◌+◌, ◌-◌, [], ◌∷◌, ◌++◌, length, Some, None, ◌∙◌, arith, rules}
use Rattle.std.proofs.lemmas.Result.{err_from_is_err_and}
use Rattle.std.proofs.lemmas.List.{length-map}
use Rattle.pf_syntax.specs.SyntaxTreeOver.{ExprPatternRepresents}
use Rattle.pf_syntax.proofs.NodeTableExtends.{all_expr_patterns_are_there, expr_patterns_kept}
use Rattle.pf_tokens.specs.declared.marks.TokenMark.TheVariants.{Bar, CloseBracket, Comma}
use Rattle.pf_tokens.specs.NumberedTokens.{mark}
use Rattle.pf_grammar.specs.Parse.{pattern, after_kind}
use Rattle.pf_tokens.specs.View.{numbered_token_of}
use Rattle.pf_reader.specs.View.{names_of, tokens_in}
use Rattle.pf_reader.specs.Given.{expr_pattern_of}
use Rattle.pf_reader.proofs.Growth.{again}
use Rattle.pf_reader.proofs.Items.{fails_as, loop_ends, loop_goes, loop_fails, loop_out}
use Rattle.pf_reader.proofs.Kept.{expr_patterns_alike, expr_patterns_in_row, pushed_is_there}
use Rattle.pf_reader.proofs.Patterns.{pattern_is, pattern_list, pattern_list_on, pattern_tuple, pattern_zero}
use Rattle.pf_reader.proofs.expr_pattern.+expr_pattern.Goals as goal

pub read_expr_pattern_items-returns-in_err-part-clause-given :
    goal.read_expr_pattern_items-returns-in_err-part-clause-given
read_expr_pattern_items-returns-in_err-part-clause-given t c =
    let p = err_from_is_err_and c.from_residual.result c.from_residual.ensures.1 in
    let n = length (tokens_in c.args.tokens) in
    let turn : n - c.loop.counter ≡ suc (n - (c.loop.counter + 1)) =
    omega (arith, length-map c.args.tokens.list.now numbered_token_of) in
    rw (p.1, p.2) (fails_as _ _ _ (λ f. loop_fails (mark Comma) _ _ _ _ _ _ turn c.loop.invariant.given f)
    c.in_err-part.ensures.given)

pub read_expr_pattern_items-returns-in_default-clause-given :
    goal.read_expr_pattern_items-returns-in_default-clause-given
read_expr_pattern_items-returns-in_default-clause-given t c =
    let n = length (tokens_in c.args.tokens) in
    let b = c.loop.syntax.node_table in
    let d = c.read_expr_pattern.new.syntax.node_table in
    let turn : n - c.loop.counter ≡ suc (n - (c.loop.counter + 1)) =
    omega (arith, length-map c.args.tokens.list.now numbered_token_of) in
    let none : after_kind (mark Comma) (tokens_in c.in_ok-part.part.rest) ≡ None = search rules in
    let pushed : c.push.new.self.items ≡ c.loop.found.items ++ c.in_ok-part.part.expr_pattern ∷ [] = search rules in
    let same = expr_patterns_alike b d c.in_ok-part.ensures.grown.node_table c.loop.found.items
    c.loop.invariant.is_there in
    loop_ends (mark Comma) (pattern (names_of c.args.context) c.args.limit) (expr_pattern_of d) (expr_pattern_of b)
    c.loop.found.items c.push.new.self.items c.in_ok-part.part.expr_pattern _ _ _ _ _ same pushed turn
    c.loop.invariant.given c.in_ok-part.ensures.given none

pub read_expr_pattern_items-loop-preserved : goal.read_expr_pattern_items-loop-preserved
read_expr_pattern_items-loop-preserved t c =
    let n = length (tokens_in c.args.tokens) in
    let b = c.loop.syntax.node_table in
    let d = c.read_expr_pattern.new.syntax.node_table in
    let on = c.in_ok-part.ensures.grown.node_table in
    let turn : n - c.loop.counter ≡ suc (n - (c.loop.counter + 1)) =
    omega (arith, length-map c.args.tokens.list.now numbered_token_of) in
    let next : after_kind (mark Comma) (tokens_in c.in_ok-part.part.rest) ≡ Some (tokens_in c.in-Some.after) =
    search rules in
    let pushed : c.push.new.self.items ≡ c.loop.found.items ++ c.in_ok-part.part.expr_pattern ∷ [] = search rules in
    let same = expr_patterns_alike b d on c.loop.found.items c.loop.invariant.is_there in
    let kept = all_expr_patterns_are_there b d on c.loop.found.items c.loop.invariant.is_there in
    record {
      grown = again _ _ _ c.loop.invariant.grown c.in_ok-part.ensures.grown;
      is_there = pushed_is_there (ExprPatternRepresents d) c.loop.found.items c.push.new.self.items
          c.in_ok-part.part.expr_pattern pushed kept c.in_ok-part.ensures.is_there;
      given = loop_goes (mark Comma) (pattern (names_of c.args.context) c.args.limit) (expr_pattern_of d)
          (expr_pattern_of b) c.loop.found.items c.push.new.self.items c.in_ok-part.part.expr_pattern _ _ _ _ _ _ same
          pushed turn c.loop.invariant.given c.in_ok-part.ensures.given next;
    }

pub read_expr_pattern_items-returns-clause-given : goal.read_expr_pattern_items-returns-clause-given
read_expr_pattern_items-returns-clause-given t c =
    let n = length (tokens_in c.args.tokens) in
    let out : n - c.loop.counter ≡ 0 = omega (arith, length-map c.args.tokens.list.now numbered_token_of) in
    loop_out (mark Comma) _ _ _ _ _ out c.loop.invariant.given

-- ---- the levels

pub read_expr_pattern-returns-then-limit-eq0-clause-given : goal.read_expr_pattern-returns-then-limit-eq0-clause-given
read_expr_pattern-returns-then-limit-eq0-clause-given t c = pattern_zero _ _ _ (omega arith)

pub read_expr_pattern-returns-clause-given : goal.read_expr_pattern-returns-clause-given
read_expr_pattern-returns-clause-given t c = rw (pattern_is (names_of c.args.context) c.args.limit
    (tokens_in c.args.tokens) (omega arith)) c.read_begun.ensures.given

-- ---- tuples and lists

pub read_list-returns-in_ok-rest-in-None-clause-given : goal.read_list-returns-in_ok-rest-in-None-clause-given
read_list-returns-in_ok-rest-in-None-clause-given t c =
    let ts = tokens_in c.args.tokens in
    let row = expr_patterns_in_row c.read_expr_pattern_items.new.syntax.node_table c.in_ok-parts.parts.items in
    let none : after_kind (mark CloseBracket) ts ≡ None = search rules in
    let bar : after_kind (mark Bar) (tokens_in c.in_ok-parts.rest) ≡ None = search rules in
    rw (pattern_list (pattern (names_of c.args.context) c.args.limit) ts _ _ _ _ row none c.in_ok-parts.ensures.given
    bar c.in_ok-rest-in-None.ensures) c.put_expr_pattern-in-None.ensures.given

pub read_list-returns-in_ok-rest-in-Some-skip-clause-given : goal.read_list-returns-in_ok-rest-in-Some-skip-clause-given
read_list-returns-in_ok-rest-in-Some-skip-clause-given t c =
    let ts = tokens_in c.args.tokens in
    let b = c.read_expr_pattern_items.new.syntax.node_table in
    let d = c.read_expr_pattern.new.syntax.node_table in
    let qs = c.in_ok-parts.parts.items in
    let row = expr_patterns_kept b d c.in_ok-tail-in-Some-skip.ensures.grown.node_table qs
    c.in_ok-parts.ensures.is_there
    ∙ expr_patterns_in_row b qs in
    let none : after_kind (mark CloseBracket) ts ≡ None = search rules in
    let bar : after_kind (mark Bar) (tokens_in c.in_ok-parts.rest) ≡ Some (tokens_in c.in-Some-skip.rest) =
    search rules in
    rw (pattern_list_on (pattern (names_of c.args.context) c.args.limit) ts _ _ _ _ row none c.in_ok-parts.ensures.given
    _ _ _ bar c.in_ok-tail-in-Some-skip.ensures.given c.in_ok-rest-in-Some-skip.ensures)
    c.put_expr_pattern-in-Some-skip.ensures.given

pub read_marked-returns-in_ok-parts-in-OpenBrace-clause-given :
    goal.read_marked-returns-in_ok-parts-in-OpenBrace-clause-given
read_marked-returns-in_ok-parts-in-OpenBrace-clause-given t c =
    let row = expr_patterns_in_row c.read_expr_patterns.new.syntax.node_table c.in_ok-parts-in-OpenBrace.parts.items in
    rw (pattern_tuple (pattern (names_of c.args.context) c.args.limit) c.args.first (tokens_in c.args.tokens) _ _ _
    c.in-OpenBrace.is row c.in_ok-parts-in-OpenBrace.ensures.given) c.put_expr_pattern.ensures.given
