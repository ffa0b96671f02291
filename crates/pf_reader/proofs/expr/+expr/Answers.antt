use Rattle.std.proofs.Common.{◌≡◌, suc, ◌+◌, ◌-◌, [], ◌∷◌, ◌++◌, length, true, Some, None, refl, ◌∙◌, arith, rules}
use Rattle.std.proofs.lemmas.Result.{err_from_is_err_and}
use Rattle.std.proofs.lemmas.List.{length-map}
use Rattle.pf_syntax.specs.SyntaxTree.{expr_at}
use Rattle.pf_syntax.specs.SyntaxTreeOver.{BranchRepresents, ExprRepresents, ExprPatternRepresents}
use Rattle.pf_syntax.proofs.NodeTableExtends.{all_exprs_are_there, branches_are_there, condition_is_there, exprs_kept}
use Rattle.pf_syntax.proofs.NodeTableExtends.{expr_pattern_is_there}
use Rattle.pf_tokens.specs.declared.marks.TokenMark.TheVariants.{Bar, CloseBracket, Comma, OpenParenthesis, Semicolon}
use Rattle.pf_tokens.specs.NumberedTokens.{mark}
use Rattle.pf_tokens.specs.View.{numbered_token_of}
use Rattle.pf_grammar.specs.Grammar.{call_is_there, top}
use Rattle.pf_grammar.specs.Parse.{after_kind, clause, parse_expr, infix_ahead, match_ahead, pattern, readers}
use Rattle.pf_grammar.specs.Parse.{guard_tests}
use Rattle.pf_reader.specs.ListItems.{item_at}
use Rattle.pf_reader.specs.View.{names_of, tokens_in}
use Rattle.pf_reader.specs.Given.{clause_of, view_of_tests, expr_of, seen_expr_pattern, TestsAreThere}
use Rattle.pf_reader.proofs.Growth.{again}
use Rattle.pf_reader.proofs.Items.{fails_as, loop_ends, loop_goes, loop_fails, loop_out}
use Rattle.pf_reader.proofs.Kept.{all_tests_are_there, alternatives_in_row, clauses_alike, clauses_in_row, front_alike}
use Rattle.pf_reader.proofs.Kept.{pushed_is_there, tests_alike, exprs_alike, exprs_in_row}
use Rattle.pf_reader.proofs.Levels.{more_stops, more_out, more_goes, more_fails, more_deep, parse_expr_zero}
use Rattle.pf_reader.proofs.Levels.{parse_expr_fails, parse_expr_more, element_zero, element_plain, element_fails}
use Rattle.pf_reader.proofs.Levels.{element_match}
use Rattle.pf_reader.proofs.Parts.{branches_is, call_is, case_is, clause_is, guard_fails, guard_is, list_on, list_plain}
use Rattle.pf_reader.proofs.Parts.{tuple_is}
use Rattle.pf_reader.proofs.expr.+expr.Goals as goal

-- ---- read_items

pub read_items-returns-in_err-part-clause-given : goal.read_items-returns-in_err-part-clause-given
read_items-returns-in_err-part-clause-given t c =
    let p = err_from_is_err_and c.from_residual.result c.from_residual.ensures.1 in
    let n = length (tokens_in c.args.tokens) in
    let turn : n - c.loop.counter ≡ suc (n - (c.loop.counter + 1)) =
    omega (arith, length-map c.args.tokens.list.now numbered_token_of) in
    rw (p.1, p.2) (fails_as _ _ _ (λ f. loop_fails (mark Comma) _ _ _ _ _ _ turn c.loop.invariant.given f)
    c.in_err-part.ensures.given)

pub read_items-returns-in_default-clause-given : goal.read_items-returns-in_default-clause-given
read_items-returns-in_default-clause-given t c =
    let n = length (tokens_in c.args.tokens) in
    let b = c.loop.syntax.node_table in
    let d = c.read_item.new.syntax.node_table in
    let on = c.in_ok-part.ensures.grown.node_table in
    let turn : n - c.loop.counter ≡ suc (n - (c.loop.counter + 1)) =
    omega (arith, length-map c.args.tokens.list.now numbered_token_of) in
    let none : after_kind (mark Comma) (tokens_in c.in_ok-part.part.rest) ≡ None = search rules in
    let pushed : c.push.new.self.items ≡ c.loop.found.items ++ c.in_ok-part.part.expr ∷ [] = search rules in
    let same = exprs_alike b d on c.loop.found.items c.loop.invariant.is_there in
    loop_ends (mark Comma) (item_at (names_of c.args.context) c.args.item c.args.limit) (expr_of d)
    (expr_of b) c.loop.found.items c.push.new.self.items (c.in_ok-part.part.expr) _ _ _ _ _ same pushed turn
    c.loop.invariant.given c.in_ok-part.ensures.given none

pub read_items-returns-in_default-clause-is_there : goal.read_items-returns-in_default-clause-is_there
read_items-returns-in_default-clause-is_there t c =
    let b = c.loop.syntax.node_table in
    let d = c.read_item.new.syntax.node_table in
    let on = c.in_ok-part.ensures.grown.node_table in
    let pushed : c.push.new.self.items ≡ c.loop.found.items ++ c.in_ok-part.part.expr ∷ [] = search rules in
    let kept = all_exprs_are_there b d on c.loop.found.items c.loop.invariant.is_there in
    pushed_is_there (ExprRepresents d) c.loop.found.items c.push.new.self.items (c.in_ok-part.part.expr) pushed kept
    c.in_ok-part.ensures.is_there

pub read_items-loop-preserved : goal.read_items-loop-preserved
read_items-loop-preserved t c =
    let n = length (tokens_in c.args.tokens) in
    let b = c.loop.syntax.node_table in
    let d = c.read_item.new.syntax.node_table in
    let on = c.in_ok-part.ensures.grown.node_table in
    let turn : n - c.loop.counter ≡ suc (n - (c.loop.counter + 1)) =
    omega (arith, length-map c.args.tokens.list.now numbered_token_of) in
    let next : after_kind (mark Comma) (tokens_in c.in_ok-part.part.rest) ≡ Some (tokens_in c.in-Some.after) =
    search rules in
    let pushed : c.push.new.self.items ≡ c.loop.found.items ++ c.in_ok-part.part.expr ∷ [] = search rules in
    let same = exprs_alike b d on c.loop.found.items c.loop.invariant.is_there in
    let kept = all_exprs_are_there b d on c.loop.found.items c.loop.invariant.is_there in
    record {
      grown = again _ _ _ c.loop.invariant.grown c.in_ok-part.ensures.grown;
      is_there = pushed_is_there (ExprRepresents d) c.loop.found.items c.push.new.self.items
          (c.in_ok-part.part.expr) pushed
          kept c.in_ok-part.ensures.is_there;
      given = loop_goes (mark Comma) (item_at (names_of c.args.context) c.args.item c.args.limit) (expr_of d)
          (expr_of b) c.loop.found.items c.push.new.self.items (c.in_ok-part.part.expr) _ _ _ _ _ _ same pushed turn
          c.loop.invariant.given c.in_ok-part.ensures.given next;
    }

pub read_items-returns-clause-given : goal.read_items-returns-clause-given
read_items-returns-clause-given t c =
    let n = length (tokens_in c.args.tokens) in
    let out : n - c.loop.counter ≡ 0 = omega (arith, length-map c.args.tokens.list.now numbered_token_of) in
    loop_out (mark Comma) _ _ _ _ _ out c.loop.invariant.given

-- ---- read_guard

pub read_guard-returns-in_err-tests-clause-given : goal.read_guard-returns-in_err-tests-clause-given
read_guard-returns-in_err-tests-clause-given t c =
    let p = err_from_is_err_and c.from_residual.result c.from_residual.ensures.1 in
    let n = length (tokens_in c.args.tokens) in
    let turn : n - c.loop.counter ≡ suc (n - (c.loop.counter + 1)) =
    omega (arith, length-map c.args.tokens.list.now numbered_token_of) in
    rw (p.1, p.2) (fails_as _ _ _ (λ f. guard_fails _ _
    (loop_fails (mark Semicolon) _ _ _ _ _ _ turn c.loop.invariant.given f)) c.in_err-tests.ensures.given)

pub read_guard-returns-in_default-clause-given : goal.read_guard-returns-in_default-clause-given
read_guard-returns-in_default-clause-given t c =
    let n = length (tokens_in c.args.tokens) in
    let b = c.loop.syntax.node_table in
    let d = c.read_items.new.syntax.node_table in
    let on = c.in_ok-tests.ensures.grown.node_table in
    let turn : n - c.loop.counter ≡ suc (n - (c.loop.counter + 1)) =
    omega (arith, length-map c.args.tokens.list.now numbered_token_of) in
    let none : after_kind (mark Semicolon) (tokens_in c.in_ok-tests.after_it) ≡ None = search rules in
    let pushed : c.push.new.self.items ≡ c.loop.alternatives.items ++ record { tests = c.in_ok-tests.tests } ∷ [] =
    search rules in
    let same = tests_alike b d on c.loop.alternatives.items c.loop.invariant.is_there in
    guard_is _ _ _ _ _ (alternatives_in_row d c.push.new.self.items) (
    loop_ends (mark Semicolon) (guard_tests (parse_expr (names_of c.args.context) true c.args.limit top))
    (view_of_tests d) (view_of_tests b) c.loop.alternatives.items c.push.new.self.items
    (record { tests = c.in_ok-tests.tests }) _ _ _ _ _ same pushed turn c.loop.invariant.given
    c.in_ok-tests.ensures.given none)

pub read_guard-returns-in_default-clause-is_there : goal.read_guard-returns-in_default-clause-is_there
read_guard-returns-in_default-clause-is_there t c =
    let b = c.loop.syntax.node_table in
    let d = c.read_items.new.syntax.node_table in
    let on = c.in_ok-tests.ensures.grown.node_table in
    let pushed : c.push.new.self.items ≡ c.loop.alternatives.items ++ record { tests = c.in_ok-tests.tests } ∷ [] =
    search rules in
    let kept = all_tests_are_there b d on c.loop.alternatives.items c.loop.invariant.is_there in
    pushed_is_there (TestsAreThere d) c.loop.alternatives.items c.push.new.self.items
    (record { tests = c.in_ok-tests.tests }) pushed kept c.in_ok-tests.ensures.is_there

pub read_guard-loop-preserved : goal.read_guard-loop-preserved
read_guard-loop-preserved t c =
    let n = length (tokens_in c.args.tokens) in
    let b = c.loop.syntax.node_table in
    let d = c.read_items.new.syntax.node_table in
    let on = c.in_ok-tests.ensures.grown.node_table in
    let turn : n - c.loop.counter ≡ suc (n - (c.loop.counter + 1)) =
    omega (arith, length-map c.args.tokens.list.now numbered_token_of) in
    let next : after_kind (mark Semicolon) (tokens_in c.in_ok-tests.after_it) ≡ Some (tokens_in c.in-Some.after) =
    search rules in
    let pushed : c.push.new.self.items ≡ c.loop.alternatives.items ++ record { tests = c.in_ok-tests.tests } ∷ [] =
    search rules in
    let same = tests_alike b d on c.loop.alternatives.items c.loop.invariant.is_there in
    let kept = all_tests_are_there b d on c.loop.alternatives.items c.loop.invariant.is_there in
    record {
      grown = again _ _ _ c.loop.invariant.grown c.in_ok-tests.ensures.grown;
      is_there = pushed_is_there (TestsAreThere d) c.loop.alternatives.items c.push.new.self.items
          (record { tests = c.in_ok-tests.tests }) pushed kept c.in_ok-tests.ensures.is_there;
      given = loop_goes (mark Semicolon) (guard_tests (parse_expr (names_of c.args.context) true c.args.limit top))
          (view_of_tests d) (view_of_tests b) c.loop.alternatives.items c.push.new.self.items
          (record { tests = c.in_ok-tests.tests }) _ _ _ _ _ _ same pushed turn c.loop.invariant.given
          c.in_ok-tests.ensures.given next;
    }

pub read_guard-returns-clause-given : goal.read_guard-returns-clause-given
read_guard-returns-clause-given t c =
    let n = length (tokens_in c.args.tokens) in
    let out : n - c.loop.counter ≡ 0 = omega (arith, length-map c.args.tokens.list.now numbered_token_of) in
    guard_fails _ _ (loop_out (mark Semicolon) _ _ _ _ _ out c.loop.invariant.given)

-- ---- read_clauses

pub read_clauses-returns-in_err-branch-clause-given : goal.read_clauses-returns-in_err-branch-clause-given
read_clauses-returns-in_err-branch-clause-given t c =
    let p = err_from_is_err_and c.from_residual.result c.from_residual.ensures.1 in
    let n = length (tokens_in c.args.tokens) in
    let turn : n - c.loop.counter ≡ suc (n - (c.loop.counter + 1)) =
    omega (arith, length-map c.args.tokens.list.now numbered_token_of) in
    rw (p.1, p.2) (fails_as _ _ _ (λ f. loop_fails (mark Semicolon) _ _ _ _ _ _ turn c.loop.invariant.given f)
    c.in_err-branch.ensures.given)

pub read_clauses-returns-in_default-clause-given : goal.read_clauses-returns-in_default-clause-given
read_clauses-returns-in_default-clause-given t c =
    let n = length (tokens_in c.args.tokens) in
    let b = c.loop.syntax.node_table in
    let d = c.read_clause.new.syntax.node_table in
    let on = c.in_ok-branch.ensures.grown.node_table in
    let turn : n - c.loop.counter ≡ suc (n - (c.loop.counter + 1)) =
    omega (arith, length-map c.args.tokens.list.now numbered_token_of) in
    let none : after_kind (mark Semicolon) (tokens_in c.in_ok-branch.after_it) ≡ None = search rules in
    let pushed : c.push.new.self.items ≡ c.loop.found.items ++ c.in_ok-branch.branch ∷ [] = search rules in
    let same = clauses_alike b d on c.loop.found.items c.loop.invariant.is_there in
    loop_ends (mark Semicolon) (clause (readers (names_of c.args.context) c.args.limit) c.args.choice) (clause_of d)
    (clause_of b) c.loop.found.items c.push.new.self.items (c.in_ok-branch.branch) _ _ _ _ _ same pushed turn
    c.loop.invariant.given c.in_ok-branch.ensures.given none

pub read_clauses-returns-in_default-clause-is_there : goal.read_clauses-returns-in_default-clause-is_there
read_clauses-returns-in_default-clause-is_there t c =
    let b = c.loop.syntax.node_table in
    let d = c.read_clause.new.syntax.node_table in
    let on = c.in_ok-branch.ensures.grown.node_table in
    let pushed : c.push.new.self.items ≡ c.loop.found.items ++ c.in_ok-branch.branch ∷ [] = search rules in
    let kept = branches_are_there b d on c.loop.found.items c.loop.invariant.is_there in
    pushed_is_there (BranchRepresents d) c.loop.found.items c.push.new.self.items (c.in_ok-branch.branch) pushed kept
    c.in_ok-branch.ensures.is_there

pub read_clauses-loop-preserved : goal.read_clauses-loop-preserved
read_clauses-loop-preserved t c =
    let n = length (tokens_in c.args.tokens) in
    let b = c.loop.syntax.node_table in
    let d = c.read_clause.new.syntax.node_table in
    let on = c.in_ok-branch.ensures.grown.node_table in
    let turn : n - c.loop.counter ≡ suc (n - (c.loop.counter + 1)) =
    omega (arith, length-map c.args.tokens.list.now numbered_token_of) in
    let next : after_kind (mark Semicolon) (tokens_in c.in_ok-branch.after_it) ≡ Some (tokens_in c.in-Some.after) =
    search rules in
    let pushed : c.push.new.self.items ≡ c.loop.found.items ++ c.in_ok-branch.branch ∷ [] = search rules in
    let same = clauses_alike b d on c.loop.found.items c.loop.invariant.is_there in
    let kept = branches_are_there b d on c.loop.found.items c.loop.invariant.is_there in
    record {
      grown = again _ _ _ c.loop.invariant.grown c.in_ok-branch.ensures.grown;
      is_there = pushed_is_there (BranchRepresents d) c.loop.found.items c.push.new.self.items (c.in_ok-branch.branch)
          pushed kept c.in_ok-branch.ensures.is_there;
      given = loop_goes (mark Semicolon) (clause (readers (names_of c.args.context) c.args.limit) c.args.choice)
          (clause_of d) (clause_of b) c.loop.found.items c.push.new.self.items (c.in_ok-branch.branch) _ _ _ _ _ _ same
          pushed turn c.loop.invariant.given c.in_ok-branch.ensures.given next;
    }

pub read_clauses-returns-clause-given : goal.read_clauses-returns-clause-given
read_clauses-returns-clause-given t c =
    let n = length (tokens_in c.args.tokens) in
    let out : n - c.loop.counter ≡ 0 = omega (arith, length-map c.args.tokens.list.now numbered_token_of) in
    loop_out (mark Semicolon) _ _ _ _ _ out c.loop.invariant.given

-- ---- levels

pub read_level-returns-then-limit-eq0-clause-given : goal.read_level-returns-then-limit-eq0-clause-given
read_level-returns-then-limit-eq0-clause-given t c = parse_expr_zero _ _ _ _ _ (omega arith)

pub read_level-returns-in_err-left-clause-given : goal.read_level-returns-in_err-left-clause-given
read_level-returns-in_err-left-clause-given t c =
    let p = err_from_is_err_and c.from_residual.result c.from_residual.ensures.1 in
    rw (p.1, p.2) (fails_as _ _ _ (parse_expr_fails (names_of c.args.context) c.args.guard c.args.limit c.args.level
    (tokens_in c.args.tokens) (omega arith)) c.in_err-left.ensures.given)

pub read_level-loop-init : goal.read_level-loop-init
read_level-loop-init t c =
    let x = c.in_ok-left.left in
    record {
      grown = c.in_ok-left.ensures.grown;
      is_there = c.in_ok-left.ensures.is_there;
      given = parse_expr_more (names_of c.args.context) c.args.guard c.args.limit c.args.level
          (length x.rest.list.now - 0) (tokens_in c.args.tokens) (tokens_in x.rest) _ (omega arith)
          (omega (arith, length-map x.rest.list.now numbered_token_of)) c.in_ok-left.ensures.given;
    }

pub read_level-returns-in_default-clause-given : goal.read_level-returns-in_default-clause-given
read_level-returns-in_default-clause-given t c =
    let none : infix_ahead c.args.guard c.loop.floor c.args.level (tokens_in c.loop.left.rest) ≡ None = search rules in
    c.loop.invariant.given ∙ more_stops (parse_expr (names_of c.args.context) c.args.guard (c.args.limit - 1))
    c.args.guard c.args.limit c.args.level _ _ _ _ none

pub read_level-returns-clause-given : goal.read_level-returns-clause-given
read_level-returns-clause-given t c =
    let out : length c.in_ok-left.left.rest.list.now - c.loop.counter ≡ 0 = omega arith in
    c.loop.invariant.given ∙ more_out (parse_expr (names_of c.args.context) c.args.guard (c.args.limit - 1))
    c.args.guard c.args.limit c.args.level _ _ _ _ out

pub read_level-returns-in_err-right-clause-given : goal.read_level-returns-in_err-right-clause-given
read_level-returns-in_err-right-clause-given t c =
    let deeper = parse_expr (names_of c.args.context) c.args.guard (c.args.limit - 1) in
    let turn : length c.in_ok-left.left.rest.list.now - c.loop.counter
    ≡ suc (length c.in_ok-left.left.rest.list.now - (c.loop.counter + 1)) = omega arith in
    let left = expr_at c.loop.syntax.node_table c.loop.left.expr.0 in
    let ahead : infix_ahead c.args.guard c.loop.floor c.args.level (tokens_in c.loop.left.rest)
    ≡ Some (c.in-Some.infix, tokens_in c.in-Some.after) = search rules in
    let p = err_from_is_err_and c.from_residual-in_err-right.result c.from_residual-in_err-right.ensures.1 in
    rw (p.1, p.2) (fails_as _ _ _ (λ f. c.loop.invariant.given ∙ more_fails deeper c.args.guard c.args.limit
    c.args.level _ _ _ _ left left left _ _ _ refl turn ahead c.right_level-above.ensures f)
    c.in_err-right.ensures.given)

pub read_level-returns-in_err-left-2-clause-given : goal.read_level-returns-in_err-left-2-clause-given
read_level-returns-in_err-left-2-clause-given t c =
    let deeper = parse_expr (names_of c.args.context) c.args.guard (c.args.limit - 1) in
    let turn : length c.in_ok-left.left.rest.list.now - c.loop.counter
    ≡ suc (length c.in_ok-left.left.rest.list.now - (c.loop.counter + 1)) = omega arith in
    let ahead : infix_ahead c.args.guard c.loop.floor c.args.level (tokens_in c.loop.left.rest)
    ≡ Some (c.in-Some.infix, tokens_in c.in-Some.after) = search rules in
    let same = c.in_ok-right.ensures.grown.node_table.exprs c.loop.left.expr.0 c.loop.invariant.is_there in
    let meaning = c.joined-node.ensures.meaning c.read_level.new.syntax.node_table in
    let p = err_from_is_err_and c.from_residual-in_err-left-2.result c.from_residual-in_err-left-2.ensures.1 in
    rw (p.1, p.2) (fails_as _ _ _ (λ f. c.loop.invariant.given ∙ more_deep deeper c.args.guard c.args.limit c.args.level
    _ _ _ _ _ _ _ _ _ _ same turn ahead c.right_level-above.ensures _ _ c.in_ok-right.ensures.given meaning f)
    c.in_err-left-2.ensures.given)

pub read_level-loop-preserved : goal.read_level-loop-preserved
read_level-loop-preserved t c =
    let deeper = parse_expr (names_of c.args.context) c.args.guard (c.args.limit - 1) in
    let turn : length c.in_ok-left.left.rest.list.now - c.loop.counter
    ≡ suc (length c.in_ok-left.left.rest.list.now - (c.loop.counter + 1)) = omega arith in
    let ahead : infix_ahead c.args.guard c.loop.floor c.args.level (tokens_in c.loop.left.rest)
    ≡ Some (c.in-Some.infix, tokens_in c.in-Some.after) = search rules in
    let same = c.in_ok-right.ensures.grown.node_table.exprs c.loop.left.expr.0 c.loop.invariant.is_there in
    let meaning = c.joined-node.ensures.meaning c.read_level.new.syntax.node_table in
    record {
      grown = again _ _ _ c.loop.invariant.grown (again _ _ _ c.in_ok-right.ensures.grown c.in_ok-left-2.ensures.grown);
      is_there = c.in_ok-left-2.ensures.is_there;
      given = c.loop.invariant.given ∙ more_goes deeper c.args.guard c.args.limit c.args.level _ _ _ _ _ _ _ _ _ _ same
          turn ahead c.right_level-above.ensures _ _ c.in_ok-right.ensures.given meaning _ _ _
          c.in_ok-left-2.ensures.given c.level-floor.ensures;
    }

-- ---- elements

pub read_element-returns-then-limit-eq0-clause-given : goal.read_element-returns-then-limit-eq0-clause-given
read_element-returns-then-limit-eq0-clause-given t c = element_zero _ _ _ (omega arith)

pub read_element-returns-in-None-clause-given : goal.read_element-returns-in-None-clause-given
read_element-returns-in-None-clause-given t c =
    let n = names_of c.args.context in
    let none : match_ahead (pattern n (c.args.limit - 1)) (tokens_in c.args.tokens) ≡ None = search rules in
    rw (element_plain n c.args.limit (tokens_in c.args.tokens) (omega arith) none) c.read_level.ensures.given

pub read_element-returns-in_err-part-in-Some-clause-given : goal.read_element-returns-in_err-part-in-Some-clause-given
read_element-returns-in_err-part-in-Some-clause-given t c =
    let n = names_of c.args.context in
    let p = err_from_is_err_and c.from_residual-in_err-part-in-Some.result
    c.from_residual-in_err-part-in-Some.ensures.1 in
    let ahead : match_ahead (pattern n (c.args.limit - 1)) (tokens_in c.args.tokens)
    ≡ Some (seen_expr_pattern c.read_match_ahead.new.syntax.node_table c.in-Some.ahead) = search rules in
    rw (p.1, p.2) (fails_as _ _ _ (element_fails n c.args.limit (tokens_in c.args.tokens) _ _ (omega arith) ahead)
    c.in_err-part-in-Some.ensures.given)

pub read_element-returns-in_ok-part-in-Some-clause-given : goal.read_element-returns-in_ok-part-in-Some-clause-given
read_element-returns-in_ok-part-in-Some-clause-given t c =
    let n = names_of c.args.context in
    let ahead : match_ahead (pattern n (c.args.limit - 1)) (tokens_in c.args.tokens)
    ≡ Some (seen_expr_pattern c.read_match_ahead.new.syntax.node_table c.in-Some.ahead) = search rules in
    let is_there : ExprPatternRepresents c.read_match_ahead.new.syntax.node_table c.in-Some.ahead.expr_pattern =
    search rules in
    let same = c.in_ok-part-in-Some.ensures.grown.node_table.expr_patterns c.in-Some.ahead.expr_pattern.0 is_there in
    rw (element_match n c.args.limit (tokens_in c.args.tokens) _ _ _ _ _ same (omega arith) ahead
    c.in_ok-part-in-Some.ensures.given) c.put_within.ensures.given

-- ---- tuples and lists

pub read_marked-returns-in_ok-parts-in-OpenBrace-clause-given :
    goal.read_marked-returns-in_ok-parts-in-OpenBrace-clause-given
read_marked-returns-in_ok-parts-in-OpenBrace-clause-given t c =
    let row = exprs_in_row c.read_until.new.syntax.node_table c.in_ok-parts-in-OpenBrace.parts.items in
    rw (tuple_is (parse_expr (names_of c.args.context) c.args.guard c.args.limit top) c.args.first
    (tokens_in c.args.tokens) _ _ _ c.in-OpenBrace.is row c.in_ok-parts-in-OpenBrace.ensures.given)
    c.put-in-OpenBrace.ensures.given

pub read_list-returns-in_ok-rest-in-None-clause-given : goal.read_list-returns-in_ok-rest-in-None-clause-given
read_list-returns-in_ok-rest-in-None-clause-given t c =
    let ts = tokens_in c.args.tokens in
    let row = exprs_in_row c.read_items.new.syntax.node_table c.in_ok-parts.parts.items in
    let none : after_kind (mark CloseBracket) ts ≡ None = search rules in
    let bar : after_kind (mark Bar) (tokens_in c.in_ok-parts.rest) ≡ None = search rules in
    rw (list_plain (parse_expr (names_of c.args.context) c.args.guard c.args.limit top) ts _ _ _ _ row none
    c.in_ok-parts.ensures.given bar c.in_ok-rest-in-None.ensures) c.put-in-None.ensures.given

pub read_list-returns-in_ok-rest-in-Some-skip-clause-given : goal.read_list-returns-in_ok-rest-in-Some-skip-clause-given
read_list-returns-in_ok-rest-in-Some-skip-clause-given t c =
    let ts = tokens_in c.args.tokens in
    let b = c.read_items.new.syntax.node_table in
    let d = c.read_level.new.syntax.node_table in
    let es = c.in_ok-parts.parts.items in
    let row = exprs_kept b d c.in_ok-tail-in-Some-skip.ensures.grown.node_table es c.in_ok-parts.ensures.is_there
    ∙ exprs_in_row b es in
    let none : after_kind (mark CloseBracket) ts ≡ None = search rules in
    let bar : after_kind (mark Bar) (tokens_in c.in_ok-parts.rest) ≡ Some (tokens_in c.in-Some-skip.rest) =
    search rules in
    rw (list_on (parse_expr (names_of c.args.context) c.args.guard c.args.limit top) ts _ _ _ _ row none
    c.in_ok-parts.ensures.given _ _ _ bar c.in_ok-tail-in-Some-skip.ensures.given c.in_ok-rest-in-Some-skip.ensures)
    c.put-in-Some-skip.ensures.given

-- ---- calls

pub read_named-returns-clause-given : goal.read_named-returns-clause-given
read_named-returns-clause-given t c =
    let es = c.in_ok-arguments.arguments.items in
    let d = c.read_until.new.syntax.node_table in
    let opens : after_kind (mark OpenParenthesis) (tokens_in c.args.tokens) ≡ Some (tokens_in c.in-Some.rest) =
    search rules in
    let is_there : call_is_there (names_of c.args.context) c.args.guard c.args.ident.name.0 (length es) ≡ true =
    search rules in
    rw (call_is (names_of c.args.context) c.args.guard
    (parse_expr (names_of c.args.context) c.args.guard c.args.limit top) c.args.ident.name.0 c.args.ident.offset
    (length es) (tokens_in c.args.tokens) _ _ _ opens c.in_ok-arguments.ensures.given (length-map es (expr_of d)) _
    (exprs_in_row d es) is_there)
    c.put-2.ensures.given

-- ---- clauses

pub read_clause-returns-clause-given : goal.read_clause-returns-clause-given
read_clause-returns-clause-given t c =
    let b = c.read_front.new.syntax.node_table in
    let d = c.read_items.new.syntax.node_table in
    let same = front_alike b d c.in_ok-body.ensures.grown.node_table c.in_ok-front.front
    c.in_ok-front.ensures.is_there in
    clause_is (readers (names_of c.args.context) c.args.limit) c.args.choice (tokens_in c.args.tokens) _ _ _ _ _ _ same
    c.in_ok-front.ensures.given c.in_ok-rest.ensures c.in_ok-body.ensures.given

pub read_clause-returns-clause-is_there : goal.read_clause-returns-clause-is_there
read_clause-returns-clause-is_there t c =
    let b = c.read_front.new.syntax.node_table in
    let d = c.read_items.new.syntax.node_table in
    let on = c.in_ok-body.ensures.grown.node_table in
    let front = c.in_ok-front.ensures.is_there in (
      expr_pattern_is_there b d on c.in_ok-front.front.expr_pattern front.0,
      condition_is_there b d on c.in_ok-front.front.condition front.1,
      c.in_ok-body.ensures.is_there,
    )

pub read_branches-returns-clause-given : goal.read_branches-returns-clause-given
read_branches-returns-clause-given t c =
    branches_is (readers (names_of c.args.context) c.args.limit) c.args.choice (tokens_in c.args.tokens) _ _ _ _
    (clauses_in_row c.read_clauses.new.syntax.node_table c.in_ok-found.found.items) c.in_ok-found.ensures.given
    c.in_ok-rest.ensures

pub read_case-returns-clause-given : goal.read_case-returns-clause-given
read_case-returns-clause-given t c =
    let s = c.in_ok-subject.subject in
    let same = c.in_ok-found.ensures.grown.node_table.exprs s.expr.0 c.in_ok-subject.ensures.is_there in
    rw (case_is (readers (names_of c.args.context) c.args.limit)
    (parse_expr (names_of c.args.context) c.args.guard c.args.limit top) (tokens_in c.args.tokens) _ _ _ _ _ _ same
    c.in_ok-subject.ensures.given c.in_ok-rest.ensures c.in_ok-found.ensures.given)
    c.put.ensures.given
