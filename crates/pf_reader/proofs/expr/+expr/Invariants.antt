use Rattle.std.proofs.Common.{◌≡◌, ◌-◌, ◌*◌, ◌+◌, length, true}
use Rattle.std.specs.Prelude.{map}
use Rattle.std.specs.List.{All}
use Rattle.pf_syntax.specs.SyntaxTree.{expr_at}
use Rattle.pf_syntax.specs.SyntaxTreeOver.{BranchRepresents, ExprRepresents}
use Rattle.pf_tokens.specs.declared.marks.TokenMark.TheVariants.{Comma, Semicolon}
use Rattle.pf_tokens.specs.NumberedTokens.{mark}
use Rattle.pf_grammar.specs.Grammar.{top}
use Rattle.pf_reader.specs.ListItems.{item_at}
use Rattle.pf_grammar.specs.Parse.{clause, parse_expr, items, more, readers, guard_tests}
use Rattle.pf_reader.specs.View.{names_of, tokens_in}
use Rattle.pf_reader.specs.Given.{clause_of, view_of_tests, expr_of, with_front, Grown, TestsAreThere}
use Rattle.pf_reader.proofs.expr.+expr.Given as goal

abbrev pub decreases-read_prim : goal.decreases-read_prim
decreases-read_prim l = 32 * l.limit

abbrev pub decreases-read_unary : goal.decreases-read_unary
decreases-read_unary l = 32 * l.limit + 1

abbrev pub decreases-read_level : goal.decreases-read_level
decreases-read_level l = 32 * l.limit + 2

abbrev pub decreases-read_element : goal.decreases-read_element
decreases-read_element l = 32 * l.limit + 3

abbrev pub decreases-read_item : goal.decreases-read_item
decreases-read_item l = 32 * l.limit + 4

abbrev pub decreases-read_items : goal.decreases-read_items
decreases-read_items l = 32 * l.limit + 5

abbrev pub decreases-read_until : goal.decreases-read_until
decreases-read_until l = 32 * l.limit + 6

abbrev pub decreases-read_list : goal.decreases-read_list
decreases-read_list l = 32 * l.limit + 7

abbrev pub decreases-read_marked : goal.decreases-read_marked
decreases-read_marked l = 32 * l.limit + 8

abbrev pub decreases-read_named : goal.decreases-read_named
decreases-read_named l = 32 * l.limit + 8

abbrev pub decreases-read_guard : goal.decreases-read_guard
decreases-read_guard l = 32 * l.limit + 6

abbrev pub decreases-read_when : goal.decreases-read_when
decreases-read_when l = 32 * l.limit + 7

abbrev pub decreases-read_front : goal.decreases-read_front
decreases-read_front l = 32 * l.limit + 8

abbrev pub decreases-read_clause : goal.decreases-read_clause
decreases-read_clause l = 32 * l.limit + 9

abbrev pub decreases-read_clauses : goal.decreases-read_clauses
decreases-read_clauses l = 32 * l.limit + 10

abbrev pub decreases-read_branches : goal.decreases-read_branches
decreases-read_branches l = 32 * l.limit + 11

abbrev pub decreases-read_case : goal.decreases-read_case
decreases-read_case l = 32 * l.limit + 12

abbrev pub decreases-read_worded : goal.decreases-read_worded
decreases-read_worded l = 32 * l.limit + 13

-- the operand so far, and what is left, give what the whole gives
abbrev pub invariant-read_level-loop : goal.invariant-read_level-loop
invariant-read_level-loop l = record {
  grown : Grown l.fn.syntax l.syntax;
  is_there : ExprRepresents l.syntax.node_table l.left.expr;
  given : parse_expr (names_of l.fn.context) l.guard l.limit l.level (tokens_in l.tokens)
      ≡ more (parse_expr (names_of l.fn.context) l.guard (l.limit - 1)) l.guard l.limit l.level (l.turns - l.counter)
      l.floor (expr_at l.syntax.node_table l.left.expr.0) (tokens_in l.left.rest);
}

-- the items so far, and what is left, give what the whole gives
abbrev pub invariant-read_items-loop : goal.invariant-read_items-loop
invariant-read_items-loop l = record {
  grown : Grown l.fn.syntax l.syntax;
  is_there : All (ExprRepresents l.syntax.node_table) l.found.items;
  given : items (mark Comma) (item_at (names_of l.fn.context) l.item l.limit) (length (tokens_in l.tokens))
      (tokens_in l.tokens)
      ≡ with_front (map (expr_of l.syntax.node_table) l.found.items)
      (items (mark Comma) (item_at (names_of l.fn.context) l.item l.limit) (length (tokens_in l.tokens) - l.counter)
      (tokens_in l.rest));
}

-- the alternatives so far, and what is left, give what the whole gives
abbrev pub invariant-read_guard-loop : goal.invariant-read_guard-loop
invariant-read_guard-loop l = record {
  grown : Grown l.fn.syntax l.syntax;
  is_there : All (TestsAreThere l.syntax.node_table) l.alternatives.items;
  given : items (mark Semicolon) (guard_tests (parse_expr (names_of l.fn.context) true l.limit top))
      (length (tokens_in l.tokens)) (tokens_in l.tokens)
      ≡ with_front (map (view_of_tests l.syntax.node_table) l.alternatives.items)
      (items (mark Semicolon) (guard_tests (parse_expr (names_of l.fn.context) true l.limit top))
      (length (tokens_in l.tokens) - l.counter) (tokens_in l.rest));
}

-- the clauses so far, and what is left, give what the whole gives
abbrev pub invariant-read_clauses-loop : goal.invariant-read_clauses-loop
invariant-read_clauses-loop l = record {
  grown : Grown l.fn.syntax l.syntax;
  is_there : All (BranchRepresents l.syntax.node_table) l.found.items;
  given : items (mark Semicolon) (clause (readers (names_of l.fn.context) l.limit) l.choice)
      (length (tokens_in l.tokens)) (tokens_in l.tokens)
      ≡ with_front (map (clause_of l.syntax.node_table) l.found.items)
      (items (mark Semicolon) (clause (readers (names_of l.fn.context) l.limit) l.choice)
      (length (tokens_in l.tokens) - l.counter) (tokens_in l.rest));
}
