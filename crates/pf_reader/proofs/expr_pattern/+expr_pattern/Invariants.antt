use Rattle.std.proofs.Common.{◌≡◌, ◌-◌, ◌*◌, ◌+◌, length}
use Rattle.std.specs.Prelude.{map}
use Rattle.std.specs.List.{All}
use Rattle.pf_syntax.specs.SyntaxTreeOver.{ExprPatternRepresents}
use Rattle.pf_tokens.specs.declared.marks.TokenMark.TheVariants.{Comma}
use Rattle.pf_tokens.specs.NumberedTokens.{mark}
use Rattle.pf_grammar.specs.Parse.{items, pattern}
use Rattle.pf_reader.specs.View.{names_of, tokens_in}
use Rattle.pf_reader.specs.Given.{expr_pattern_of, with_front, Grown}
use Rattle.pf_reader.proofs.expr_pattern.+expr_pattern.Given as goal

abbrev pub decreases-read_expr_pattern : goal.decreases-read_expr_pattern
decreases-read_expr_pattern l = 8 * l.limit

abbrev pub decreases-read_expr_pattern_items : goal.decreases-read_expr_pattern_items
decreases-read_expr_pattern_items l = 8 * l.limit + 1

abbrev pub decreases-read_expr_patterns : goal.decreases-read_expr_patterns
decreases-read_expr_patterns l = 8 * l.limit + 2

abbrev pub decreases-read_list : goal.decreases-read_list
decreases-read_list l = 8 * l.limit + 3

abbrev pub decreases-read_marked : goal.decreases-read_marked
decreases-read_marked l = 8 * l.limit + 4

abbrev pub decreases-read_begun : goal.decreases-read_begun
decreases-read_begun l = 8 * l.limit + 5

-- the patterns so far, and what is left, give what the whole gives
abbrev pub invariant-read_expr_pattern_items-loop : goal.invariant-read_expr_pattern_items-loop
invariant-read_expr_pattern_items-loop l = record {
  grown : Grown l.fn.syntax l.syntax;
  is_there : All (ExprPatternRepresents l.syntax.node_table) l.found.items;
  given : items (mark Comma) (pattern (names_of l.fn.context) l.limit) (length (tokens_in l.tokens))
      (tokens_in l.tokens)
      ≡ with_front (map (expr_pattern_of l.syntax.node_table) l.found.items)
      (items (mark Comma) (pattern (names_of l.fn.context) l.limit) (length (tokens_in l.tokens) - l.counter)
      (tokens_in l.rest));
}
