use Rattle.std.proofs.Common.{◌≡◌, ◌-◌, length}
use Rattle.std.specs.Prelude.{map}
use Rattle.std.specs.List.{All}
use Rattle.pf_syntax.specs.SyntaxTreeOver.{head_over, HeadRepresents}
use Rattle.pf_tokens.specs.declared.marks.TokenMark.TheVariants.{Semicolon}
use Rattle.pf_tokens.specs.NumberedTokens.{mark}
use Rattle.pf_grammar.specs.Parse.{head_parse, items}
use Rattle.pf_reader.specs.View.{names_of, tokens_in}
use Rattle.pf_reader.specs.Given.{with_front, Grown}
use Rattle.pf_reader.proofs.function.read_heads.Given as goal

-- the clauses so far, and what is left, give what the whole gives
abbrev pub invariant-loop : goal.invariant-loop
invariant-loop l = record {
  grown : Grown l.fn.syntax l.syntax;
  is_there : All (HeadRepresents l.syntax.node_table) l.found.items;
  given : items (mark Semicolon) (head_parse (names_of l.fn.context)) (length (tokens_in l.tokens)) (tokens_in l.tokens)
      ≡ with_front (map (head_over l.syntax.node_table) l.found.items)
      (items (mark Semicolon) (head_parse (names_of l.fn.context)) (length (tokens_in l.tokens) - l.counter)
      (tokens_in l.rest));
}
