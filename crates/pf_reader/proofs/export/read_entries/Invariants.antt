use Rattle.std.proofs.Common.{◌≡◌, ◌-◌, length}
use Rattle.std.specs.Prelude.{map}
use Rattle.pf_syntax.specs.SyntaxTreeOver.{export_of}
use Rattle.pf_tokens.specs.declared.marks.TokenMark.TheVariants.{Comma}
use Rattle.pf_tokens.specs.NumberedTokens.{mark}
use Rattle.pf_grammar.specs.Parse.{entry, items}
use Rattle.pf_reader.specs.View.{names_of, tokens_in}
use Rattle.pf_reader.specs.Given.{with_front}
use Rattle.pf_reader.proofs.export.read_entries.Given as goal

-- the entries so far, and what is left, give what the whole gives
abbrev pub invariant-loop : goal.invariant-loop
invariant-loop l =
    items (mark Comma) (entry (names_of l.fn.context)) (length (tokens_in l.tokens)) (tokens_in l.tokens)
    ≡ with_front (map export_of l.found.items)
    (items (mark Comma) (entry (names_of l.fn.context)) (length (tokens_in l.tokens) - l.counter)
    (tokens_in l.rest))
