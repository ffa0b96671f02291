use Rattle.std.proofs.Common.{◌≡◌, ◌-◌, length}
use Rattle.pf_grammar.specs.Parse.{exports}
use Rattle.pf_reader.specs.View.{names_of, tokens_in}
use Rattle.pf_reader.specs.Given.{with_front}
use Rattle.pf_reader.proofs.export.read_exports.Given as goal

-- the entries so far, and what is left, give what the whole gives
abbrev pub invariant-loop : goal.invariant-loop
invariant-loop l = record {
  given : with_front l.fn.syntax.exports (exports (names_of l.fn.context) (length (tokens_in l.tokens))
      (tokens_in l.tokens))
      ≡ with_front l.syntax.exports (exports (names_of l.fn.context) (length (tokens_in l.tokens) - l.counter)
      (tokens_in l.rest));
  name : l.syntax.name ≡ l.fn.syntax.name;
  functions : l.syntax.functions ≡ l.fn.syntax.functions;
}
