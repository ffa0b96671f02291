use Rattle.std.proofs.Common.{◌≡◌, ◌-◌, length}
use Rattle.pf_grammar.specs.Parse.{functions}
use Rattle.pf_reader.specs.View.{names_of, tokens_in}
use Rattle.pf_reader.specs.Given.{with_first}
use Rattle.pf_reader.proofs.function.read_functions.Given as goal

-- the functions so far, and what is left, give what the whole gives
abbrev pub invariant-loop : goal.invariant-loop
invariant-loop l = record {
  given : with_first l.fn.syntax.functions (functions (names_of l.fn.context) (length (tokens_in l.tokens))
      (tokens_in l.tokens))
      ≡ with_first l.syntax.functions (functions (names_of l.fn.context) (length (tokens_in l.tokens) - l.counter)
      (tokens_in l.rest));
  name : l.syntax.name ≡ l.fn.syntax.name;
  exports : l.syntax.exports ≡ l.fn.syntax.exports;
}
