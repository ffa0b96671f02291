-- What the names and the tokens that the code passes on stand for.
use Rattle.std.specs.Prelude.{List}
use Rattle.pf_reader.specs.declared.token.ReadingContext.{ReadingContext}
use Rattle.pf_reader.specs.declared.token.Tokens.{Tokens}
use Rattle.pf_grammar.specs.Grammar.{TokenNames}
use Rattle.pf_tokens.specs.NumberedTokens.{NumberedToken}
use Rattle.pf_tokens.specs.View.{token_list}

abbrev pub names_of : ReadingContext → TokenNames
names_of c = record { atoms = c.atoms.now; own = c.own.0 }

abbrev pub tokens_in : Tokens → List NumberedToken
tokens_in ts = token_list ts.list.now
