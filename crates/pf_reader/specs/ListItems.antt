-- What is between commas: expressions, in a guard or not, or elements of a body.
use Rattle.std.specs.Prelude.{ℕ}
use Rattle.pf_syntax.specs.Expr.{Expr}
use Rattle.pf_grammar.specs.Grammar.{TokenNames, top}
use Rattle.pf_grammar.specs.Parse.{Parse, parse_expr, element}
use Rattle.pf_reader.specs.declared.expr.Item.{Item}
use Rattle.pf_reader.specs.declared.expr.Item.TheVariants.{Expression, Element}

abbrev pub item_at : TokenNames → Item → ℕ → Parse Expr
item_at n (Expression guard) limit = parse_expr n guard limit top
item_at n Element limit = element n limit
