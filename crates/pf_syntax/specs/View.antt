-- What the fields of a module stand for, and what is true of them.
use Rattle.std.specs.Prelude.{◌≤◌, ◌^◌, [], length, map, fold}
use Rattle.std.specs.List.{All}
use Rattle.pf_terms.specs.Term.{value_of}
use Rattle.pf_syntax.specs.Module.{Tables, Checked}
use Rattle.pf_syntax.specs.Over.{with_pattern, with_tree, function_over}
use Rattle.pf_syntax.specs.Within.{PatternPartsAreThere, PartsAreThere, FunctionRepresents, InTurn}
use Rattle.pf_syntax.specs.declared.module.Module.TheInside.{Inside}

-- the literals alone, and then with the patterns and with the trees of the nodes, from left to right
abbrev pub literals_of : Inside → Tables
literals_of a = record { literals = map value_of a.literals.items; patterns = []; trees = [] }

abbrev pub patterns_of : Inside → Tables
patterns_of a = fold with_pattern (literals_of a) a.patterns.items

abbrev pub tables_of : Inside → Tables
tables_of a = fold with_tree (patterns_of a) a.nodes.items

-- the module that the fields stand for
abbrev pub checked_of : Inside → Checked
checked_of a = record {
  name = a.name.0;
  atoms = a.atoms;
  tables = tables_of a;
  functions =
      map (function_over (tables_of a)) a.functions.items;
}

-- parts come before what they are part of
pub record Sound (a : Inside) : Type 0 where
  pub patterns : InTurn PatternPartsAreThere with_pattern (literals_of a) a.patterns.items
  pub nodes : InTurn PartsAreThere with_tree (patterns_of a) a.nodes.items
  pub functions : All (FunctionRepresents (tables_of a)) a.functions.items
  pub count : length a.functions.items ≤ 2 ^ 32
