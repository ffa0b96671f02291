-- A checked module as contracts see it.
use Rattle.std.specs.Prelude.{ℕ, Bool, List, [], Option, refl, slice_index_or, position, ◌&&◌, ◌==◌}
use Rattle.std.specs.Coded.{Coded, code_by, coded×, coded_ℕ, coded_bool, coded_list}
use Rattle.pf_terms.specs.Value.{Value, list, none}
use Rattle.pf_terms.specs.Encoding.{coded_value}
use Rattle.pf_syntax.specs.Pattern.{Pattern, any}
use Rattle.pf_syntax.specs.Tree.{Tree, lit, Function, FunctionClause, Program}
use Rattle.pf_syntax.specs.Encoding.{coded_pattern, coded_patterns, coded_tree, coded_guard}

-- what the numbers in a module's nodes stand for
pub record Tables : Type 0 where
  pub literals : List Value
  pub patterns : List Pattern
  pub trees : List Tree

-- a checked module: its name, by its number among its atoms, the names of its atoms, its tables and its functions
pub record Checked : Type 0 where
  pub name : ℕ
  pub atoms : List (List ℕ)
  pub tables : Tables
  pub functions : Program

-- a module with nothing in it yet
abbrev pub empty : ℕ → List (List ℕ) → Checked
empty name atoms = record {
  name = name;
  atoms = atoms;
  tables = record { literals = []; patterns = []; trees = [] };
  functions = [];
}

-- the literal, the pattern and the tree of a number: `[]`, `_` and `[]` where there is none
abbrev pub literal_at : Tables → ℕ → Value
literal_at t i = slice_index_or t.literals i (list none)

abbrev pub pattern_at : Tables → ℕ → Pattern
pattern_at t i = slice_index_or t.patterns i any

abbrev pub tree_at : Tables → ℕ → Tree
tree_at t i = slice_index_or t.trees i (lit (list none))

-- whether a function has this name and takes this number of arguments
abbrev pub is_named : ℕ → ℕ → Function → Bool
is_named name arity f = (f.name == name) && (f.arity == arity)

-- the number of the first function of this name and number of arguments
abbrev pub first_named : ℕ → ℕ → Program → Option ℕ
first_named name arity fs = position (is_named name arity) fs

-- ---- how the logic stores these

abbrev pub coded_function_clause : Coded FunctionClause
coded_function_clause =
    code_by _ (coded× coded_patterns (coded× coded_guard coded_tree))
    (λ c. (c.parameters, (c.guard, c.body))) (λ p. record { parameters = p.0; guard = p.1.0; body = p.1.1 }) (λ _. refl)

abbrev pub coded_function : Coded Function
coded_function =
    code_by _ (coded× (coded× coded_ℕ coded_ℕ) (coded× coded_bool (coded_list coded_function_clause)))
    (λ f. ((f.name, f.arity), (f.exported, f.clauses)))
    (λ p. record { name = p.0.0; arity = p.0.1; exported = p.1.0; clauses = p.1.1 }) (λ _. refl)

abbrev pub coded_tables : Coded Tables
coded_tables =
    code_by _ (coded× (coded_list coded_value) (coded× (coded_list coded_pattern) (coded_list coded_tree)))
    (λ t. (t.literals, (t.patterns, t.trees))) (λ p. record { literals = p.0; patterns = p.1.0; trees = p.1.1 })
    (λ _. refl)

abbrev pub coded_checked : Coded Checked
coded_checked =
    code_by _ (coded× (coded× coded_ℕ (coded_list (coded_list coded_ℕ)))
    (coded× coded_tables (coded_list coded_function)))
    (λ m. ((m.name, m.atoms), (m.tables, m.functions)))
    (λ p. record { name = p.0.0; atoms = p.0.1; tables = p.1.0; functions = p.1.1 }) (λ _. refl)
