-- What the table of a module's own functions knows.
use Rattle.std.specs.Prelude.{◌≡◌, ℕ, List, nat_eq, ◌&&◌, Bool}
use Rattle.std.specs.declared.cmp.Ordering.{Ordering}
use Rattle.std.specs.Ordering.{nat_cmp, ordering_then}
use Rattle.std.specs.BTreeMap.{get}
use Rattle.pf_syntax.specs.SyntaxTree.{Head}
use Rattle.pf_lower.specs.declared.function_table.FunctionTable.{FunctionTable}
use Rattle.pf_rules.specs.Static.{own_in}

-- two names with numbers of arguments are the same
abbrev pub same_key : ℕ × ℕ → ℕ × ℕ → Bool
same_key a b = nat_eq a.0 b.0 && nat_eq a.1 b.1

-- names with numbers of arguments, in the order of the names and then of the numbers
abbrev pub key_order : ℕ × ℕ → ℕ × ℕ → Ordering
key_order a b = ordering_then (nat_cmp a.0 b.0) (nat_cmp a.1 b.1)

-- the number under each name and number of arguments is that of the first such function
abbrev pub Knows : FunctionTable → List (List Head) → Type 0
Knows own fs = (f arity : ℕ) → get key_order own.numbers (f, arity) ≡ own_in fs f arity
