-- A module of the surface syntax, without its table of nodes.
use Rattle.std.specs.Prelude.{ℕ, List}
use Rattle.pf_syntax.specs.Expr.{Condition, no_exprs, no_tests, tests}
use Rattle.pf_syntax.specs.SyntaxTree.{Export, Head, ExprArena}

-- the number of its name, its exports in order, and its functions, each as its clauses
pub record Tree : Type 0 where
  pub name : ℕ
  pub exports : List Export
  pub functions : List (List Head)

-- a syntax tree without its table of nodes
abbrev pub tree_of : ExprArena → Tree
tree_of w = record { name = w.name; exports = w.exports; functions = w.functions }

-- the guard of a clause with no `when`: one alternative with no test
abbrev pub unguarded : Condition
unguarded = tests no_exprs no_tests
