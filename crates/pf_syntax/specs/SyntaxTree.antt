-- The syntax tree of a module, as contracts see it.
use Rattle.std.specs.Prelude.{ℕ, List, [], slice_index_or}
use Rattle.pf_syntax.specs.ExprPattern.{ExprPattern, ExprPatterns, anything}
use Rattle.pf_syntax.specs.Expr.{Expr, Exprs, Condition, list, no_exprs}

-- an entry of an export list: a name, a number of arguments, and the offset of the entry
pub record Export : Type 0 where
  pub name : ℕ
  pub arity : ℕ
  pub offset : ℕ

-- a clause of a function: the name of its head and its offset, the patterns of its arguments, its guard and its body
pub record Head : Type 0 where
  pub name : ℕ
  pub offset : ℕ
  pub parameters : ExprPatterns
  pub condition : Condition
  pub body : Exprs

-- what the numbers in nodes stand for
pub record NodeTable : Type 0 where
  pub expr_patterns : List ExprPattern
  pub exprs : List Expr

-- a module: its name, its exports, its functions, each as its clauses, and the table of nodes
pub record ExprArena : Type 0 where
  pub name : ℕ
  pub exports : List Export
  pub node_table : NodeTable
  pub functions : List (List Head)

-- the pattern and the expression of a number: `_` and `[]` where there is none
abbrev pub expr_pattern_at : NodeTable → ℕ → ExprPattern
expr_pattern_at b i = slice_index_or b.expr_patterns i anything

abbrev pub expr_at : NodeTable → ℕ → Expr
expr_at b i = slice_index_or b.exprs i (list no_exprs)

-- a module with nothing in it yet
abbrev pub empty_tree : ℕ → ExprArena
empty_tree name = record {
  name = name;
  exports = [];
  node_table = record { expr_patterns = []; exprs = [] };
  functions = [];
}
