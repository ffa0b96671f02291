-- What the fields of a syntax tree stand for, and what is true of them.
use Rattle.std.specs.Prelude.{[], map, fold}
use Rattle.std.specs.List.{All}
use Rattle.pf_syntax.specs.ExprPattern.{expr_pattern_size, expr_pattern_depth}
use Rattle.pf_syntax.specs.Expr.{expr_size, expr_depth}
use Rattle.pf_syntax.specs.Measure.{IsMeasure}
use Rattle.pf_syntax.specs.SyntaxTree.{NodeTable, ExprArena}
use Rattle.pf_syntax.specs.SyntaxTreeOver.{expr_pattern_over, expr_over, heads_over, export_of, with_expr_pattern}
use Rattle.pf_syntax.specs.SyntaxTreeOver.{with_expr, ExprPatternPartsAreThere, ExprPartsAreThere, HeadsAreThere}
use Rattle.pf_syntax.specs.Within.{InTurn}
use Rattle.pf_syntax.specs.declared.syntax_tree.ExprPatternEntry.{ExprPatternEntry}
use Rattle.pf_syntax.specs.declared.syntax_tree.ExprEntry.{ExprEntry}
use Rattle.pf_syntax.specs.declared.syntax_tree.SyntaxTree.TheInside.{Inside}

-- the table of nodes with one more entry
abbrev pub expr_pattern_entered : NodeTable → ExprPatternEntry → NodeTable
expr_pattern_entered b e = with_expr_pattern b e.node

abbrev pub expr_entered : NodeTable → ExprEntry → NodeTable
expr_entered b e = with_expr b e.node

-- the parts of an entry come before it, and its measure is that of its tree
abbrev pub ExprPatternIsSound : NodeTable → ExprPatternEntry → Type 0
ExprPatternIsSound b e = ExprPatternPartsAreThere b e.node × IsMeasure e.measure
    (expr_pattern_size (expr_pattern_over b e.node)) (expr_pattern_depth (expr_pattern_over b e.node))

abbrev pub ExprIsSound : NodeTable → ExprEntry → Type 0
ExprIsSound b e = ExprPartsAreThere b e.node × IsMeasure e.measure (expr_size (expr_over b e.node))
    (expr_depth (expr_over b e.node))

-- the table of nodes with nothing in it
abbrev pub no_node_table : NodeTable
no_node_table = record { expr_patterns = []; exprs = [] }

-- the table of nodes of the patterns alone, and then with the expressions, from left to right
abbrev pub expr_patterns_of : Inside → NodeTable
expr_patterns_of a = fold expr_pattern_entered no_node_table a.expr_patterns.items

abbrev pub node_table_of : Inside → NodeTable
node_table_of a = fold expr_entered (expr_patterns_of a) a.exprs.items

-- the module that the fields stand for
abbrev pub written_of : Inside → ExprArena
written_of a = record {
  name = a.name.0;
  exports = map export_of a.exports.items;
  node_table = node_table_of a;
  functions = map (heads_over (node_table_of a)) a.functions.items;
}

-- parts come before what they are part of, and each measure is right
pub record Sound (a : Inside) : Type 0 where
  pub expr_patterns : InTurn ExprPatternIsSound expr_pattern_entered no_node_table a.expr_patterns.items
  pub exprs : InTurn ExprIsSound expr_entered (expr_patterns_of a) a.exprs.items
  pub functions : All (HeadsAreThere (node_table_of a)) a.functions.items
