-- Syntax trees that grow.
use Rattle.std.proofs.Common.{◌≡◌, refl, ◌∙◌}
use Rattle.pf_syntax.specs.SyntaxTree.{NodeTable, ExprArena}
use Rattle.pf_syntax.specs.SyntaxTreeOver.{expr_pattern_over, with_expr_pattern, with_expr, with_node_table}
use Rattle.pf_syntax.specs.declared.expr.ExprPatternNode.{ExprPatternNode}
use Rattle.pf_syntax.specs.declared.expr.ExprNode.{ExprNode}
use Rattle.pf_syntax.proofs.NodeTableExtends.{GoesOn, on_by_expr_pattern, on_by_expr, on_by_nothing, on_and_on}
use Rattle.pf_reader.specs.Given.{Grown}

pub grown_not : (a : ExprArena) → Grown a a
grown_not a = record { name = refl; exports = refl; functions = refl; node_table = on_by_nothing a.node_table }

pub same_grown : (a b : ExprArena) → b ≡ a → Grown a b
same_grown a b e = rw e (grown_not a)

pub grown_by : (a b : ExprArena) (c : NodeTable) → b ≡ with_node_table a c → GoesOn a.node_table c → Grown a b
grown_by a b c e on = rw e (record { name = refl; exports = refl; functions = refl; node_table = on })

pub grown_by_expr_pattern : (a b : ExprArena) (n : ExprPatternNode)
    → b ≡ with_node_table a (with_expr_pattern a.node_table n) → Grown a b
grown_by_expr_pattern a b n e = grown_by a b (with_expr_pattern a.node_table n) e
    (on_by_expr_pattern a.node_table (expr_pattern_over a.node_table n))

pub grown_by_expr : (a b : ExprArena) (n : ExprNode) → b ≡ with_node_table a (with_expr a.node_table n) → Grown a b
grown_by_expr a b n e = grown_by a b (with_expr a.node_table n) e (on_by_expr a.node_table n)

pub again : (a b c : ExprArena) → Grown a b → Grown b c → Grown a c
again a b c g h = record {
  name = h.name ∙ g.name;
  exports = h.exports ∙ g.exports;
  functions = h.functions ∙ g.functions;
  node_table = on_and_on a.node_table b.node_table c.node_table g.node_table h.node_table;
}
