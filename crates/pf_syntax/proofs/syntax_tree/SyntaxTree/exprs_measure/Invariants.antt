use Rattle.std.proofs.Common.{◌≡◌, ◌≤◌, ◌+◌, drop}
use Rattle.std.specs.Prelude.{max}
use Rattle.pf_syntax.specs.Measure.{capped}
use Rattle.pf_syntax.specs.Expr.{exprs_size, exprs_depth}
use Rattle.pf_syntax.specs.SyntaxTreeOver.{exprs_at}
use Rattle.pf_syntax.proofs.syntax_tree.SyntaxTree.exprs_measure.Given as goal

-- what was measured and what is left are the whole
abbrev pub invariant-loop-part : goal.invariant-loop-part
invariant-loop-part l = record {
  size_is : capped (l.total.size + exprs_size (exprs_at l.self.node_table (drop l.part-index l.parts)))
      ≡ capped (exprs_size (exprs_at l.self.node_table l.parts));
  depth_is : capped (max l.total.depth (exprs_depth (exprs_at l.self.node_table (drop l.part-index l.parts))))
      ≡ capped (exprs_depth (exprs_at l.self.node_table l.parts));
  small : l.total.size ≤ 4294967295;
  shallow : l.total.depth ≤ 4294967295;
}
