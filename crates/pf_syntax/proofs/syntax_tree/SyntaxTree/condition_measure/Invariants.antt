use Rattle.std.proofs.Common.{◌≡◌, ◌≤◌, ◌+◌, drop}
use Rattle.std.specs.Prelude.{max}
use Rattle.pf_syntax.specs.Measure.{capped}
use Rattle.pf_syntax.specs.Expr.{condition_size, condition_depth}
use Rattle.pf_syntax.specs.SyntaxTreeOver.{alternatives_at}
use Rattle.pf_syntax.proofs.syntax_tree.SyntaxTree.condition_measure.Given as goal

-- what was measured and what is left are the whole
abbrev pub invariant-loop-alternative : goal.invariant-loop-alternative
invariant-loop-alternative l = record {
  size_is : capped (l.total.size + condition_size
      (alternatives_at l.self.node_table (drop l.alternative-index l.condition.alternatives.items)))
      ≡ capped (condition_size (alternatives_at l.self.node_table l.condition.alternatives.items));
  depth_is : capped (max l.total.depth (condition_depth
      (alternatives_at l.self.node_table (drop l.alternative-index l.condition.alternatives.items))))
      ≡ capped (condition_depth (alternatives_at l.self.node_table l.condition.alternatives.items));
  small : l.total.size ≤ 4294967295;
  shallow : l.total.depth ≤ 4294967295;
}
