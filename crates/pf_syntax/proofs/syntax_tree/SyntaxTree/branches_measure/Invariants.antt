use Rattle.std.proofs.Common.{◌≡◌, ◌≤◌, ◌+◌, drop}
use Rattle.std.specs.Prelude.{max}
use Rattle.pf_syntax.specs.Measure.{capped}
use Rattle.pf_syntax.specs.Expr.{branches_size, branches_depth}
use Rattle.pf_syntax.specs.SyntaxTreeOver.{branches_over}
use Rattle.pf_syntax.proofs.syntax_tree.SyntaxTree.branches_measure.Given as goal

-- what was measured and what is left are the whole
abbrev pub invariant-loop-branch : goal.invariant-loop-branch
invariant-loop-branch l = record {
  size_is : capped (l.total.size + branches_size (branches_over l.self.node_table (drop l.branch-index l.branches)))
      ≡ capped (branches_size (branches_over l.self.node_table l.branches));
  depth_is : capped (max l.total.depth (branches_depth
      (branches_over l.self.node_table (drop l.branch-index l.branches))))
      ≡ capped (branches_depth (branches_over l.self.node_table l.branches));
  small : l.total.size ≤ 4294967295;
  shallow : l.total.depth ≤ 4294967295;
}
