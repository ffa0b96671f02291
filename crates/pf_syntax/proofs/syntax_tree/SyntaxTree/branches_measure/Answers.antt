use Rattle.std.proofs.lemmas.List.{at_drop_all}
use Rattle.pf_syntax.specs.Expr.{branches_size, branches_depth}
use Rattle.pf_syntax.specs.SyntaxTreeOver.{branches_over}
use Rattle.pf_syntax.proofs.Measures.{nothing_left}
use Rattle.pf_syntax.proofs.syntax_tree.SyntaxTree.branches_measure.Goals as goal

pub returns : goal.returns
returns c =
    let node_table = c.args.self.now.node_table in
    let i = c.loop-branch.invariant in
    let done = c.loop-branch-test.false in
    nothing_left c.loop-branch.total _ _ _ _
    (at_drop_all (λ ps. branches_size (branches_over node_table ps)) c.args.branches.now
    c.loop-branch.branch-index done)
    (at_drop_all (λ ps. branches_depth (branches_over node_table ps)) c.args.branches.now
    c.loop-branch.branch-index done)
    i.small i.shallow i.size_is i.depth_is
