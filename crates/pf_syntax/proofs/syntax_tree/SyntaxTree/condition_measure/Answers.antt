use Rattle.std.proofs.Common.{◌≤◌, ap, length, arith}
use Rattle.std.proofs.lemmas.List.{at_drop_all}
use Rattle.pf_syntax.specs.Expr.{condition_size, condition_depth}
use Rattle.pf_syntax.specs.SyntaxTreeOver.{alternatives_at}
use Rattle.pf_syntax.proofs.Measures.{nothing_left}
use Rattle.pf_syntax.proofs.syntax_tree.SyntaxTree.condition_measure.Goals as goal

pub returns : goal.returns
returns c =
    let node_table = c.args.self.now.node_table in
    let i = c.loop-alternative.invariant in
    let read = ap length c.deref-alternative-items.ensures.value in
    let done : length c.args.condition.now.alternatives.items ≤ c.loop-alternative.alternative-index =
    omega (arith, c.loop-alternative-test.false) in
    nothing_left c.loop-alternative.total _ _ _ _
    (at_drop_all (λ ps. condition_size (alternatives_at node_table ps)) c.args.condition.now.alternatives.items
    c.loop-alternative.alternative-index done)
    (at_drop_all (λ ps. condition_depth (alternatives_at node_table ps)) c.args.condition.now.alternatives.items
    c.loop-alternative.alternative-index done)
    i.small i.shallow i.size_is i.depth_is
