use Rattle.std.proofs.lemmas.List.{at_drop_all}
use Rattle.pf_syntax.specs.Expr.{exprs_size, exprs_depth}
use Rattle.pf_syntax.specs.SyntaxTreeOver.{exprs_at}
use Rattle.pf_syntax.proofs.Measures.{nothing_left}
use Rattle.pf_syntax.proofs.syntax_tree.SyntaxTree.exprs_measure.Goals as goal

pub returns : goal.returns
returns c =
    let node_table = c.args.self.now.node_table in
    let i = c.loop-part.invariant in
    let done = c.loop-part-test.false in
    nothing_left c.loop-part.total _ _ _ _
    (at_drop_all (λ ps. exprs_size (exprs_at node_table ps)) c.args.parts.now c.loop-part.part-index done)
    (at_drop_all (λ ps. exprs_depth (exprs_at node_table ps)) c.args.parts.now c.loop-part.part-index done)
    i.small i.shallow i.size_is i.depth_is
