use Rattle.std.proofs.lemmas.List.{at_drop_all}
use Rattle.pf_syntax.specs.ExprPattern.{expr_patterns_size, expr_patterns_depth}
use Rattle.pf_syntax.specs.SyntaxTreeOver.{expr_patterns_at}
use Rattle.pf_syntax.proofs.Measures.{nothing_left}
use Rattle.pf_syntax.proofs.syntax_tree.SyntaxTree.expr_patterns_measure.Goals as goal

pub returns : goal.returns
returns c =
    let node_table = c.args.self.now.node_table in
    let i = c.loop-part.invariant in
    let done = c.loop-part-test.false in
    nothing_left c.loop-part.total _ _ _ _
    (at_drop_all (λ ps. expr_patterns_size (expr_patterns_at node_table ps)) c.args.parts.now
    c.loop-part.part-index done)
    (at_drop_all (λ ps. expr_patterns_depth (expr_patterns_at node_table ps)) c.args.parts.now
    c.loop-part.part-index done)
    i.small i.shallow i.size_is i.depth_is
