use Rattle.std.proofs.Common.{sym}
use Rattle.pf_syntax.specs.Module.{tree_at}
use Rattle.pf_positions.specs.Innermost.{itself, within}
use Rattle.pf_positions.proofs.Inner.{next_lighter}
use Rattle.pf_positions.proofs.innermost.innermost.Goals as goal

pub loop-part-smaller : goal.loop-part-smaller
loop-part-smaller c =
    let t = c.args.module.now.tables in
    next_lighter c.loop-part.following (tree_at t c.loop-part.at.0) (tree_at t c.in-Some.part.0) (sym c.in-Some.ensures)

pub loop-part-preserved : goal.loop-part-preserved
loop-part-preserved c =
    let t = c.args.module.now.tables in
    λ v h. c.loop-part.invariant v (within (tree_at t c.loop-part.at.0) (tree_at t c.in-Some.part.0) v
    c.loop-part.following (sym c.in-Some.ensures) h)

pub returns : goal.returns
returns c =
    let u = tree_at c.args.module.now.tables c.loop-part.at.0 in
    c.loop-part.invariant u (itself u c.loop-part.following (sym c.in_default.ensures))
