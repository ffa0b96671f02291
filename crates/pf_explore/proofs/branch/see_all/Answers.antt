use Rattle.std.proofs.Common.{◌∙◌}
use Rattle.pf_explore.specs.Branching.{none_seen}
use Rattle.pf_explore.proofs.Branching.{seen_next}
use Rattle.pf_explore.proofs.branch.see_all.Goals as goal

pub loop-index-preserved : goal.loop-index-preserved
loop-index-preserved c =
    c.see-so_far.ensures
    ∙ seen_next (none_seen c.args.most) c.args.points.now c.loop-index.index _ c.loop-index.so_far
    c.loop-index-test.true c.loop-index.invariant
