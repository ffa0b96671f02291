use Rattle.std.proofs.Common.{subst}
use Rattle.std.proofs.lemmas.List.{take_all}
use Rattle.pf_process_status.specs.Noted.{TakePoints}
use Rattle.pf_process_status.proofs.Noting.{placed_next, points_next}
use Rattle.pf_process_status.proofs.processes.put_points.Goals as goal

pub loop-failure-preserved : goal.loop-failure-preserved
loop-failure-preserved c =
    let l = c.loop-failure in
    record {
      placed = placed_next _ _ _ _ l.invariant.placed c.put_point.ensures;
      points = points_next c.args.failures.now l.failure-index _ l.standings.items _ c.loop-failure-test.true
          l.invariant.points c.put_point.ensures;
    }

pub returns-clause-points : goal.returns-clause-points
returns-clause-points c =
    let l = c.loop-failure in
    subst (λ gs. TakePoints gs l.standings.items)
    (take_all l.failure-index c.args.failures.now c.loop-failure-test.false) l.invariant.points
