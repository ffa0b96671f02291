use Rattle.pf_pool.specs.Runs.{Slices}
use Rattle.pf_pool.proofs.Sliced.{after_more, after_done, after_over}
use Rattle.pf_pool.proofs.claimed_run.ClaimedRun.sliced.Goals as goal
use Rattle.pf_pool.proofs.claimed_run.ClaimedRun.sliced.Goals.{in-Going+in-More, in-Going+in-Done, in-Over}

pub returns-clause-slice : goal.returns-clause-slice
returns-clause-slice c =
    let r = c.self.inside in
    let s = c.args.self in
    let n = c.args.turns in
    let g = c.match-progress.progress in
    elim c.match-progress.branch [
      | in-Going+in-More w ↦ after_more r s n g c.self.view_is w.in-Going.parked w.in-More.parked w.in-Going.is
          w.progress-is w.in-More.ensures
      | in-Going+in-Done w ↦ after_done r s n g c.self.view_is w.in-Going.parked w.in-Done.finished w.in-Going.is
          w.progress-is w.in-Done.ensures
      | in-Over w ↦ after_over r s n g c.self.view_is w.in-Over.finished w.in-Over.is w.progress-is
    ]
