use Rattle.pf_ties.proofs.Kept.{at_index}
use Rattle.pf_ties.proofs.ties.Ties.ended.Goals as goal

pub returns-clause-last : goal.returns-clause-last
returns-clause-last c =
    let e = at_index c.args.pid c.self.inside.processes.items c.index_mut-process.result.now
    (rw (← c.self.view_is) at c.requires) c.index_mut-process.ensures.value in
    rw (← c.self.view_is, e) c.in_ok-signals.ensures
