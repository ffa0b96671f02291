use Rattle.std.proofs.Common.{refl, add-one}
use Rattle.pf_ties.proofs.Kept.{at_index}
use Rattle.pf_ties.proofs.ties.Ties.monitor.Goals as goal

pub returns-clause-monitored : goal.returns-clause-monitored
returns-clause-monitored c =
    let e = at_index c.args.from c.self.inside.processes.items c.index_mut-process.result.now
    (rw (← c.self.view_is) at c.requires.from) c.index_mut-process.ensures.value in
    rw (c.in_ok-watch.ensures.active, ← e, ← c.self.view_is, add-one) refl
