use Rattle.std.proofs.Common.{refl}
use Rattle.pf_ties.proofs.Kept.{at_index}
use Rattle.pf_ties.proofs.ties.Ties.set_flag.Goals as goal

pub returns-clause-was : goal.returns-clause-was
returns-clause-was c =
    let e = at_index c.args.pid c.self.inside.processes.items c.index_mut-process.result.now
    (rw (← c.self.view_is) at c.requires) c.index_mut-process.ensures.value in
    rw (← c.self.view_is, e) c.set_flag.ensures.was

pub returns-clause-set : goal.returns-clause-set
returns-clause-set c =
    let e = at_index c.args.pid c.self.inside.processes.items c.index_mut-process.result.now
    (rw (← c.self.view_is) at c.requires) c.index_mut-process.ensures.value in
    rw (c.set_flag.ensures.set, ← e, ← c.self.view_is) refl
