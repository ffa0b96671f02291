use Rattle.std.proofs.Common.{refl}
use Rattle.pf_ties.proofs.Kept.{at_index, on_ok}
use Rattle.pf_ties.proofs.ties.Ties.on_monitor.Goals as goal

pub returns-clause-placed : goal.returns-clause-placed
returns-clause-placed c =
    let e = at_index c.args.to c.self.inside.processes.items c.index_mut-process.result.now
    (rw (← c.self.view_is) at c.requires) c.index_mut-process.ensures.value in
    on_ok c.add_watcher.result c.add_watcher.ensures.added (λ h. rw (h, ← e, ← c.self.view_is) refl)
