use Rattle.std.proofs.Common.{refl}
use Rattle.pf_ties.proofs.Kept.{at_index}
use Rattle.pf_ties.proofs.ties.Ties.on_unlink.Goals as goal

pub returns : goal.returns
returns c =
    let e = at_index c.args.to c.self.inside.processes.items c.index_mut-process.result.now
    (rw (← c.self.view_is) at c.requires) c.index_mut-process.ensures.value in
    rw (c.unlink.ensures.unlinked, ← e, ← c.self.view_is) refl
