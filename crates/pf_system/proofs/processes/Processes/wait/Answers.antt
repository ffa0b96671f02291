use Rattle.std.proofs.Common.{refl}
use Rattle.std.proofs.lemmas.Option.{slice_get_read}
use Rattle.pf_system.proofs.Settling.{waits_in}
use Rattle.pf_system.proofs.processes.Processes.wait.Goals as goal

pub returns : goal.returns
returns c =
    let w = c.args.self.now in
    let s = c.index_mut-slot.result.now in
    waits_in c.args.pid w _ s c.wait.new.self
    (slice_get_read w.slots.items _ c.args.pid s refl c.requires.there c.index_mut-slot.ensures.value)
    c.wait.ensures refl refl refl c.remove.ensures.removed
