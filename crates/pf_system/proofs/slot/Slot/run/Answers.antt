use Rattle.std.proofs.Common.{subst}
use Rattle.pf_system.specs.Slots.{SlotRepresents}
use Rattle.pf_system.proofs.Slots.{ran_to_end, slot_with}
use Rattle.pf_system.proofs.slot.Slot.run.Goals as goal

-- the reason is copied, and the slot stays as it was
pub returns-in_ok-copy-in-Ends : goal.returns-in_ok-copy-in-Ends
returns-in_ok-copy-in-Ends c m own b h can =
    let mail = c.args.self.now.mailbox in
    ran_to_end m own c.args.left b c.in-Ends.reason c.in_ok-copy-in-Ends.field-0 mail c.requires.left
    c.in_ok-copy-in-Ends.ensures
    (subst (λ l. SlotRepresents m own (slot_with l mail) b) c.in-Ends.is h)
