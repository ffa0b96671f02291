use Rattle.std.proofs.Common.{◌≡◌, ◌+◌, ◌-◌, length}
use Rattle.pf_model.specs.Channels.{with_senders}
use Rattle.pf_system.proofs.shared.Shared.open_to.Given as goal

-- the rows so far lead to those that are wanted
abbrev pub invariant-loop-alloc : goal.invariant-loop-alloc
invariant-loop-alloc l = record {
  leads : with_senders (l.last + 1) l.self.channels ≡ with_senders (l.last + 1) l.fn.self.channels;
  ties : l.self.ties ≡ l.fn.self.ties;
}

abbrev pub decreases-loop-alloc : goal.decreases-loop-alloc
decreases-loop-alloc l = l.last + 1 - length l.self.channels
