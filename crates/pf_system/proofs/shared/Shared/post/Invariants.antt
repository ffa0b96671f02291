use Rattle.std.proofs.Common.{◌≡◌, ◌++◌, length, map}
use Rattle.std.specs.Vec.Iter.{into_iter_items}
use Rattle.pf_model.specs.Configuration.{posted}
use Rattle.pf_ties.specs.Fates.{sent_of}
use Rattle.pf_system.proofs.shared.Shared.post.Given as goal

-- those before were posted
abbrev pub invariant-loop-to : goal.invariant-loop-to
invariant-loop-to l = record {
  posted : l.self.channels ≡ posted l.from (map sent_of l.yielded) l.fn.self.channels;
  ties : l.self.ties ≡ l.fn.self.ties;
  senders : length l.self.channels ≡ length l.fn.self.channels;
  rest : l.fn.signals.items ≡ l.yielded ++ into_iter_items l.to-iterator;
}
