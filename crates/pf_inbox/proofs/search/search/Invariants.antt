use Rattle.std.proofs.Common.{◌≡◌, ◌-◌, ◌^◌, ◌≤◌, length}
use Rattle.pf_heap.specs.Heap.{Keeps}
use Rattle.pf_loop.specs.View.{AreWords}
use Rattle.pf_inbox.specs.Received.{AtEachReceive}
use Rattle.pf_inbox.specs.Searches.{PassesOver, WaitsAgain}
use Rattle.pf_inbox.proofs.search.search.Given as goal

-- no message up to the mark is picked, and the process waits as before
abbrev pub invariant-messages : goal.invariant-messages
invariant-messages l = record {
  words : AreWords l.heap l.process.machine.stack.words.items;
  keeps : Keeps l.fn.heap l.heap;
  status : l.process.status ≡ l.fn.process.status;
  items : l.list.items ≡ l.fn.list.items;
  on : l.fn.list.mark ≤ l.list.mark;
  counted : l.made ≡ l.list.mark - l.fn.list.mark;
  room : length l.list.items ≤ 2 ^ 64 - 1;
  passed : AtEachReceive l.fn.heap l.setting l.fn.process (λ m code d fs ks.
      PassesOver m l.setting.own ks l.fn.list l.list.mark
      × WaitsAgain m l.setting.own code d fs ks l.heap l.process.machine);
}

abbrev pub decreases-messages : goal.decreases-messages
decreases-messages l = length l.list.items - l.list.mark
