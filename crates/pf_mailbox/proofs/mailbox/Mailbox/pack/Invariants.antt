use Rattle.std.proofs.Common.{◌≡◌, ◌++◌, ◌≤◌, length}
use Rattle.std.specs.Prelude.{map}
use Rattle.pf_terms.specs.Term.{value_of}
use Rattle.pf_mailbox.proofs.mailbox.Mailbox.pack.Given as goal

abbrev pub invariant-loop-messages : goal.invariant-loop-messages
invariant-loop-messages l =
    record {
      all : map value_of l.messages.items ++ map value_of l.self-inside.list.items ≡ l.fn.self.messages;
      front : l.self-inside.list.mark ≡ 0;
      mark : l.mark ≡ l.fn.self.mark;
      within : l.mark ≤ length l.fn.self.messages;
      tests : l.self-inside.tests ≡ l.fn.self.tests;
    }

abbrev pub decreases-loop-messages : goal.decreases-loop-messages
decreases-loop-messages l = length l.self-inside.list.items
