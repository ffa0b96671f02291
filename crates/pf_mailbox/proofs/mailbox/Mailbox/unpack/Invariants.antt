use Rattle.std.proofs.Common.{◌≡◌, ◌++◌, ◌≤◌, length, min}
use Rattle.std.specs.Prelude.{map}
use Rattle.pf_terms.specs.Term.{value_of}
use Rattle.pf_mailbox.proofs.mailbox.Mailbox.unpack.Given as goal

abbrev pub invariant-loop-message : goal.invariant-loop-message
invariant-loop-message l =
    record {
      all : map value_of l.list.items ++ map value_of l.message-iterator.rest.items ≡ l.fn.packed.messages;
      mark : l.mark ≡ l.fn.packed.mark;
      within : l.mark ≤ length l.fn.packed.messages;
      tests : l.tests ≡ l.fn.packed.tests;
      marked : l.list.mark ≡ min (length l.list.items) l.mark;
    }
