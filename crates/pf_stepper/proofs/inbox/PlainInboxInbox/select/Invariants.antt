use Rattle.std.proofs.Common.{◌≡◌, take}
use Rattle.pf_syntax.specs.Over.{clauses_over}
use Rattle.pf_stepper.proofs.Scans.{Passed}
use Rattle.pf_stepper.proofs.inbox.PlainInboxInbox.select.Given as goal

abbrev pub invariant-loop-at : goal.invariant-loop-at
invariant-loop-at l =
    record {
      same : l.self.messages.items ≡ l.fn.self.messages.items;
      slots : l.env.items ≡ l.fn.env.items;
      passed : Passed l.code l.own l.base l.fn.env.items (clauses_over l.code.tables l.clauses)
          (take l.at l.self.messages.items);
    }
