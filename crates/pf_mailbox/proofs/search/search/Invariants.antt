use Rattle.std.proofs.Common.{◌≡◌, ◌-◌, ◌^◌, ◌≤◌, length}
use Rattle.pf_mailbox.specs.Searches.{PassesOver}
use Rattle.pf_mailbox.specs.Tests.{awaited_clauses}
use Rattle.pf_mailbox.proofs.search.search.Given as goal

abbrev pub invariant-loop-alloc : goal.invariant-loop-alloc
invariant-loop-alloc l =
    record {
      items : l.list.items ≡ l.fn.list.items;
      slots : l.env.items ≡ l.fn.env.items;
      passed : PassesOver l.code l.own (awaited_clauses l.code l.base l.fn.env.items l.clauses) l.fn.list l.list.mark;
      counted : l.made ≡ l.list.mark - l.fn.list.mark;
      room : length l.list.items ≤ 2 ^ 64 - 1;
    }

abbrev pub decreases-loop-alloc : goal.decreases-loop-alloc
decreases-loop-alloc l = length l.list.items - l.list.mark
