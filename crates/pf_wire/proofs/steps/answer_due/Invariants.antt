use Rattle.std.proofs.Common.{◌≡◌, ◌≤◌, ◌+◌, length}
use Rattle.pf_pool.specs.Profile.{ForRight}
use Rattle.pf_wire.specs.Endings.{LeadsTo}
use Rattle.pf_wire.proofs.Leaving.{AtHand}
use Rattle.pf_wire.proofs.steps.answer_due.Given as goal

-- what was written and what is gathered answers the commands before the rest
abbrev pub invariant-loop-alloc : goal.invariant-loop-alloc
invariant-loop-alloc g l =
    let contents = g.W.Write.contents in
    record {
      so_far : ForRight (λ p. AtHand p l.is_over l.input l.fn.world l.first l.gathered.text.items l.rest
          l.world l.number
          (contents l.fn.writer.inner) (contents l.writer.inner));
      leads : LeadsTo l.is_over l.input l.rest l.first l.number;
      unreported : l.ending ≡ l.fn.ending;
      same : l.writer.failures.total ≡ l.fn.writer.failures.total;
      within : l.number + length l.rest ≤ l.first + length l.input;
    }

abbrev pub decreases-loop-alloc : goal.decreases-loop-alloc
decreases-loop-alloc g l = length l.rest
