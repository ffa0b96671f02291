use Rattle.std.proofs.Common.{◌≡◌, ◌≤◌, ◌<◌, ◌+◌, ◌-◌, false, length, if◌then◌else◌}
use Rattle.pf_protocol.specs.Complete.{is_due}
use Rattle.pf_wire.specs.declared.steps.TheConstants.{MOST_BYTES}
use Rattle.pf_wire.specs.Endings.{ReadsUpTo}
use Rattle.pf_wire.proofs.Leaving.{IsThere}
use Rattle.pf_wire.proofs.steps.answer_pieces.Given as goal

-- what was taken is answered up to what is kept, where nothing is due
abbrev pub invariant-loop-is_over : goal.invariant-loop-is_over
invariant-loop-is_over g l =
    let contents = g.W.Write.contents in
    let remaining = g.R.Read.remaining in
    record {
      is_there : IsThere l.is_over l.input.bytes.items l.world l.number l.input.taken (remaining l.fn.reader.inner)
          (remaining l.reader.inner)
          (contents l.fn.writer.inner) (contents l.writer.inner);
      leads : ReadsUpTo l.is_over l.input.bytes.items l.number l.input.taken (remaining l.fn.reader.inner)
          (remaining l.reader.inner);
      unreported : l.ending.refused ≡ l.fn.ending.refused;
      unfinished : is_due l.is_over l.input.bytes.items ≡ false;
      reads : l.reader.failures.total ≡ l.fn.reader.failures.total;
      writes : l.writer.failures.total ≡ l.fn.writer.failures.total;
      within : l.number + length l.input.bytes.items ≤ l.input.taken + 1;
      most : l.input.taken ≤ MOST_BYTES;
      more : l.is_over ≡ false → l.input.taken < MOST_BYTES;
    }

abbrev pub decreases-loop-is_over : goal.decreases-loop-is_over
decreases-loop-is_over g l = (MOST_BYTES - l.input.taken) + (if l.is_over then 0 else 1)
