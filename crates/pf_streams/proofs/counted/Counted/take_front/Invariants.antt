use Rattle.std.proofs.Common.{◌≡◌, ◌≤◌, ◌-◌, length}
use Rattle.std.specs.Io.KnownBytes.{Consumes}
use Rattle.pf_streams.proofs.counted.Counted.take_front.Given as goal

-- what was read so far
abbrev pub invariant-loop-buf : goal.invariant-loop-buf
invariant-loop-buf g l =
    let remaining = g.R.Read.remaining in
    record {
      taken : Consumes (remaining l.fn.self.inner) (remaining l.self.inner) l.bytes.items;
      within : length l.bytes.items ≤ l.limit;
      same : l.self.failures.total ≡ l.fn.self.failures.total;
    }

abbrev pub decreases-loop-buf : goal.decreases-loop-buf
decreases-loop-buf g l = l.limit - length l.bytes.items
