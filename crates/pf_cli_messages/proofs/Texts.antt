-- A write that failed was counted.
use Rattle.std.proofs.Common.{◌≡◌, ◌+◌, ℕ}
use Rattle.pf_streams.specs.Streams.{CountsWrite}
use Rattle.pf_streams.specs.declared.stream.StreamFault.{StreamFault}
use Rattle.pf_streams.specs.declared.stream.StreamFault.TheVariants.{Read, Write}

pub counts_write : (e : StreamFault) (m n : ℕ) → CountsWrite e m n → n ≡ m + 1
counts_write (Read e) m n h = absurd h
counts_write (Write e) m n h = h
