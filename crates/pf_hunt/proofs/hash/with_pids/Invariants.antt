use Rattle.std.proofs.Common.{◌≡◌, length}
use Rattle.pf_hunt.specs.Hashes.{numbers_hash}
use Rattle.pf_hunt.proofs.hash.with_pids.Given as goal

-- the hash with what is left is that of the whole
abbrev pub invariant-loop-first : goal.invariant-loop-first
invariant-loop-first l = numbers_hash l.hash l.rest ≡ numbers_hash l.fn.hash l.pids

abbrev pub decreases-loop-first : goal.decreases-loop-first
decreases-loop-first l = length l.rest
