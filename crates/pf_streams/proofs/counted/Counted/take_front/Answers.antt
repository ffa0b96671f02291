use Rattle.std.proofs.Common.{◌≤◌, ◌-◌, ◌++◌, ℕ, List, length, take, arith}
use Rattle.std.proofs.lemmas.List.{length-append, length-take}
use Rattle.pf_streams.proofs.Writes.{consumes_both}
use Rattle.pf_streams.proofs.counted.Counted.take_front.Goals as goal

-- a piece that is no longer than what is left keeps the whole within the limit
still_within : (bytes piece : List ℕ) (n limit : ℕ) → length bytes ≤ limit → n ≤ limit - length bytes
    → length (bytes ++ take n piece) ≤ limit
still_within bytes piece n limit within fits = omega (
  arith,
  within,
  fits,
  length-append bytes (take n piece),
  length-take n piece,
)

-- what was taken before, and the piece that found no room
pub returns-in_err-extend_from_slice-clause-taken : goal.returns-in_err-extend_from_slice-clause-taken
returns-in_err-extend_from_slice-clause-taken g c = (
  _,
  still_within c.loop-buf.bytes.items _ c.in_ok-n.n c.args.limit c.loop-buf.invariant.within
      (omega (arith, c.in_ok-n.ensures.bound, c.take_some.auto.buf, length-take c.min-want.result c.loop-buf.buf)),
  consumes_both _ _ _ _ _ c.loop-buf.invariant.taken c.in_ok-n.ensures.bytes.0,
)
