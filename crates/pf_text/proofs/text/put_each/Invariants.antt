use Rattle.std.proofs.Common.{◌≡◌, ◌≤◌, ◌+◌, ◌++◌, length, take}
use Rattle.std.specs.Prelude.{vec_len, vec_capacity}
use Rattle.pf_text.proofs.text.put_each.Given as goal

-- the bytes so far are put, and there is room for the others
abbrev pub invariant-loop-byte : goal.invariant-loop-byte
invariant-loop-byte l = record {
  so_far : l.out.items ≡ l.fn.out.items ++ take l.byte-index l.bytes;
  room : vec_len l.out + length l.bytes ≤ vec_capacity l.out + l.byte-index;
}
