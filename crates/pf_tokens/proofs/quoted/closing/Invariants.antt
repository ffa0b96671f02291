use Rattle.std.proofs.Common.{◌≡◌, ◌+◌, false, drop}
use Rattle.pf_tokens.specs.Scan.{width, closing}
use Rattle.pf_tokens.proofs.Quotes.{with_front}
use Rattle.pf_tokens.proofs.quoted.closing.Given as goal

-- the bytes read so far, and how many bytes of the text stand for them
abbrev pub invariant-loop-byte : goal.invariant-loop-byte
invariant-loop-byte l = record {
  given : closing l.quote l.offset l.rest false 1 ≡ with_front l.text.items
      (closing l.quote l.offset (drop l.byte-index l.rest) l.is_escaped l.length);
  read : l.length + width l.is_escaped ≡ l.byte-index + 2;
}
