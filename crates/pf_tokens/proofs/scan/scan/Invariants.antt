use Rattle.std.proofs.Common.{◌≡◌, ◌-◌, ◌+◌, length}
use Rattle.std.specs.Prelude.{map}
use Rattle.pf_tokens.specs.TokenKinds.{placed_of}
use Rattle.pf_tokens.specs.Scan.{scan}
use Rattle.pf_tokens.proofs.Turns.{with_front}
use Rattle.pf_tokens.proofs.scan.scan.Given as goal

-- the tokens so far, and those of what is left, are those of all
abbrev pub invariant-loop : goal.invariant-loop
invariant-loop l = record {
  given : scan (length l.source) 0 l.source ≡ with_front (map placed_of l.found.items)
      (scan (length l.source - l.counter) l.offset l.rest);
  at : l.offset + length l.rest ≡ length l.source;
}
