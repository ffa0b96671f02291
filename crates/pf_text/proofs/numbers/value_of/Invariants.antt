use Rattle.std.proofs.Common.{◌≡◌, ◌<◌, ◌^◌, take}
use Rattle.pf_tokens.specs.TokenKinds.{decimal}
use Rattle.pf_text.proofs.numbers.value_of.Given as goal

-- the value of the digits so far
abbrev pub invariant-loop-digit : goal.invariant-loop-digit
invariant-loop-digit l = record {
  so_far : l.value ≡ decimal (take l.digit-index l.digits);
  in_range : l.value < 2 ^ 64;
}
