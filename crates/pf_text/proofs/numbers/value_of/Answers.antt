use Rattle.std.proofs.Common.{◌+◌, ◌^◌, ◌≤◌, sym, arith}
use Rattle.pf_tokens.specs.TokenKinds.{decimal}
use Rattle.pf_tokens.proofs.Numerals.{decimal_more, decimal_front}
use Rattle.pf_text.proofs.Numerals.{long_none}
use Rattle.pf_text.proofs.numbers.value_of.Goals as goal

pub returns-then-value-digit : goal.returns-then-value-digit
returns-then-value-digit c =
    let digits = c.args.digits.now in
    let i = c.loop-digit.digit-index in
    let large : 2 ^ 64 ≤ decimal digits = omega (
      arith,
      decimal_more digits i c.loop-digit-test.true,
      decimal_front digits (i + 1),
      c.from-digit.ensures,
    ) in
    sym (long_none (decimal digits) large)
