use Rattle.std.proofs.Common.{◌+◌, ◌^◌, ◌≤◌, sym, arith}
use Rattle.pf_tokens.specs.TokenKinds.{decimal}
use Rattle.pf_tokens.proofs.Numerals.{decimal_more, decimal_front, checked_none}
use Rattle.pf_tokens.proofs.words.integer_of.Goals as goal

pub returns-then-value-digit : goal.returns-then-value-digit
returns-then-value-digit c =
    let digits = c.args.digits.now in
    let i = c.loop-digit.digit-index in
    let large : 2 ^ 63 ≤ decimal digits = omega (
      arith,
      decimal_more digits i c.loop-digit-test.true,
      decimal_front digits (i + 1),
      c.from-digit.ensures,
    ) in
    sym (checked_none (decimal digits) large)
