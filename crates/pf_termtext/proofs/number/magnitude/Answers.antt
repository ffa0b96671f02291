use Rattle.std.proofs.Common.{◌+◌, arith}
use Rattle.pf_tokens.proofs.Numerals.{decimal_more, decimal_front}
use Rattle.pf_termtext.proofs.number.magnitude.Goals as goal

pub returns-then-value-digit : goal.returns-then-value-digit
returns-then-value-digit c =
    let digits = c.args.digits.now in
    let i = c.loop-digit.digit-index in
    omega (arith, decimal_more digits i c.loop-digit-test.true, decimal_front digits (i + 1), c.from-digit.ensures)
