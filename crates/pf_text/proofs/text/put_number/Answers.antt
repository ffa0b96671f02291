use Rattle.std.proofs.lemmas.Fmt.{decimal_digit}
use Rattle.itoa.proofs.Decimal.{decimal_two}
use Rattle.pf_text.proofs.text.put_number.Goals as goal

pub returns-then-number-lt10-clause-ok : goal.returns-then-number-lt10-clause-ok
returns-then-number-lt10-clause-ok c = rw (decimal_digit c.args.number c.if-number-lt10.true) c.put_byte.ensures.ok

pub returns-then-number-lt100-clause-ok : goal.returns-then-number-lt100-clause-ok
returns-then-number-lt100-clause-ok c = rw (decimal_two c.args.number c.if-number-lt10.false c.if-number-lt100.true)
    c.put.ensures.ok
