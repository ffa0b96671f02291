use Rattle.std.proofs.lemmas.Fmt.{decimal_digit}
use Rattle.pf_termtext.proofs.terms.put_pid.Goals as goal

pub returns-then-pid-lt10 : goal.returns-then-pid-lt10
returns-then-pid-lt10 c = rw (decimal_digit c.args.pid c.if-pid-lt10.true) c.put.ensures.ok
