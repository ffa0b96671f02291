use Rattle.std.proofs.lemmas.Fmt.{decimal_digit}
use Rattle.pf_trace.proofs.report.put_choice.Goals as goal

pub returns-then-count-lt10 : goal.returns-then-count-lt10
returns-then-count-lt10 c = rw (
  decimal_digit c.args.choice c.if-choice-lt10.true,
  decimal_digit c.args.count c.if-count-lt10.true,
) c.put.ensures.ok
