use Rattle.pf_machine.proofs.machine.Machine.answer.Goals as goal

pub returns-in-Ok-clause-answered : goal.returns-in-Ok-clause-answered
returns-in-Ok-clause-answered c = rw c.in-Ok.is c.give.ensures.given

pub returns-in-Err-clause-answered : goal.returns-in-Err-clause-answered
returns-in-Err-clause-answered c = rw c.in-Err.is c.raise.ensures.raised
