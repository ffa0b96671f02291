use Rattle.pf_command.specs.Checks.{unasked}
use Rattle.pf_command.proofs.check.more_of.Goals as goal

pub returns-else-explain : goal.returns-else-explain
returns-else-explain c = rw (c.if-explain.false, c.new.ensures.items) unasked
