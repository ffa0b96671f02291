use Rattle.pf_stepper.proofs.Outer.{moved_once}
use Rattle.pf_stepper.proofs.machine.Machine.advance.Goals as goal

pub returns-clause-moved : goal.returns-clause-moved
returns-clause-moved g c = moved_once _ _ _ _ _ _ c.in_ok-run.ensures.ran
