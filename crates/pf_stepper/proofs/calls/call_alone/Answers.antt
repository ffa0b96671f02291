use Rattle.pf_stepper.proofs.Outer.{exit_of_none, exit_of_many}
use Rattle.pf_stepper.proofs.calls.call_alone.Goals.{in_default-arguments-via-then-arguments-lt1}
use Rattle.pf_stepper.proofs.calls.call_alone.Goals.{in_default-arguments-via-else-arguments-lt1+else-arguments-lt2}
use Rattle.pf_stepper.proofs.calls.call_alone.Goals as goal

pub returns-in_default-arguments : goal.returns-in_default-arguments
returns-in_default-arguments c =
    rw c.in-Exit.is (elim c.in_default-arguments.branch [
      | in_default-arguments-via-then-arguments-lt1 w ↦ exit_of_none c.args.own c.args.arguments.now (cc)
      | in_default-arguments-via-else-arguments-lt1+else-arguments-lt2 w ↦ exit_of_many c.args.own
          c.args.arguments.now (cc)
    ])
