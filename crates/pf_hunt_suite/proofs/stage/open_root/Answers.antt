use Rattle.pf_sched.specs.Views.{code_of}
use Rattle.pf_hunt_suite.specs.Ends.{refused}
use Rattle.pf_hunt_suite.specs.Stages.{over}
use Rattle.pf_hunt_suite.specs.declared.end.RootEnd.TheVariants.{Refused}
use Rattle.pf_hunt_suite.proofs.stage.open_root.Goals as goal

pub returns-in-Err-Fault : goal.returns-in-Err-Fault
returns-in-Err-Fault c =
    let reported = rw c.in-Err-Fault.field-0-is at c.in-Err-Fault.ensures in
    let code = code_of c.in-Err-Fault.refusal in
    rw (c.code.ensures, c.in-Err-Fault.field-0-is) (over (Refused code) (refused code reported))
