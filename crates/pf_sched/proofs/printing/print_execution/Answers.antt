use Rattle.std.proofs.Common.{refl}
use Rattle.pf_trace.proofs.Fronts.{handed_on}
use Rattle.pf_sched.proofs.Printed.{cut_kept, waiting_written}
use Rattle.pf_sched.proofs.printing.print_execution.Goals as goal

pub print_rest-requires-clause-written : goal.print_rest-requires-clause-written
print_rest-requires-clause-written g c =
    let u = c.requires.first.0 in
    let ran = c.in_ok-print_events.ensures.printed u c.requires.first.1 in
    waiting_written c.args.job.now u ran.0 c.print_events.new.execution c.print_events.new.printer _ _ ran.1

pub returns-in_err-printed-clause-fault : goal.returns-in_err-printed-clause-fault
returns-in_err-printed-clause-fault g c =
    let f = c.in_err-printed.field-0.0 in
    handed_on c.from_residual-in_err-printed.result f _ c.from_residual-in_err-printed.ensures
    (λ u first.
    let ran = c.in_ok-print_events.ensures.printed u first in
    cut_kept f c.args.job.now u _ _ _ _ _ c.in_ok-print_events.ensures.kept
    (c.in_err-printed.ensures.fault u ran.0 c.print_events.new.printer _ refl refl ran.1 ran.2))

pub returns-clause-printed : goal.returns-clause-printed
returns-clause-printed g c u first =
    let ran = c.in_ok-print_events.ensures.printed u first in
    c.in_ok-printed.ensures.printed u ran.0 c.print_events.new.printer _ refl refl ran.1 ran.2
