use Rattle.std.proofs.Common.{[]}
use Rattle.std.proofs.lemmas.Result.{IfErr-weaker, IfOk-weaker}
use Rattle.pf_errors.specs.declared.fault.OrNoMemory.TheVariants.{NoMemory}
use Rattle.pf_trace.proofs.Fronts.{handed_on}
use Rattle.pf_sched.specs.Choosing.{Choosing, choosing_of}
use Rattle.pf_sched.specs.Parts.{Executes}
use Rattle.pf_sched.specs.Printing.{CutsShort, HasPrinted, HasStopped}
use Rattle.pf_sched.proofs.Printed.{stopped, stopped_first}
use Rattle.pf_sched.proofs.printing.print_run.Goals as goal

pub returns-in_err-execution-clause-fault : goal.returns-in_err-execution-clause-fault
returns-in_err-execution-clause-fault g c =
    handed_on c.from_residual.result NoMemory _ c.from_residual.ensures
    (stopped_first c.args.job.now c.limit-limit.ensures.valid c.args.by_seed _ _)

pub print_execution-printed-requires-clause-first : goal.print_execution-printed-requires-clause-first
print_execution-printed-requires-clause-first g c = (
  choosing_of c.args.by_seed c.args.job.now.asked,
  c.in_ok-execution.ensures,
)

pub returns-clause-printed : goal.returns-clause-printed
returns-clause-printed g c =
    let j = c.args.job.now in
    let w = choosing_of c.args.by_seed j.asked in
    let x = c.in_ok-execution.execution in
    let w0 = g.W.Write.contents c.args.writer.now.inner in
    let w1 = g.W.Write.contents c.print_execution-printed.new.writer.inner in
    IfOk-weaker c.print_execution-printed.result (λ p. (u : Choosing) → Executes j u [] x → HasPrinted j u p w0 w1)
    (λ p. HasPrinted j w p w0 w1) (λ p printed. printed w c.in_ok-execution.ensures)
    c.print_execution-printed.ensures.printed

pub returns-clause-fault : goal.returns-clause-fault
returns-clause-fault g c =
    let j = c.args.job.now in
    let w = choosing_of c.args.by_seed j.asked in
    let x = c.in_ok-execution.execution in
    let w0 = g.W.Write.contents c.args.writer.now.inner in
    let w1 = g.W.Write.contents c.print_execution-printed.new.writer.inner in
    let n0 = c.args.writer.now.failures.total in
    let n1 = c.print_execution-printed.new.writer.failures.total in
    IfErr-weaker c.print_execution-printed.result
    (λ e. (u : Choosing) → Executes j u [] x → CutsShort e j u w0 w1 n0 n1) (λ e. HasStopped e j w w0 w1 n0 n1)
    (λ e cut. stopped e j c.limit-limit.ensures.valid c.args.by_seed w0 w1 n0 n1
    (cut w c.in_ok-execution.ensures)) c.print_execution-printed.ensures.fault
