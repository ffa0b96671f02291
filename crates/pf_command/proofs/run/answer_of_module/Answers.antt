use Rattle.std.proofs.Common.{Ok, Err}
use Rattle.std.proofs.lemmas.Result.{IfOk-weaker}
use Rattle.pf_errors.specs.Codes.{code_text}
use Rattle.pf_sched.specs.Asked.{Asks}
use Rattle.pf_sched.specs.Views.{code_of}
use Rattle.pf_cli.specs.Args.{view_of_run_args}
use Rattle.pf_command.specs.Answers.{Refuses}
use Rattle.pf_command.specs.Printed.{JobEndsAs}
use Rattle.pf_command.proofs.Asking.{asks_in}
use Rattle.pf_command.proofs.RunEnds.{job_refused_so, job_runs_so}
use Rattle.pf_command.proofs.run.answer_of_module.Goals as goal

pub returns-in-Ok : goal.returns-in-Ok
returns-in-Ok c =
    let a = view_of_run_args c.args.args.now in
    let m = c.args.module in
    let job = c.in-Ok.job in
    let asks : Asks m a.edition a.request (Ok job) = asks_in m c.number.result a.edition a.request
    (Ok job) c.number.ensures.number c.in-Ok.ensures in
    IfOk-weaker c.answer_of_job.result (JobEndsAs a.by_seed job) _
    (λ x ends bytes of. job_runs_so a bytes m job of asks x ends) c.answer_of_job.ensures

pub returns-in_ok-answer-in-Err-Fault : goal.returns-in_ok-answer-in-Err-Fault
returns-in_ok-answer-in-Err-Fault c bytes of =
    let a = view_of_run_args c.args.args.now in
    let m = c.args.module in
    let code = code_of c.in-Err-Fault.refusal in
    let is_refused = rw c.in-Err-Fault.field-0-is at c.in-Err-Fault.ensures in
    let asks : Asks m a.edition a.request (Err code) = asks_in m c.number.result a.edition a.request
    (Err code) c.number.ensures.number is_refused in
    let answer = c.in_ok-answer-in-Err-Fault.answer in
    let is : Refuses answer (code_text code) = rw c.code.ensures at c.in_ok-answer-in-Err-Fault.ensures in
    job_refused_so a bytes m of code asks answer is
