use Rattle.std.proofs.Common.{ℕ, List, Ok, Err}
use Rattle.std.proofs.lemmas.Result.{IfOk-weaker}
use Rattle.pf_errors.specs.Codes.{code_text}
use Rattle.pf_sched.specs.Views.{code_of}
use Rattle.pf_command.specs.Answers.{AnswersRun, Refuses, ReportsJob, run_args}
use Rattle.pf_cli_messages.specs.Explained.{AsksOf}
use Rattle.pf_check.specs.Reading.{IsModuleOf}
use Rattle.pf_command.proofs.Asking.{asks_in}
use Rattle.pf_command.proofs.Rows.{row_reported, row_job_refused}
use Rattle.pf_command.proofs.run.output_of_module.Goals as goal

pub returns-in-Ok : goal.returns-in-Ok
returns-in-Ok g c =
    let asked = run_args c.args.request.now c.args.edition in
    let m = c.args.module in
    let job = c.in-Ok.job in
    let asks : AsksOf asked m (Ok job) = asks_in m c.number.result asked.edition asked.request
    (Ok job) c.number.ensures.number c.in-Ok.ensures in
    IfOk-weaker c.output_of_job.result (λ a. ReportsJob job a.text.items a.status)
    (λ a. (bytes : List ℕ) → IsModuleOf bytes m → AnswersRun asked bytes a.text.items a.status)
    (λ a reports bytes is. row_reported (AsksOf asked) ReportsJob m bytes job a is asks reports) c.output_of_job.ensures

pub returns-in-Err-Fault : goal.returns-in-Err-Fault
returns-in-Err-Fault g c =
    let asked = run_args c.args.request.now c.args.edition in
    let m = c.args.module in
    let code = code_of c.in-Err-Fault.refusal in
    let refused = rw c.in-Err-Fault.field-0-is at c.in-Err-Fault.ensures in
    let asks : AsksOf asked m (Err code) = asks_in m c.number.result asked.edition asked.request
    (Err code) c.number.ensures.number refused in
    IfOk-weaker c.refused_by_code.result (λ a. Refuses a (code_text code))
    (λ a. (bytes : List ℕ) → IsModuleOf bytes m → AnswersRun asked bytes a.text.items a.status)
    (λ a reported bytes is. row_job_refused (AsksOf asked) ReportsJob m bytes a code is asks reported)
    (rw c.code.ensures at c.refused_by_code.ensures)
