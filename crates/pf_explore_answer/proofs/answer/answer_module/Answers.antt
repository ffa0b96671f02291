use Rattle.std.proofs.Common.{ℕ, List, None}
use Rattle.std.specs.Prelude.{option_map}
use Rattle.std.proofs.lemmas.Result.{IfOk-weaker}
use Rattle.pf_errors.specs.Codes.{code_text}
use Rattle.pf_model.specs.TermText.{line}
use Rattle.pf_sched.specs.Views.{code_of}
use Rattle.pf_check.specs.Reading.{IsModuleOf}
use Rattle.pf_explore_answer.specs.Answers.{AnswersJob, AnswersSource, Refuses, explored, job_refused}
use Rattle.pf_explore_answer.specs.Views.{view_of_exploration}
use Rattle.pf_explore_answer.proofs.Answering.{source_answer_is}
use Rattle.pf_explore_answer.proofs.answer.answer_module.Goals as goal

pub returns-in-Ok : goal.returns-in-Ok
returns-in-Ok g c =
    let x = view_of_exploration (g.P.Pace.may_stop c.args.pace.now) c.args.asked.now in
    let m = c.args.module in
    let j = c.in-Ok.job in
    IfOk-weaker c.answer_job.result (AnswersJob x j)
    (λ a. (bytes : List ℕ) → IsModuleOf bytes m → AnswersSource x bytes a)
    (λ a is bytes of. explored m j (option_map (λ v. v.items) a.found) a.text.items a.status of c.in-Ok.ensures is)
    c.answer_job.ensures

pub returns-in-Err-Fault : goal.returns-in-Err-Fault
returns-in-Err-Fault g c =
    let x = view_of_exploration (g.P.Pace.may_stop c.args.pace.now) c.args.asked.now in
    let m = c.args.module in
    let code = code_of c.in-Err-Fault.refusal in
    let asks = rw c.in-Err-Fault.field-0-is at c.in-Err-Fault.ensures in
    IfOk-weaker c.refused_by_code.result (Refuses (code_text code))
    (λ a. (bytes : List ℕ) → IsModuleOf bytes m → AnswersSource x bytes a)
    (λ a is bytes of. source_answer_is x bytes a None (line (code_text code)) 2 is (job_refused m code of asks))
    (rw c.code.ensures at c.refused_by_code.ensures)
