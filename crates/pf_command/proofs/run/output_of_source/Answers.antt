use Rattle.std.proofs.lemmas.Result.{IfOk-weaker}
use Rattle.pf_errors.specs.Codes.{refusal_text}
use Rattle.pf_cli_messages.specs.Explained.{AsksOf}
use Rattle.pf_command.specs.Answers.{AnswersRun, Refuses, ReportsJob, run_args}
use Rattle.pf_command.proofs.Rows.{row_refused}
use Rattle.pf_command.proofs.run.output_of_source.Goals as goal

pub returns-in-Err : goal.returns-in-Err
returns-in-Err g c =
    let refusal = c.in-Err.refusal in
    let asked = run_args c.args.request.now c.args.edition in
    let bytes = c.args.source.now in
    IfOk-weaker c.refused_at.result (λ a. Refuses a (refusal_text refusal.code refusal.offset))
    (λ a. AnswersRun asked bytes a.text.items a.status)
    (λ a is. row_refused (AsksOf asked) ReportsJob bytes a refusal.code refusal.offset c.in-Err.ensures is)
    c.refused_at.ensures
