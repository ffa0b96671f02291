use Rattle.std.proofs.Common.{Ok, Err}
use Rattle.pf_cli.specs.Args.{view_of_args}
use Rattle.pf_command.proofs.Printed.{answer_sent}
use Rattle.pf_command.proofs.Streaming.{sent_fault, sent_memory}
use Rattle.pf_words.specs.Words.{AnswersOf}
use Rattle.pf_words.proofs.answer.send.Goals as goal

pub returns-in_err-answer : goal.returns-in_err-answer
returns-in_err-answer g c bytes is =
    sent_memory (AnswersOf (view_of_args c.args.asked.now) bytes) _ _ c.from_residual.result c.from_residual.ensures

pub returns-in_err-status : goal.returns-in_err-status
returns-in_err-status g c bytes is =
    let P = AnswersOf (view_of_args c.args.asked.now) in
    let f = c.in_err-status.field-0.0 in
    sent_fault (P bytes) _ _ _ _ c.from_residual-in_err-status.result f c.from_residual-in_err-status.ensures
    (answer_sent P bytes c.in_ok-answer.answer _ _ _ _ (Err f) (rw c.in_ok-answer.was at is)
    c.in_err-status.ensures.printed)

pub returns-in-Some : goal.returns-in-Some
returns-in-Some g c bytes is =
    answer_sent (AnswersOf (view_of_args c.args.asked.now)) bytes c.in_ok-answer.answer _ _ _ _
    (Ok c.in_ok-status.status) (rw c.in_ok-answer.was at is) c.in_ok-status.ensures.printed

pub returns-in_default : goal.returns-in_default
returns-in_default g c bytes is =
    answer_sent (AnswersOf (view_of_args c.args.asked.now)) bytes c.in_ok-answer.answer _ _ _ _
    (Ok c.in_ok-status.status) (rw c.in_ok-answer.was at is) c.in_ok-status.ensures.printed
