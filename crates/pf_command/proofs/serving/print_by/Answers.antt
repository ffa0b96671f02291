use Rattle.std.proofs.Common.{Ok, Err}
use Rattle.pf_command.proofs.Printed.{answer_sent}
use Rattle.pf_command.proofs.Streaming.{sent_fault, sent_memory}
use Rattle.pf_command.proofs.serving.print_by.Goals as goal

pub returns-in_err-answer : goal.returns-in_err-answer
returns-in_err-answer g c =
    sent_memory (g.C.Answering.answers c.args.command c.args.source.now) _ _ c.from_residual.result
    c.from_residual.ensures

pub returns-in_err-print_answer : goal.returns-in_err-print_answer
returns-in_err-print_answer g c =
    let answers = g.C.Answering.answers c.args.command in
    let bytes = c.args.source.now in
    let f = c.in_err-print_answer.field-0.0 in
    sent_fault (answers bytes) _ _ _ _ c.from_residual-in_err-print_answer.result f
    c.from_residual-in_err-print_answer.ensures
    (answer_sent answers bytes c.in_ok-answer.answer _ _ _ _ (Err f) c.in_ok-answer.ensures
    c.in_err-print_answer.ensures.printed)

pub returns : goal.returns
returns g c =
    answer_sent (g.C.Answering.answers c.args.command) c.args.source.now c.in_ok-answer.answer _ _ _ _
    (Ok c.in_ok-print_answer.field-0) c.in_ok-answer.ensures c.in_ok-print_answer.ensures.printed
