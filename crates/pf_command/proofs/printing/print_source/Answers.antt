use Rattle.std.proofs.Common.{Ok, Err}
use Rattle.pf_cli.specs.Args.{view_of_run_args}
use Rattle.pf_command.specs.AskedRuns.{RunAnswers}
use Rattle.pf_command.proofs.Printed.{answer_sent, run_is_answer, run_waits}
use Rattle.pf_command.proofs.Streaming.{sent_fault, sent_memory}
use Rattle.pf_command.proofs.printing.print_source.Goals as goal

pub returns-in_err-answer-clause-reported : goal.returns-in_err-answer-clause-reported
returns-in_err-answer-clause-reported g c =
    sent_memory (RunAnswers (view_of_run_args c.args.args.now) c.args.source.now) _ _ c.from_residual.result
    c.from_residual.ensures

pub returns-in_err-print_answer-clause-reported : goal.returns-in_err-print_answer-clause-reported
returns-in_err-print_answer-clause-reported g c =
    let a = view_of_run_args c.args.args.now in
    let bytes = c.args.source.now in
    let x = c.in_ok-answer.answer in
    let f = c.in_err-print_answer.field-0.0 in
    sent_fault (RunAnswers a bytes) _ _ _ _ c.from_residual-in_err-print_answer.result f
    c.from_residual-in_err-print_answer.ensures
    (answer_sent (RunAnswers a) bytes x _ _ _ _ (Err f) (run_is_answer a bytes x c.in_ok-answer.ensures)
    c.in_err-print_answer.ensures.printed)

pub returns-clause-reported : goal.returns-clause-reported
returns-clause-reported g c =
    let a = view_of_run_args c.args.args.now in
    let bytes = c.args.source.now in
    let x = c.in_ok-answer.answer in
    answer_sent (RunAnswers a) bytes x _ _ _ _ (Ok c.in_ok-print_answer.field-0)
    (run_is_answer a bytes x c.in_ok-answer.ensures) c.in_ok-print_answer.ensures.printed

pub returns-clause-waits : goal.returns-clause-waits
returns-clause-waits g c =
    run_waits (view_of_run_args c.args.args.now) c.args.source.now c.in_ok-answer.answer _ _ _ _ _ _
    c.in_ok-print_answer.field-0 c.in_ok-answer.ensures c.in_ok-print_answer.ensures.printed
    c.in_ok-print_answer.ensures.waits
