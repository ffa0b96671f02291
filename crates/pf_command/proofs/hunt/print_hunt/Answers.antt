use Rattle.std.proofs.Common.{Ok, Err}
use Rattle.pf_cli.specs.Args.{view_of_hunt_args}
use Rattle.pf_command.specs.Hunts.{HuntAnswers, HuntNotifies}
use Rattle.pf_command.specs.Printed.{MaySay}
use Rattle.pf_command.proofs.Streaming.{prints_more, sent_fault, sent_memory}
use Rattle.pf_command.proofs.hunt.print_hunt.Goals as goal

pub returns-in_err-answer-clause-sent : goal.returns-in_err-answer-clause-sent
returns-in_err-answer-clause-sent g c =
    sent_memory (HuntAnswers (view_of_hunt_args c.args.asked.now.args.now) c.args.source.now) _ _ c.from_residual.result
    c.from_residual.ensures

pub returns-in_err-print_answer-clause-sent : goal.returns-in_err-print_answer-clause-sent
returns-in_err-print_answer-clause-sent g c =
    let h = view_of_hunt_args c.args.asked.now.args.now in
    let bytes = c.args.source.now in
    let f = c.in_err-print_answer.field-0.0 in
    let ends = c.in_ok-answer.ensures in
    sent_fault (HuntAnswers h bytes) _ _ _ _ c.from_residual-in_err-print_answer.result f
    c.from_residual-in_err-print_answer.ensures
    (prints_more (MaySay bytes ends.0 c.in_ok-answer.answer) (HuntAnswers h bytes) _ _ _ _
    (λ t s say. (ends.0, ends.1.1 t s say)) (Err f)
    (c.in_err-print_answer.ensures.printed bytes ends.0 ends.1.0))

pub returns-clause-sent : goal.returns-clause-sent
returns-clause-sent g c =
    let h = view_of_hunt_args c.args.asked.now.args.now in
    let bytes = c.args.source.now in
    let ends = c.in_ok-answer.ensures in
    prints_more (MaySay bytes ends.0 c.in_ok-answer.answer) (HuntAnswers h bytes) _ _ _ _
    (λ t s say. (ends.0, ends.1.1 t s say)) (Ok c.in_ok-print_answer.field-0)
    (c.in_ok-print_answer.ensures.printed bytes ends.0 ends.1.0)

pub returns-clause-heard : goal.returns-clause-heard
returns-clause-heard g c =
    let h = view_of_hunt_args c.args.asked.now.args.now in
    let bytes = c.args.source.now in
    let ends = c.in_ok-answer.ensures in (
      ends.0,
      prints_more (MaySay bytes ends.0 c.in_ok-answer.answer) (HuntNotifies h ends.0 bytes) _ _ _ _ ends.1.1
          (Ok c.in_ok-print_answer.field-0)
          (c.in_ok-print_answer.ensures.printed bytes ends.0 ends.1.0),
      ends.2,
    )
