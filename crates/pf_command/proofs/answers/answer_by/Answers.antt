use Rattle.pf_command.proofs.Printed.{reported_so}
use Rattle.pf_command.proofs.answers.answer_by.Goals as goal

pub returns : goal.returns
returns g c =
    reported_so (g.C.Answering.answers c.args.command) c.args.source.now c.in_ok-answer.answer
    c.in_ok-answer.ensures
