use Rattle.std.proofs.Common.{rules, ◌<◌}
use Rattle.pf_command.specs.AskedRuns.{RunsAs}
use Rattle.pf_command.proofs.run.answer_of_job.Goals as goal

pub returns-in_ok-answer : goal.returns-in_ok-answer
returns-in_ok-answer c =
    let j = c.args.job in
    let own : RunsAs c.args.by_seed j j = search rules in
    let several : 0 < j.asked.runs = search rules in
    (own, several, c.in_ok-answer.ensures)
