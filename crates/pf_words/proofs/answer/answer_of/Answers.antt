use Rattle.std.proofs.lemmas.Result.{IfOk-weaker}
use Rattle.pf_cli.specs.Args.{view_of_hunt_args, view_of_run_args}
use Rattle.pf_command.specs.AskedRuns.{RunAnswers}
use Rattle.pf_command.specs.Hunts.{HuntAnswers}
use Rattle.pf_command.specs.Printed.{IsAnswerTo, RunEndsAs}
use Rattle.pf_command.proofs.Printed.{run_is_answer}
use Rattle.pf_words.proofs.answer.answer_of.Goals as goal

pub returns-in-Run : goal.returns-in-Run
returns-in-Run g c =
    let a = view_of_run_args c.in-Run.args in
    let bytes = c.args.source.now in
    rw c.in-Run.is
    (IfOk-weaker c.answer_of_run.result (RunEndsAs a bytes) (IsAnswerTo (RunAnswers a) bytes)
    (λ x ends. run_is_answer a bytes x ends) c.answer_of_run.ensures)

pub returns-in-Chart : goal.returns-in-Chart
returns-in-Chart g c = rw c.in-Chart.is c.answer_by.ensures

pub returns-in-Hunt : goal.returns-in-Hunt
returns-in-Hunt g c =
    let h = view_of_hunt_args c.in-Hunt.args in
    let bytes = c.args.source.now in
    rw c.in-Hunt.is
    (IfOk-weaker c.answer_of_hunt.result _ (IsAnswerTo (HuntAnswers h) bytes)
    (λ x ends. (ends.0, ends.1.0, λ t s say. (ends.0, ends.1.1 t s say))) c.answer_of_hunt.ensures)

pub returns-in-Explore : goal.returns-in-Explore
returns-in-Explore g c = rw c.in-Explore.is c.answer_by-in-Explore.ensures

pub returns-in-Shrink : goal.returns-in-Shrink
returns-in-Shrink g c = rw c.in-Shrink.is c.answer_by-in-Shrink.ensures

pub returns-in-Check : goal.returns-in-Check
returns-in-Check g c = rw c.in-Check.is c.answer_by-in-Check.ensures
