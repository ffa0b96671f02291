use Rattle.std.proofs.lemmas.Result.{IfOk-weaker}
use Rattle.pf_explore.specs.Asked.{with_last}
use Rattle.pf_explore.specs.Explored.{IsExplored}
use Rattle.pf_explore_answer.specs.Answers.{AnswersJob, Exploration, levels_of}
use Rattle.pf_explore_answer.specs.Views.{view_of_exploration}
use Rattle.pf_explore_answer.proofs.answer.answer_job.Goals as goal

pub returns : goal.returns
returns g c =
    let x = view_of_exploration (g.P.Pace.may_stop c.args.pace.now) c.args.asked.now in
    let j = c.args.job in
    IfOk-weaker c.write_explored.result
    (λ a. (y : Exploration)
    → IsExplored (with_last y.last j.asked) y.may_stop y.budget (levels_of y.deviations) c.in_ok-explored.explored
    → AnswersJob y j a) (AnswersJob x j)
    (λ a is. is x c.in_ok-explored.ensures) c.write_explored.ensures

pub invariant_of-hunt : goal.invariant_of-hunt
invariant_of-hunt g c = record { alike = c.none.ensures c.args.job _ }
