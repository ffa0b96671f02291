use Rattle.std.proofs.Common.{◌∙◌, ap, subst}
use Rattle.std.specs.Prelude.{is_some}
use Rattle.pf_cli.specs.Args.{view_of_explore_args}
use Rattle.pf_explore_answer.specs.Answers.{AnswersSource}
use Rattle.pf_words.specs.Explorations.{at_pace, exploration_of}
use Rattle.pf_words.proofs.explore.answer_exploration.Goals as goal

pub answer_explored-requires : goal.answer_explored-requires
answer_explored-requires g c =
    let x = exploration_of (view_of_explore_args c.args.args.now) in
    let explored = c.in_ok-explored.explored in
    let same = c.exploration-asked.ensures.asked (is_some c.new-pace.result.limit)
    ∙ ap (λ t. at_pace (is_some t) x) c.new-pace.ensures in
    subst (λ y. AnswersSource y c.args.source.now explored) same c.in_ok-explored.ensures
