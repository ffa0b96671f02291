use Rattle.std.proofs.Common.{◌≡◌, ◌++◌, List, ℕ, None, inr, refl, subst}
use Rattle.std.specs.Prelude.{option_map}
use Rattle.std.proofs.lemmas.Result.{IfOk-weaker}
use Rattle.pf_cli.specs.Args.{view_of_explore_args}
use Rattle.pf_command.specs.Answers.{AnswersRun}
use Rattle.pf_explore_answer.specs.Answers.{ExploreAnswers, schedule_line}
use Rattle.pf_words.specs.Explorations.{ExplorationAnswers, exploration_of, explored, shrinking_of, shrunk}
use Rattle.pf_words.proofs.explore.answer_in_runs.Goals as goal

pub returns-in-Some : goal.returns-in-Some
returns-in-Some c =
    let a = view_of_explore_args c.args.args.now in
    let bytes = c.args.source.now in
    let said = c.args.explored.text.items in
    let ended = c.args.explored.status in
    let numbers = c.in-Some.schedule.items in
    let runs = c.args.runs in
    let so =
    subst (λ o. ExploreAnswers (exploration_of a) bytes (option_map (λ v. v.items) o) said ended) c.in-Some.is
    c.requires.explored in
    IfOk-weaker c.answer_shrunk.result
    (λ o. (text : List ℕ) × (o.text.items ≡ schedule_line numbers ++ text)
    × AnswersRun (shrinking_of a numbers runs) bytes text o.status)
    (λ o. ExplorationAnswers a bytes o.text.items o.status)
    (λ o is. rw is.1 (shrunk numbers runs said is.0 ended o.status c.requires.runs so is.2))
    c.answer_shrunk.ensures

pub returns-in-None : goal.returns-in-None
returns-in-None c =
    let a = view_of_explore_args c.args.args.now in
    let bytes = c.args.source.now in
    let said = c.args.explored.text.items in
    let ended = c.args.explored.status in
    explored None said ended (inr refl)
    (subst (λ o. ExploreAnswers (exploration_of a) bytes (option_map (λ v. v.items) o) said ended) c.in-None.is
    c.requires.explored)
