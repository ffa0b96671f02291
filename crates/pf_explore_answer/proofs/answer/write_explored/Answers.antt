use Rattle.std.proofs.Common.{◌≡◌, ◌∙◌, ap, subst, Some, None}
use Rattle.std.proofs.lemmas.Result.{IfOk-weaker}
use Rattle.pf_terms.specs.Atoms.{name_of}
use Rattle.pf_model.specs.Reports.{view_of_report}
use Rattle.pf_explore.specs.Asked.{with_last}
use Rattle.pf_explore.specs.Explored.{IsExplored}
use Rattle.pf_explore_answer.specs.Answers.{AnswersJob, Exploration, IsAnswer, choices_of, failing_text, holds_text}
use Rattle.pf_explore_answer.specs.Answers.{levels_of, none_fails, not_all_seen, unseen_text}
use Rattle.pf_explore_answer.proofs.Answering.{answer_is, row_failing}
use Rattle.pf_explore_answer.proofs.answer.write_explored.Goals as goal

pub returns-in-NoneFails : goal.returns-in-NoneFails
returns-in-NoneFails c =
    let j = c.args.job.now in
    let runs = c.in-NoneFails.runs in
    let steps = c.in-NoneFails.steps in
    IfOk-weaker c.write_holds.result (IsAnswer None (holds_text runs steps) 0)
    (λ a. (x : Exploration)
    → IsExplored (with_last x.last j.asked) x.may_stop x.budget (levels_of x.deviations) c.args.explored
    → AnswersJob x j a)
    (λ a is x so.
    let holds = subst (IsExplored (with_last x.last j.asked) x.may_stop x.budget (levels_of x.deviations))
    c.in-NoneFails.is so in
    answer_is x j a None (holds_text runs steps) 0 is (none_fails runs steps holds.0 holds.1))
    c.write_holds.ensures

pub returns-in-Fails : goal.returns-in-Fails
returns-in-Fails c =
    let j = c.args.job.now in
    let r = view_of_report c.in-Fails.report in
    let atoms : c.atoms.result.now ≡ j.asked.code.atoms = c.atoms.ensures ∙ ap (λ m. m.atoms) c.deref.ensures
    ∙ ap (λ m. m.atoms) c.module.ensures in
    IfOk-weaker c.write_failing.result
    (IsAnswer (Some (choices_of r)) (failing_text (name_of c.atoms.result.now) r) 1)
    (λ a. (x : Exploration)
    → IsExplored (with_last x.last j.asked) x.may_stop x.budget (levels_of x.deviations) c.args.explored
    → AnswersJob x j a)
    (λ a is x so.
    let fails = subst (IsExplored (with_last x.last j.asked) x.may_stop x.budget (levels_of x.deviations))
    c.in-Fails.is so in
    row_failing x j a c.atoms.result.now r atoms fails is)
    c.write_failing.ensures

pub returns-in-NotAllSeen : goal.returns-in-NotAllSeen
returns-in-NotAllSeen c =
    let j = c.args.job.now in
    let within = c.in-NotAllSeen.within in
    let runs = c.in-NotAllSeen.runs in
    let cause = c.in-NotAllSeen.cause in
    IfOk-weaker c.write_unseen.result (IsAnswer None (unseen_text runs cause within) 3)
    (λ a. (x : Exploration)
    → IsExplored (with_last x.last j.asked) x.may_stop x.budget (levels_of x.deviations) c.args.explored
    → AnswersJob x j a)
    (λ a is x so.
    let holds = subst (IsExplored (with_last x.last j.asked) x.may_stop x.budget (levels_of x.deviations))
    c.in-NotAllSeen.is so in
    answer_is x j a None (unseen_text runs cause within) 3 is (not_all_seen runs cause within holds.0 holds.1))
    c.write_unseen.ensures
