use Rattle.std.proofs.Common.{suc, sym, subst}
use Rattle.std.specs.Prelude.{IfOk, IfSome}
use Rattle.pf_hunt.specs.Views.{failure_of}
use Rattle.pf_explore.specs.Asked.{with_last}
use Rattle.pf_explore.specs.Explored.{IsExplored}
use Rattle.pf_explore.specs.Failing.{IsFailingLast}
use Rattle.pf_explore_answer.specs.Answers.{levels_of}
use Rattle.pf_explore_answer.proofs.search.explored_of.Goals as goal

pub returns-in-None : goal.returns-in-None
returns-in-None g c =
    let p = c.args.hunt.now.strategy.last in
    let j = c.args.hunt.now.job.asked in
    let x = c.args.asked.now in
    let stop = g.P.Pace.may_stop c.failing_by_seed.new.pace in
    let levels =
    subst (λ n. IfOk c.explored_in.result (IsExplored (with_last p j) stop x.budget (suc n))) c.most_of.ensures.most
    c.explored_in.ensures in
    subst (λ s. IfOk c.explored_in.result (IsExplored (with_last p j) s x.budget (levels_of x.deviations)))
    c.failing_by_seed.ensures.same levels

pub returns-in-Some : goal.returns-in-Some
returns-in-Some g c =
    let p = c.args.hunt.now.strategy.last in
    let j = c.args.hunt.now.job.asked in
    subst (IsFailingLast p j) (sym c.report_of.ensures)
    (subst (λ o. IfSome o (λ f. IsFailingLast p j (failure_of f).1)) c.in-Some.is
    c.in_ok-failure.ensures.found)
