use Rattle.std.specs.Prelude.{codes}
use Rattle.std.proofs.lemmas.Result.{on_ok_weaker}
use Rattle.pf_explore_answer.specs.Answers.{counted}
use Rattle.pf_explore_answer.proofs.Answering.{after}
use Rattle.pf_explore_answer.proofs.writing.put_most.Goals as goal

pub returns : goal.returns
returns c =
    let front = counted (codes "; no schedule with at most ") c.args.most in
    let end = codes " deviations fails" in
    on_ok_weaker c.put.result (λ e. after c.args.out.now.items front end c.in_ok-put_counted.ensures e)
    c.put.ensures.ok
