use Rattle.std.proofs.Common.{refl, ap}
use Rattle.pf_sched.proofs.Reported.{means}
use Rattle.pf_sched.proofs.SoFar.{few_so_far}
use Rattle.pf_sched.proofs.whole.judge_execution.Goals as goal

pub complete-requires-clause-first : goal.complete-requires-clause-first
complete-requires-clause-first c = c.requires

pub complete-requires-clause-reported : goal.complete-requires-clause-reported
complete-requires-clause-reported c = c.new-seen.ensures c.args.job.now.asked (ap (λ k. k.asked.property) c.job.view_is)

pub returns : goal.returns
returns c w first =
    let j = c.args.job.now in
    let x = c.complete.new.self in
    let all = c.in_ok-complete.ensures w first in
    let reported = c.in_ok-judged.ensures all.0 (few_so_far all.1.run) ((refl, all.2.0.1), all.2.1) in
    (reported.0, means j w all.0 x all.1 all.3 reported.0 reported.1, reported.2)
