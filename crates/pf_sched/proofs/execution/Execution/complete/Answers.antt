use Rattle.std.proofs.Common.{[], length, sym}
use Rattle.pf_sched.proofs.Ended.{over_at_limit}
use Rattle.pf_sched.proofs.Sliced.{is_over}
use Rattle.pf_sched.proofs.execution.Execution.complete.Goals as goal

pub unreachable-requires : goal.unreachable-requires
unreachable-requires g c =
    let j = c.args.job.now in
    let cs = c.requires.first.0 in
    let went = c.in_ok-advance.ensures j cs [] (sym c.limit.ensures.limit) c.requires.first.1 c.requires.reported in
    over_at_limit j cs c.limit-2.result c.limit.result c.limit-2.ensures.limit c.limit.ensures.limit
    went.0 c.advance.new.self went.1 c.in_ok-advance.field-0 c.if-not-branch.true went.3

pub returns : goal.returns
returns g c cs first =
    let j = c.args.job.now in
    let went = c.in_ok-advance.ensures j cs [] (sym c.limit.ensures.limit) first c.requires.reported in
    let over = is_over j 0 (length went.0) c.limit-2.result c.limit.result c.advance.new.self c.limit.ensures.limit
    c.in_ok-advance.field-0 c.if-not-branch.false went.3 in
    (went.0, went.1, went.2, over.0)
