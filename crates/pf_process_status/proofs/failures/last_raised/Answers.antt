use Rattle.std.proofs.Common.{ap, ◌∙◌}
use Rattle.std.proofs.lemmas.List.{take_all}
use Rattle.pf_process_status.specs.Noted.{last_point}
use Rattle.pf_process_status.proofs.Noting.{last_next}
use Rattle.pf_process_status.proofs.failures.last_raised.Goals as goal

pub loop-failure-preserved : goal.loop-failure-preserved
loop-failure-preserved c =
    let l = c.loop-failure in
    last_next c.args.pid c.args.raised.now l.failure-index _ l.last _ c.loop-failure-test.true
    c.later-last.ensures l.invariant

pub returns : goal.returns
returns c =
    let l = c.loop-failure in
    l.invariant ∙ ap (last_point c.args.pid) (take_all l.failure-index c.args.raised.now c.loop-failure-test.false)
