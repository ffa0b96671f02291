use Rattle.std.proofs.Common.{length}
use Rattle.pf_model.specs.Shrinking as shrinking
use Rattle.pf_trace.specs.Written.{report_in}
use Rattle.pf_sched.specs.Parts.{events_in}
use Rattle.pf_sched.proofs.Sliced.{ends_so, run_ends}
use Rattle.pf_sched.proofs.slice.finish.Goals as goal

pub whole-requires-clause-result : goal.whole-requires-clause-result
whole-requires-clause-result c =
    (run_ends c.args.job.value c.deref.result.now c.deref.ensures c.args.run c.requires.run c.requires.over
    c.in-Ok.report c.in-Ok.ensures).0.0

pub whole-requires-clause-written : goal.whole-requires-clause-written
whole-requires-clause-written c =
    (run_ends c.args.job.value c.deref.result.now c.deref.ensures c.args.run c.requires.run c.requires.over
    c.in-Ok.report c.in-Ok.ensures).1

pub returns-in-Ok-clause-result : goal.returns-in-Ok-clause-result
returns-in-Ok-clause-result c =
    let j = c.args.job.value in
    ends_so j (length (events_in c.args.run)) (shrinking.report (report_in c.in-Ok.report)) c.whole.result.result
    (run_ends j c.deref.result.now c.deref.ensures c.args.run c.requires.run c.requires.over c.in-Ok.report
    c.in-Ok.ensures).0 c.whole.ensures.result
