use Rattle.std.proofs.Common.{[]}
use Rattle.std.proofs.lemmas.Result.{IfOk-weaker}
use Rattle.pf_sched.specs.Choosing.{Choosing, choosing_of}
use Rattle.pf_sched.specs.Judging.{Judges}
use Rattle.pf_sched.specs.Parts.{Executes}
use Rattle.pf_sched.proofs.whole.judged_run.Goals as goal

pub judge_execution-judged-requires : goal.judge_execution-judged-requires
judge_execution-judged-requires c = (choosing_of c.args.by_seed c.args.job.now.asked, c.in_ok-execution.ensures)

pub returns : goal.returns
returns c =
    let j = c.args.job.now in
    let w = choosing_of c.args.by_seed j.asked in
    IfOk-weaker c.judge_execution-judged.result
    (λ v. (u : Choosing) → Executes j u [] c.in_ok-execution.execution → Judges u j.asked v)
    (λ v. Judges w j.asked v) (λ v judges. judges w c.in_ok-execution.ensures) c.judge_execution-judged.ensures
