use Rattle.std.proofs.Common.{refl}
use Rattle.pf_sched.proofs.BySeed.{means_by_seed}
use Rattle.pf_verdicts.proofs.run.judged_alone.Goals as goal

pub judged_run-requires : goal.judged_run-requires
judged_run-requires c none = absurd cc

pub returns : goal.returns
returns c =
    let judged = c.in_ok-judged.ensures in (
      judged.0,
      means_by_seed c.args.by c.args.job.now.asked judged.0 judged.1,
      record {
        judged = judged.2;
        further
            = refl;
      },
    )
