use Rattle.std.proofs.Common.{◌-◌, ap, ◌∙◌}
use Rattle.pf_sched.proofs.Evidenced.{all_counted}
use Rattle.pf_sched.proofs.evidence.ProcessCounts.waiting.Goals as goal

pub returns-in-Finished : goal.returns-in-Finished
returns-in-Finished c ls so_far few =
    rw c.in-Finished.is (all_counted c.args.self ls c.saturating_sub.result so_far few
    (c.saturating_sub.ensures ∙ ap (λ n. n - c.args.self.ended) c.saturating_add.ensures))
