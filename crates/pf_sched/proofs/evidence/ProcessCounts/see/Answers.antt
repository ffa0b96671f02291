use Rattle.std.proofs.Common.{◌+◌, cond, min, ap, ◌∙◌}
use Rattle.pf_model.specs.Reports.{label_of}
use Rattle.pf_sched.specs.Evidence.{most}
use Rattle.pf_sched.proofs.Evidenced.{counts_more}
use Rattle.pf_sched.proofs.evidence.ProcessCounts.see.Goals as goal

pub returns : goal.returns
returns c ls so_far =
    let old = c.args.self.now in
    counts_more old _ ls (label_of c.args.label.now) so_far
    (c.with_one-self.ensures ∙ ap (λ b. min (old.begun + cond b 1 0) most) c.is_begin.ensures)
    (c.with_one-self-2.ensures ∙ ap (λ b. min (old.ended + cond b 1 0) most) c.is_end.ensures)
