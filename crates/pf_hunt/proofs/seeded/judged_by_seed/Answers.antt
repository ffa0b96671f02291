use Rattle.std.proofs.Common.{map, sym, subst}
use Rattle.std.specs.Prelude.{IfOk, IfSome}
use Rattle.pf_property.specs.Views.{property_of}
use Rattle.pf_request.specs.Job.{Job}
use Rattle.pf_verdicts.specs.Judging.{JudgesBySeed}
use Rattle.pf_verdicts.specs.Watching.{Watches}
use Rattle.pf_hunt.proofs.seeded.judged_by_seed.Goals as goal

pub judged_by-requires : goal.judged_by-requires
judged_by-requires c =
    let h = c.args.hunt.now in
    let found = c.watched_of-watched.result in
    subst (λ ps. IfSome found (λ w. Watches c.job_of.result.now (map property_of ps) w.now))
    (sym c.as_slice-further.ensures.value)
    (subst (λ (j : Job). IfSome found (λ w. Watches j (map property_of h.further.items) w.now)) (sym c.job_of.ensures)
    c.watched_of-watched.ensures)

pub returns : goal.returns
returns c =
    let h = c.args.hunt.now in
    let v = c.judged_by.result in
    subst (λ ps. IfOk v (JudgesBySeed h.strategy (map property_of ps) h.job.asked c.args.seed))
    c.as_slice-further.ensures.value
    (subst (λ (j : Job). IfOk v (JudgesBySeed h.strategy (map property_of c.as_slice-further.result.now) j.asked
    c.args.seed)) c.job_of.ensures c.judged_by.ensures)
