use Rattle.std.proofs.Common.{map, ap, ◌∙◌}
use Rattle.pf_model.specs.Properties.{Property, verdict}
use Rattle.pf_model.specs.Reports.{view_of_outcome}
use Rattle.pf_property.specs.Views.{labels_in, property_of}
use Rattle.pf_request.specs.Job.{Job}
use Rattle.pf_sched.proofs.BySeed.{means_by_seed}
use Rattle.pf_verdicts.specs.Watching.{verdict_seen}
use Rattle.pf_verdicts.proofs.Repeating.{judged_with, of_watched, verdict_by_seed}
use Rattle.pf_verdicts.proofs.Outcomes.{judged_so}
use Rattle.pf_verdicts.proofs.run.judged_watched.Goals as goal

pub judged_run-requires : goal.judged_run-requires
judged_run-requires c none = absurd cc

pub returns : goal.returns
returns c =
    let by = c.args.by in
    let j = c.args.job.now in
    let w = c.args.watched.now in
    let p = property_of w.property in
    let ps = map property_of c.args.further.now in
    let seen = c.in_ok-seen.seen in
    let judged = c.in_ok-seen.ensures in
    let r = judged.0 in
    let known = c.requires in
    let reported = c.judged_seen.ensures in
    let means = means_by_seed by w.job.asked r judged.1 in
    let own = verdict_by_seed by.strategy w.job.asked by.seed r means
    ∙ ap (λ (k : Job). verdict k.asked.property (labels_in r.events) r.outcome) known.job in
    let first = reported.verdict
    ∙ ap (λ (q : Property). verdict_seen seen.verdict (view_of_outcome seen.outcome) q) known.first in (
      judged_with j.asked.property r,
      of_watched by.strategy j.asked w.job.asked p by.seed r (ap (λ (k : Job). k.asked) known.job) means,
      judged_so p r seen own judged.2 j.asked.property ps c.judged_seen.result known.seen reported.outcome first
          reported.waiting reported.further,
    )
