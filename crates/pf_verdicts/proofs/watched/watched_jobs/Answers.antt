use Rattle.std.proofs.Common.{All, map, sym, subst}
use Rattle.std.proofs.lemmas.List.Elements.{All-push}
use Rattle.pf_property.specs.Views.{property_of}
use Rattle.pf_verdicts.specs.Watching.{Watches}
use Rattle.pf_verdicts.proofs.watched.watched_jobs.Goals as goal

pub loop-worker-preserved : goal.loop-worker-preserved
loop-worker-preserved c =
    let so = Watches c.args.job.now (map property_of c.args.further.now) in
    let watched : so c.in-Some-2.watched = rw c.in-Some-2.is at c.in_ok-watched.ensures in
    subst (All so) (sym c.in_ok-push.ensures.items)
    (All-push so c.loop-worker.jobs.items c.in-Some-2.watched c.loop-worker.invariant watched)
