use Rattle.std.proofs.Common.{refl}
use Rattle.std.specs.Prelude.{option_map}
use Rattle.pf_hunt.specs.Notices.{EndsHunt, HasFailures, TallyNotices, leak_notice}
use Rattle.pf_hunt.specs.Views.{leak_of}
use Rattle.pf_hunt.proofs.Hearing.{hears_then}
use Rattle.pf_hunt.proofs.blocks.tally_all.Goals as goal

pub returns-clause-heard : goal.returns-clause-heard
returns-clause-heard g c =
    let h = c.args.hunt.now in
    let t = c.in_ok-tallied.tallied in
    let l = option_map leak_of t.leak in
    hears_then g.O.HuntObserver.Heard
    (EndsHunt (HasFailures h.strategy h.job.asked c.args.range.first) c.args.range.may_stop
    c.args.range.first c.args.range.end t.end)
    (TallyNotices h.strategy h.job.asked c.args.range.may_stop c.args.range.first c.args.range.end t.end)
    c.args.observer.now
    c.tally_blocks.new.observer
    c.notify_leak.new.observer (leak_notice l) c.in_ok-tallied.ensures.heard c.notify_leak.ensures
    (λ blocks ends. (blocks, l, ends, c.in_ok-tallied.ensures.known.leak, refl))
