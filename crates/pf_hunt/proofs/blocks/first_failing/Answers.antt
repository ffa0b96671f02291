use Rattle.std.proofs.Common.{refl}
use Rattle.std.specs.Prelude.{option_map}
use Rattle.pf_hunt.specs.Notices.{SearchNotices, Searches, leak_notice}
use Rattle.pf_hunt.specs.Views.{failure_of, leak_of}
use Rattle.pf_hunt.proofs.Hearing.{hears_then}
use Rattle.pf_hunt.proofs.blocks.first_failing.Goals as goal

pub returns-clause-heard : goal.returns-clause-heard
returns-clause-heard g c =
    let h = c.args.hunt.now in
    let s = c.in_ok-searched.searched in
    let x = option_map failure_of s.failure in
    let l = option_map leak_of s.leak in
    hears_then g.O.HuntObserver.Heard (Searches c.args.range.may_stop c.args.range.first c.args.range.end s.end x)
    (SearchNotices h.strategy h.job.asked c.args.range.may_stop c.args.range.first c.args.range.end s.end x)
    c.args.observer.now
    c.search_blocks.new.observer
    c.notify_leak.new.observer (leak_notice l) c.in_ok-searched.ensures.heard c.notify_leak.ensures
    (λ blocks searches. (blocks, l, searches, c.in_ok-searched.ensures.known.leak, refl))
