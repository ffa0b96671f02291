use Rattle.std.proofs.Common.{◌≡◌, ◌<◌, false, None, inl, inr, refl, sym, ◌∙◌, arith}
use Rattle.std.specs.Prelude.{option_map}
use Rattle.pf_hunt.specs.Hunts.{fails, less_far, none_is, to_end}
use Rattle.pf_hunt.specs.Notices.{has_none, stops}
use Rattle.pf_hunt.specs.Views.{failures_of, leak_of}
use Rattle.pf_hunt.proofs.Firsts.{no_seeds}
use Rattle.pf_hunt.proofs.Leaking.{finds_both, finds_further, leaks_there, no_leak, none_fails_in}
use Rattle.pf_hunt.proofs.Hearing.{all_run, block_run, found_there, none_run, none_there, stopped_there}
use Rattle.pf_hunt.proofs.Stopping.{may_stop_then}
use Rattle.pf_hunt.proofs.blocks.search_blocks.Goals.{else-next-range-via-then-next-range+else-stops}
use Rattle.pf_hunt.proofs.blocks.search_blocks.Goals.{else-next-range-via-else-next-range}
use Rattle.pf_hunt.proofs.blocks.search_blocks.Goals as goal

pub loop-at-init : goal.loop-at-init
loop-at-init g c =
    let h = c.args.hunt.now in
    let from = c.args.range.first in
    record {
      after = omega arith;
      within = inl refl;
      none = no_seeds (fails (failures_of h)) h.strategy h.job.asked from from (omega arith);
      leak = no_leak h.strategy h.job.asked from from (omega arith);
      heard = none_run g.O.HuntObserver.Heard has_none c.args.range.may_stop from c.args.range.end c.args.observer.now;
    }

pub returns-then-is_some-clause-known : goal.returns-then-is_some-clause-known
returns-then-is_some-clause-known g c =
    let h = c.args.hunt.now in
    let at = c.loop-at in
    let next = c.block_end-next.result in
    let block = c.in_ok-block.block in
    let both =
    finds_both h c.args.range.first at.at next block.failure block.leak c.earlier-leak.result block.end
    at.invariant.after
    (omega (arith, c.block_end-next.ensures.0))
    at.invariant.none (λ d le leak. c.earlier-leak.ensures h.strategy h.job.asked c.args.range.first at.at d
    at.invariant.after le at.invariant.leak leak)
    c.in_ok-block.ensures in
    finds_further h c.args.range.first next c.args.range.end block.failure c.earlier-leak.result next
    c.block_end-next.ensures.1
    (sym c.if-is_some.ensures) both

pub returns-then-stops-clause-known : goal.returns-then-stops-clause-known
returns-then-stops-clause-known g c =
    let h = c.args.hunt.now in
    let at = c.loop-at in
    let block = c.in_ok-block.block in
    finds_both h c.args.range.first at.at c.block_end-next.result block.failure block.leak c.earlier-leak.result
    block.end
    at.invariant.after
    (omega (arith, c.block_end-next.ensures.0)) at.invariant.none
    (λ d le leak. c.earlier-leak.ensures h.strategy h.job.asked c.args.range.first at.at d at.invariant.after le
    at.invariant.leak leak) c.in_ok-block.ensures

pub returns-then-is_some-clause-reach : goal.returns-then-is_some-clause-reach
returns-then-is_some-clause-reach g c = to_end

pub returns-then-is_some-clause-heard : goal.returns-then-is_some-clause-heard
returns-then-is_some-clause-heard g c =
    let h = c.args.hunt.now in
    found_there g.O.HuntObserver.Heard c.args.range.may_stop c.args.range.first c.args.range.end
    (failures_of h) h.strategy
    h.job.asked
    c.args.observer.now c.loop-at.observer
    c.progress.new.self c.loop-at.at c.block_end-next.result c.progress.result c.in_ok-block.block.failure
    (sym c.if-is_some.ensures)
    c.in_ok-block.ensures.failure c.block_end-next.ensures.1 c.loop-at.invariant.heard c.progress.ensures

pub returns-then-stops-clause-reach : goal.returns-then-stops-clause-reach
returns-then-stops-clause-reach g c =
    less_far c.block_end-next.result (may_stop_then c.args.range.may_stop c.progress-pace.result
    (sym c.stops.ensures ∙ c.if-stops.true))
    (omega (arith, c.loop-at.invariant.after, c.block_end-next.ensures.0)) (omega (arith, c.if-next-range.true))

pub returns-then-stops-clause-heard : goal.returns-then-stops-clause-heard
returns-then-stops-clause-heard g c =
    let next = c.block_end-next.result in
    none_there g.O.HuntObserver.Heard c.args.range.may_stop c.args.range.first c.args.range.end c.args.observer.now
    c.progress-pace.new.self next c.in_ok-block.block.failure
    (sym c.if-is_some.ensures)
    (stopped_there g.O.HuntObserver.Heard has_none c.args.range.may_stop c.args.range.first c.args.range.end
    c.args.observer.now
    c.loop-at.observer c.progress-pace.new.self
    c.loop-at.at next 0 c.progress-pace.result c.loop-at.invariant.heard c.progress-pace.ensures
    (omega (arith, c.block_end-next.ensures.0)) refl
    (omega (arith, c.if-next-range.true)) (sym c.stops.ensures ∙ c.if-stops.true))

pub loop-at-preserved : goal.loop-at-preserved
loop-at-preserved g c =
    let h = c.args.hunt.now in
    let at = c.loop-at in
    let next = c.block_end-next.result in
    let block = c.in_ok-block.block in
    let both =
    finds_both h c.args.range.first at.at next block.failure block.leak c.earlier-leak.result block.end
    at.invariant.after
    (omega (arith, c.block_end-next.ensures.0))
    at.invariant.none (λ d le leak. c.earlier-leak.ensures h.strategy h.job.asked c.args.range.first at.at d
    at.invariant.after le at.invariant.leak leak)
    c.in_ok-block.ensures in
    let none = none_fails_in h c.args.range.first next block.failure c.earlier-leak.result next
    (sym c.if-is_some.ensures) both in
    let on : next < c.args.range.end → stops c.args.range.may_stop c.progress-pace.result ≡ false =
    λ before. elim c.else-next-range.branch [
      | else-next-range-via-then-next-range+else-stops w ↦ sym w.stops.ensures ∙ w.if-stops.false
      | else-next-range-via-else-next-range w ↦ absurd (omega (arith, before, w.if-next-range.false))
    ] in
    record {
      after = omega (arith, c.block_end-next.ensures.0, at.invariant.after);
      within = inr c.block_end-next.ensures.1;
      none = none.0;
      leak = none.1;
      heard =
          block_run g.O.HuntObserver.Heard has_none c.args.range.may_stop c.args.range.first c.args.range.end
          c.args.observer.now
          at.observer c.progress-pace.new.self at.at next 0
          c.progress-pace.result at.invariant.heard c.progress-pace.ensures (omega (arith, c.block_end-next.ensures.0))
          refl c.block_end-next.ensures.1 on;
    }

pub returns-clause-known : goal.returns-clause-known
returns-clause-known g c =
    let h = c.args.hunt.now in
    let at = c.loop-at in
    let over = c.loop-at-test.false in
    record {
      failure = none_is (λ s r from to m. at.invariant.none s r from (omega (arith, over)) m);
      leak = leaks_there h.strategy h.job.asked c.args.range.first c.args.range.end at.at (option_map leak_of at.leak)
          at.invariant.leak at.invariant.within (omega (arith, over));
      end = refl;
    }

pub returns-clause-reach : goal.returns-clause-reach
returns-clause-reach g c = to_end

pub returns-clause-heard : goal.returns-clause-heard
returns-clause-heard g c =
    none_there g.O.HuntObserver.Heard c.args.range.may_stop c.args.range.first c.args.range.end c.args.observer.now
    c.loop-at.observer
    c.args.range.end None refl
    (all_run g.O.HuntObserver.Heard has_none c.args.range.may_stop c.args.range.first c.args.range.end
    c.args.observer.now
    c.loop-at.observer c.loop-at.at
    c.loop-at.invariant.heard (omega (arith, c.loop-at-test.false)))
