use Rattle.std.proofs.Common.{◌≡◌, ◌<◌, false, inl, inr, refl, sym, ◌∙◌, subst, arith}
use Rattle.std.specs.Prelude.{option_map}
use Rattle.pf_hunt.specs.Hunts.{Tallies, less_far, no_seed, to_end}
use Rattle.pf_hunt.specs.Notices.{HasFailures, stops}
use Rattle.pf_hunt.specs.Views.{leak_of, rows_of}
use Rattle.pf_hunt.proofs.Counting.{counted_both, each_is_counted, ends_there, rows_on}
use Rattle.pf_hunt.proofs.Hearing.{all_run, block_run, none_run, stopped_there}
use Rattle.pf_hunt.proofs.Leaking.{leaks_there, no_leak}
use Rattle.pf_hunt.proofs.Stopping.{may_stop_then}
use Rattle.pf_hunt.proofs.blocks.tally_blocks.Goals.{else-next-range-via-then-next-range+else-stops}
use Rattle.pf_hunt.proofs.blocks.tally_blocks.Goals.{else-next-range-via-else-next-range}
use Rattle.pf_hunt.proofs.blocks.tally_blocks.Goals as goal

pub loop-at-init : goal.loop-at-init
loop-at-init g c =
    let w = c.args.hunt.now.strategy in
    let j = c.args.hunt.now.job.asked in
    let from = c.args.range.first in
    record {
      after = omega arith;
      within = inl refl;
      rows = subst (Tallies w j from from) (sym c.new-tally.ensures) (no_seed from (omega arith));
      leak = no_leak w j from from (omega arith);
      heard = none_run g.O.HuntObserver.Heard (HasFailures w j from) c.args.range.may_stop from c.args.range.end
          c.args.observer.now;
    }

pub join-requires : goal.join-requires
join-requires g c =
    let at = c.loop-at in
    let next = c.block_end-next.ensures in
    counted_both c.args.hunt.now.strategy c.args.hunt.now.job.asked c.args.range.first at.at c.block_end-next.result _ _
    at.invariant.after (omega (arith, next.0))
    (omega (arith, next.1, c.block_end-next.type_inv)) at.invariant.rows c.in_ok-block.ensures.rows

pub failures-requires : goal.failures-requires
failures-requires g c =
    let w = c.args.hunt.now.strategy in
    let j = c.args.hunt.now.job.asked in
    let at = c.loop-at in
    let next = c.block_end-next.ensures in
    let all = rows_of c.join.new.self in
    let rows = rows_on w j c.args.range.first at.at c.block_end-next.result _ _ all at.invariant.after
    (omega (arith, next.0))
    at.invariant.rows
    c.in_ok-block.ensures.rows c.in_ok-join.ensures in
    let count = each_is_counted w j c.args.range.first c.block_end-next.result all rows in
    omega (arith, count, next.1, c.block_end-next.type_inv)

pub returns-then-stops-clause-known : goal.returns-then-stops-clause-known
returns-then-stops-clause-known g c =
    let w = c.args.hunt.now.strategy in
    let j = c.args.hunt.now.job.asked in
    let at = c.loop-at in
    let next = c.block_end-next.ensures in
    let block = c.in_ok-block.ensures in
    record {
      rows =
          rows_on w j c.args.range.first at.at c.block_end-next.result _ _ (rows_of c.join.new.self) at.invariant.after
          (omega (arith, next.0)) at.invariant.rows
          block.rows c.in_ok-join.ensures;
      leak = c.earlier-leak.ensures w j c.args.range.first at.at c.block_end-next.result at.invariant.after
          (omega (arith, next.0)) at.invariant.leak block.leak;
      end = refl;
    }

pub returns-then-stops-clause-reach : goal.returns-then-stops-clause-reach
returns-then-stops-clause-reach g c =
    less_far c.block_end-next.result (may_stop_then c.args.range.may_stop c.progress-pace.result
    (sym c.stops.ensures ∙ c.if-stops.true))
    (omega (arith, c.loop-at.invariant.after, c.block_end-next.ensures.0)) (omega (arith, c.if-next-range.true))

pub returns-then-stops-clause-heard : goal.returns-then-stops-clause-heard
returns-then-stops-clause-heard g c =
    let w = c.args.hunt.now.strategy in
    let j = c.args.hunt.now.job.asked in
    let at = c.loop-at in
    let next = c.block_end-next.result in
    let all = rows_of c.join.new.self in
    let rows = rows_on w j c.args.range.first at.at next _ _ all at.invariant.after
    (omega (arith, c.block_end-next.ensures.0)) at.invariant.rows
    c.in_ok-block.ensures.rows c.in_ok-join.ensures in
    stopped_there g.O.HuntObserver.Heard
    (HasFailures w j c.args.range.first) c.args.range.may_stop c.args.range.first c.args.range.end
    c.args.observer.now at.observer
    c.progress-pace.new.self at.at next c.failures.result c.progress-pace.result at.invariant.heard
    c.progress-pace.ensures
    (omega (arith, c.block_end-next.ensures.0)) (all, rows, c.failures.ensures) (omega (arith, c.if-next-range.true))
    (sym c.stops.ensures ∙ c.if-stops.true)

pub loop-at-preserved : goal.loop-at-preserved
loop-at-preserved g c =
    let w = c.args.hunt.now.strategy in
    let j = c.args.hunt.now.job.asked in
    let at = c.loop-at in
    let next = c.block_end-next.ensures in
    let end = c.block_end-next.result in
    let block = c.in_ok-block.ensures in
    let all = rows_of c.join.new.self in
    let rows = rows_on w j c.args.range.first at.at end _ _ all at.invariant.after
    (omega (arith, next.0)) at.invariant.rows
    block.rows c.in_ok-join.ensures in
    let on : end < c.args.range.end → stops c.args.range.may_stop c.progress-pace.result ≡ false =
    λ before. elim c.else-next-range.branch [
      | else-next-range-via-then-next-range+else-stops w ↦ sym w.stops.ensures ∙ w.if-stops.false
      | else-next-range-via-else-next-range w ↦ absurd (omega (arith, before, w.if-next-range.false))
    ] in
    record {
      after = omega (arith, next.0, at.invariant.after);
      within = inr next.1;
      rows = rows;
      leak = c.earlier-leak.ensures w j c.args.range.first at.at end at.invariant.after (omega (arith, next.0))
          at.invariant.leak block.leak;
      heard =
          block_run g.O.HuntObserver.Heard
          (HasFailures w j c.args.range.first) c.args.range.may_stop c.args.range.first c.args.range.end
          c.args.observer.now at.observer
          c.progress-pace.new.self at.at end c.failures.result c.progress-pace.result at.invariant.heard
          c.progress-pace.ensures (omega (arith, next.0))
          (all, rows, c.failures.ensures) next.1 on;
    }

pub returns-clause-known : goal.returns-clause-known
returns-clause-known g c =
    let w = c.args.hunt.now.strategy in
    let j = c.args.hunt.now.job.asked in
    let at = c.loop-at in
    let over = c.loop-at-test.false in
    record {
      rows = ends_there w j c.args.range.first c.args.range.end at.at
          (rows_of at.tally) at.invariant.rows at.invariant.within
          (omega (arith, over));
      leak = leaks_there w j c.args.range.first c.args.range.end at.at (option_map leak_of at.leak) at.invariant.leak
          at.invariant.within (omega (arith, over));
      end = refl;
    }

pub returns-clause-reach : goal.returns-clause-reach
returns-clause-reach g c = to_end

pub returns-clause-heard : goal.returns-clause-heard
returns-clause-heard g c =
    let h = c.args.hunt.now in
    all_run g.O.HuntObserver.Heard
    (HasFailures h.strategy h.job.asked c.args.range.first) c.args.range.may_stop c.args.range.first
    c.args.range.end c.args.observer.now
    c.loop-at.observer c.loop-at.at c.loop-at.invariant.heard (omega (arith, c.loop-at-test.false))
