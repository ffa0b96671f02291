use Rattle.std.proofs.Common.{◌+◌, inl, inr, refl, sym, ap, subst, arith}
use Rattle.std.specs.Prelude.{option_map}
use Rattle.pf_hunt.specs.Hunts.{Tallies, no_seed}
use Rattle.pf_hunt.specs.Views.{leak_of, rows_of}
use Rattle.pf_hunt.proofs.Counting.{each_is_counted, ends_there, one_seed_more}
use Rattle.pf_hunt.proofs.Leaking.{leaks_there, no_leak}
use Rattle.pf_hunt.proofs.tallied.tally_in.Goals as goal

pub loop-seed-init : goal.loop-seed-init
loop-seed-init c =
    let j = c.args.hunt.now.job.asked in
    record {
      rows = subst (Tallies c.args.hunt.now.strategy j c.args.from c.args.from) (sym c.new-tally.ensures)
          (no_seed c.args.from (omega arith));
      leak = no_leak c.args.hunt.now.strategy j c.args.from c.args.from (omega arith);
      at = inl refl;
    }

pub add-requires : goal.add-requires
add-requires c =
    let at = c.loop-seed in
    let counted = each_is_counted c.args.hunt.now.strategy c.args.hunt.now.job.asked c.args.from at.seed
    (rows_of at.tally) at.invariant.rows in
    let judged = c.in_ok-judged.ensures in
    let one = ap (λ x. x.count) (c.met.ensures judged.0 judged.2.judged) in
    let fits = c.ranges.end.fits in
    let more = c.loop-seed-test.true in
    omega (arith, counted, one, fits, more)

pub loop-seed-preserved : goal.loop-seed-preserved
loop-seed-preserved c =
    let at = c.loop-seed in
    let j = c.args.hunt.now.job.asked in
    let judged = c.in_ok-judged.ensures in
    record {
      rows =
          rw (c.in_ok-add.ensures, c.met.ensures judged.0 judged.2.judged)
          (one_seed_more c.args.hunt.now.strategy j c.args.from at.seed (rows_of at.tally) judged.0
          (omega (arith, at.auto.seed)) at.invariant.rows judged.1);
      leak =
          c.earlier-leak.ensures c.args.hunt.now.strategy j c.args.from at.seed (at.seed + 1)
          (omega (arith, at.auto.seed)) (omega arith) at.invariant.leak
          (c.leak_at.ensures c.args.hunt.now.strategy j judged.0 judged.1 judged.2.judged.2);
      at = inr (omega (arith, c.loop-seed-test.true));
    }

pub returns : goal.returns
returns c =
    let w = c.args.hunt.now.strategy in
    let j = c.args.hunt.now.job.asked in
    let at = c.loop-seed in
    let over = c.loop-seed-test.false in
    record {
      rows = ends_there w j c.args.from c.args.end at.seed (rows_of at.tally) at.invariant.rows at.invariant.at
          (omega (arith, over));
      leak = leaks_there w j c.args.from c.args.end at.seed (option_map leak_of at.leak) at.invariant.leak
          at.invariant.at (omega (arith, over));
      end = refl;
    }
