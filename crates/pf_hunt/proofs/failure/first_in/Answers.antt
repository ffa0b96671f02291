use Rattle.std.proofs.Common.{◌≡◌, ◌+◌, suc, inl, inr, refl, sym, ap, ◌∙◌, subst, arith}
use Rattle.std.specs.Prelude.{option_map}
use Rattle.pf_model.specs.Reports.{view_of_report}
use Rattle.pf_strategy.proofs.Meant.{one_report}
use Rattle.pf_hunt.specs.Hunts.{FirstLeaking, fails, first, none_is}
use Rattle.pf_hunt.specs.Views.{failures_of, further_of, leak_of}
use Rattle.pf_hunt.proofs.Firsts.{no_seeds, one_more}
use Rattle.pf_hunt.proofs.Leaking.{leaks_there, no_leak}
use Rattle.pf_hunt.proofs.failure.first_in.Goals as goal

pub loop-seed-init : goal.loop-seed-init
loop-seed-init c =
    let h = c.args.hunt.now in
    let from = c.args.from in
    record {
      none = no_seeds (fails (failures_of h)) h.strategy h.job.asked from from (omega arith);
      leak = no_leak h.strategy h.job.asked from from (omega arith);
      at = inl refl;
    }

pub loop-seed-preserved : goal.loop-seed-preserved
loop-seed-preserved c =
    let h = c.args.hunt.now in
    let j = h.job.asked in
    let at = c.loop-seed in
    let judged = c.in_ok-judged.ensures in
    record {
      none = one_more (fails (failures_of h)) h.strategy j c.args.from at.seed judged.0 at.invariant.none judged.1
          (sym (c.if-fails.ensures (further_of h) judged.0 judged.2));
      leak =
          c.earlier-leak.ensures h.strategy j c.args.from at.seed (at.seed + 1) (omega (arith, at.auto.seed))
          (omega arith) at.invariant.leak
          (c.leak_at.ensures h.strategy j judged.0 judged.1 judged.2.judged.2);
      at = inr (omega (arith, c.loop-seed-test.true));
    }

pub returns-then-fails : goal.returns-then-fails
returns-then-fails c =
    let h = c.args.hunt.now in
    let j = h.job.asked in
    let at = c.loop-seed in
    let r = view_of_report c.in_ok-report.report in
    let judged = c.in_ok-judged.ensures in
    let same = one_report h.strategy j at.seed r judged.0 c.in_ok-report.ensures judged.1 in
    let past : at.seed + 1 ≡ suc at.seed = omega arith in
    record {
      failure =
          first at.seed r (omega (arith, at.auto.seed)) (omega (arith, c.loop-seed-test.true)) c.in_ok-report.ensures
          (ap (fails (failures_of h)) same ∙ sym (c.if-fails.ensures
          (further_of h) judged.0 judged.2)) at.invariant.none;
      leak =
          subst (λ n. FirstLeaking h.strategy j c.args.from n (option_map leak_of c.earlier-leak.result)) past
          (c.earlier-leak.ensures h.strategy j c.args.from at.seed (at.seed + 1) (omega (arith, at.auto.seed))
          (omega arith) at.invariant.leak
          (c.leak_at.ensures h.strategy j judged.0 judged.1 judged.2.judged.2));
      end = refl;
    }

pub returns : goal.returns
returns c =
    let h = c.args.hunt.now in
    let at = c.loop-seed in
    let over = c.loop-seed-test.false in
    record {
      failure = none_is (λ s r from to m. at.invariant.none s r from (omega (arith, over)) m);
      leak = leaks_there h.strategy h.job.asked c.args.from c.args.end at.seed (option_map leak_of at.leak)
          at.invariant.leak at.invariant.at (omega (arith, over));
      end = refl;
    }
