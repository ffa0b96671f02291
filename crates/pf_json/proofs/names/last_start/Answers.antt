use Rattle.std.proofs.Common.{arith, ◌≡◌, ◌-◌, ◌+◌, ◌∙◌, Bool, None, Some, drop, ap, sym}
use Rattle.std.specs.Prelude.{if◌then◌else◌}
use Rattle.std.proofs.lemmas.List.{take_rest}
use Rattle.pf_json.specs.Names.{last_start}
use Rattle.pf_json.proofs.Starts.{begins, later}
use Rattle.pf_json.proofs.names.last_start.Goals as goal

pub returns-then-starts_with-clause-is : goal.returns-then-starts_with-clause-is
returns-then-starts_with-clause-is c =
    let w = c.args.words.now in
    let t = c.args.text.now in
    let k = c.loop-start.start - 1 in
    let at : last_start w (drop k t) ≡ Some 0 =
    begins w t _ k c.loop-start.start c.starts_with.result
    (omega (arith, c.loop-start.invariant.within, c.loop-start-test.true)) (omega (arith, c.loop-start-test.true))
    c.loop-start.invariant.none (take_rest t k) c.starts_with.ensures.value
    ∙ ap (λ (b : Bool). if b then Some 0 else None) c.if-starts_with.true in
    let same : k + 0 ≡ k = omega arith in
    sym (later w t k 0 at ∙ ap Some same)

pub loop-start-preserved : goal.loop-start-preserved
loop-start-preserved c =
    let w = c.args.words.now in
    let t = c.args.text.now in
    let k = c.loop-start.start - 1 in
    record {
      within = omega (arith, c.loop-start.invariant.within);
      none = begins w t _ k c.loop-start.start c.starts_with.result
          (omega (arith, c.loop-start.invariant.within, c.loop-start-test.true)) (omega (arith, c.loop-start-test.true))
          c.loop-start.invariant.none (take_rest t k) c.starts_with.ensures.value
          ∙ ap (λ (b : Bool). if b then Some 0 else None) c.if-starts_with.false;
    }
