use Rattle.std.proofs.Common.{◌∙◌, arith, inl, inr, sym}
use Rattle.pulsefarm.proofs.Farms.{input_at, lacks_at, source_more}
use Rattle.pulsefarm.proofs.sources.sources.Goals as goal

pub names-preserved : goal.names-preserved
names-preserved g c =
    let names = c.args.names.now in
    let l = c.names in
    let i = l.name-index in
    let lt = c.names-test.true in
    record {
      sources = source_more _ (λ w. w.now) names i _ l.sources.items _ c.in-Ok.source l.number lt l.invariant.number
          c.in_ok-push-in-Ok.ensures.items l.invariant.sources c.in-Ok.ensures.source;
      is_read = input_at (λ w. w.now) names i _ l.is_read _ lt c.eq-is_input.ensures l.invariant.is_read;
      number = omega (arith, l.invariant.number);
    }

pub returns-then-is_read-clause-none : goal.returns-then-is_read-clause-none
returns-then-is_read-clause-none g c =
    lacks_at g.R.Opens.refuses (λ w. w.now) c.args.names.now c.names.name-index _ c.names-test.true
    (inr (sym c.eq-is_input.ensures ∙ c.if-is_input.true, sym c.names.invariant.is_read ∙ c.if-is_read.true))

pub returns-in-Err-Fault-clause-none : goal.returns-in-Err-Fault-clause-none
returns-in-Err-Fault-clause-none g c =
    lacks_at g.R.Opens.refuses (λ w. w.now) c.args.names.now c.names.name-index _ c.names-test.true
    (inl (rw c.in-Err-Fault.field-0-is at c.in-Err-Fault.ensures.refused))
