use Rattle.std.proofs.Common.{ap, sym, ◌∙◌, arith}
use Rattle.pf_model.specs.Signals.{signal_of}
use Rattle.pf_sorted.specs.Values.{with_value}
use Rattle.pf_channels.proofs.Rows.{receivers_value, receivers_without, length_value, length_without, entry_at}
use Rattle.pf_channels.proofs.Rows.{taken_found, taken_only, taken_none}
use Rattle.pf_channels.proofs.row.SenderRow.take.Goals as goal

pub returns-in_default-clause-nothing : goal.returns-in_default-clause-nothing
returns-in_default-clause-nothing c =
    let g = rw c.from.ensures at c.in_default.ensures.found in
    rw (← c.self.view_is) (taken_none c.args.to c.self.inside.queues c.in_default.field-0 c.index_of.ensures.rises g.1)

pub invariant_of-self : goal.invariant_of-self
invariant_of-self c = receivers_value c.self.inside.queues c.in-Ok.at c.shift.new.self c.self.invariant

pub remove_at-requires : goal.remove_at-requires
remove_at-requires c = omega (
  arith,
  c.in-Ok.ensures.found.0,
  length_value c.self.inside.queues c.in-Ok.at c.shift.new.self,
)

pub invariant_of-self-in-None : goal.invariant_of-self-in-None
invariant_of-self-in-None c =
    rw c.remove_at.ensures.removed
    (receivers_without c.remove_at.result.0 _
    (receivers_value c.self.inside.queues c.in-Ok.at c.shift.new.self c.self.invariant))

pub returns-in-Some-clause-taken : goal.returns-in-Some-clause-taken
returns-in-Some-clause-taken c =
    let h = rw c.from.ensures at c.in-Ok.ensures.found in
    rw (← c.self.view_is)
    (taken_found c.args.to c.self.inside.queues c.in-Ok.at c.value_mut.result.now c.shift.new.self
    (signal_of c.in-Some.signal) h.1
    c.value_mut.ensures.value c.in-Some.ensures.oldest c.in-Some.ensures.left)

pub returns-in-Some-clause-count : goal.returns-in-Some-clause-count
returns-in-Some-clause-count c =
    rw (← c.self.view_is) (omega (arith, length_value c.self.inside.queues c.in-Ok.at c.shift.new.self))

pub returns-in-None-clause-taken : goal.returns-in-None-clause-taken
returns-in-None-clause-taken c =
    let h = rw c.from.ensures at c.in-Ok.ensures.found in
    let e = entry_at c.args.to c.self.inside.queues c.in-Ok.at c.shift.new.self c.remove_at.result h.1
    c.remove_at.ensures.was in
    let first = ap (λ q. q.first) (sym c.in-None.ensures.stays) ∙ ap (λ p. p.1.first) (sym e)
    ∙ sym c.into_first.ensures in
    rw (c.remove_at.ensures.removed, ap (λ p. p.0) e, ← c.self.view_is)
    (taken_only c.args.to c.self.inside.queues c.in-Ok.at c.value_mut.result.now c.shift.new.self
    (signal_of c.into_first.result)
    c.index_of.ensures.rises h.1 c.value_mut.ensures.value first c.in-None.ensures.only)

pub returns-in-None-clause-count : goal.returns-in-None-clause-count
returns-in-None-clause-count c =
    rw (c.remove_at.ensures.removed, ← c.self.view_is)
    (omega (
      arith,
      length_value c.self.inside.queues c.in-Ok.at c.shift.new.self,
      length_without c.remove_at.result.0 (with_value c.self.inside.queues c.in-Ok.at c.shift.new.self),
    ))
