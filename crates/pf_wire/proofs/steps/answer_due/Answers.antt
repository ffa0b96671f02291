use Rattle.std.proofs.Common.{◌≡◌, ◌+◌, ◌∙◌, Result, Ok, Err, refl, sym, subst, arith}
use Rattle.std.specs.Prelude.{IfErr, IsErr, IsErrAnd}
use Rattle.pf_errors.specs.declared.fault.OrNoMemory.{OrNoMemory}
use Rattle.pf_errors.specs.declared.fault.OrNoMemory.TheVariants.{Fault}
use Rattle.pf_streams.specs.declared.stream.StreamFault.{StreamFault}
use Rattle.pf_wire.specs.Whole.{whole_text}
use Rattle.pf_trace.proofs.Fronts.{handed_on}
use Rattle.pf_wire.proofs.Leaving.{at_hand_first, at_hand_sent, at_hand_in_part, at_hand_more, more_in_part, ends_ill}
use Rattle.pf_wire.proofs.Leaving.{ends_ill_in_part, in_part, leaves_at, shorter_after}
use Rattle.pf_wire.proofs.Refusing.{leads_both, leads_first, leads_one}
use Rattle.pf_wire.proofs.steps.answer_due.Goals as goal

pub loop-alloc-init : goal.loop-alloc-init
loop-alloc-init g c = record {
  so_far = λ p right. at_hand_first p c.args.is_over c.args.input.now c.new.result.items c.args.world.now c.args.first _
      c.new.ensures.items;
  leads = leads_first c.args.is_over c.args.input.now c.args.first;
  unreported = refl;
  same = refl;
  within = omega arith;
}

pub returns-in_err-send-in-Err-clause-fault : goal.returns-in_err-send-in-Err-clause-fault
returns-in_err-send-in-Err-clause-fault g c =
    let l = c.loop-alloc in
    handed_on c.from_residual.result (Fault c.in_err-send-in-Err.field-0.0) _ c.from_residual.ensures
    (λ p right.
    leaves_at p c.args.is_over c.args.input.now c.args.world.now c.args.first _ _ c.in_err-send-in-Err.field-0.0 _ _ _
    l.invariant.same c.in_err-send-in-Err.ensures.counted
    (at_hand_in_part p c.args.is_over c.args.input.now l.gathered.text.items l.rest.now c.args.world.now l.world
    c.args.first l.number _ _ _ (l.invariant.so_far p right)
    c.in_err-send-in-Err.ensures.front))

pub returns-in-Err-clause-fault : goal.returns-in-Err-clause-fault
returns-in-Err-clause-fault g c =
    let l = c.loop-alloc in
    λ p right. (
      c.in_ok-send-in-Err.ensures.kept ∙ l.invariant.same,
      in_part p c.args.is_over c.args.input.now l.rest.now c.args.world.now l.world c.args.first l.number _ _
          (at_hand_sent p c.args.is_over c.args.input.now l.gathered.text.items l.rest.now c.args.world.now l.world
          c.args.first l.number _ _ _ (l.invariant.so_far p right)
          c.in_ok-send-in-Err.ensures.sent.0),
    )

pub returns-in_err-add_reported-clause-fault : goal.returns-in_err-add_reported-clause-fault
returns-in_err-add_reported-clause-fault g c =
    let l = c.loop-alloc in
    let due = sym c.is_due.ensures ∙ c.loop-alloc-test.true in
    handed_on c.from_residual-in_err-add_reported.result (Fault c.in_err-add_reported.field-0.0) _
    c.from_residual-in_err-add_reported.ensures
    (λ p right.
    leaves_at p c.args.is_over c.args.input.now c.args.world.now c.args.first _ _ c.in_err-add_reported.field-0.0 _ _ _
    l.invariant.same c.in_err-add_reported.ensures.counted
    (more_in_part p right c.args.is_over c.args.input.now l.gathered.text.items l.rest.now c.args.world.now l.world
    c.answer_front.new.world c.args.first l.number _ _ _
    (whole_text c.answer_front.new.reported) _ (l.invariant.so_far p right) due c.in-Ok.ensures
    c.in_err-add_reported.ensures.front))

pub returns-in_err-send-clause-fault : goal.returns-in_err-send-clause-fault
returns-in_err-send-clause-fault g c =
    let l = c.loop-alloc in
    let due = sym c.is_due.ensures ∙ c.loop-alloc-test.true in
    handed_on c.from_residual-in_err-send.result (Fault c.in_err-send.field-0.0) _ c.from_residual-in_err-send.ensures
    (λ p right.
    leaves_at p c.args.is_over c.args.input.now c.args.world.now c.args.first _ _ c.in_err-send.field-0.0 _ _ _
    (c.in_ok-add_reported.ensures.kept ∙ l.invariant.same) c.in_err-send.ensures.counted
    (ends_ill_in_part p right c.args.is_over c.args.input.now l.gathered.text.items c.add_reported.new.self.text.items
    l.rest.now c.args.world.now l.world c.answer_front.new.world
    c.args.first l.number _ _ _ _ (whole_text c.answer_front.new.reported) (l.invariant.so_far p right) due
    (rw c.in_default.is at c.in-Ok.ensures)
    c.in_ok-add_reported.ensures.added c.in_err-send.ensures.front))

pub returns-in_default-clause-answered : goal.returns-in_default-clause-answered
returns-in_default-clause-answered g c =
    let l = c.loop-alloc in
    let due = sym c.is_due.ensures ∙ c.loop-alloc-test.true in
    λ p right.
    ends_ill p right c.args.is_over c.args.input.now l.gathered.text.items c.add_reported.new.self.text.items l.rest.now
    c.args.world.now l.world c.answer_front.new.world c.args.first l.number _ _ _ _
    (whole_text c.answer_front.new.reported) (l.invariant.so_far p right) due (rw c.in_default.is at c.in-Ok.ensures)
    c.in_ok-add_reported.ensures.added
    c.in_ok-send.ensures.sent.0

pub loop-alloc-smaller : goal.loop-alloc-smaller
loop-alloc-smaller g c =
    let l = c.loop-alloc in
    let due = sym c.is_due.ensures ∙ c.loop-alloc-test.true in
    shorter_after c.args.is_over l.rest.now c.in-Some.after.now l.number l.world c.answer_front.new.world
    (whole_text c.answer_front.new.reported) due (rw c.in-Some.is at c.in-Ok.ensures)

pub loop-alloc-preserved : goal.loop-alloc-preserved
loop-alloc-preserved g c =
    let l = c.loop-alloc in
    let due = sym c.is_due.ensures ∙ c.loop-alloc-test.true in
    let one = rw c.in-Some.is at c.in-Ok.ensures in
    let less = shorter_after c.args.is_over l.rest.now c.in-Some.after.now l.number l.world c.answer_front.new.world
    (whole_text c.answer_front.new.reported) due one in
    record {
      so_far = λ p right.
          at_hand_more p right c.args.is_over c.args.input.now l.gathered.text.items c.add_reported.new.self.text.items
          l.rest.now c.in-Some.after.now c.args.world.now l.world
          c.answer_front.new.world c.args.first l.number _ _ _ (whole_text c.answer_front.new.reported)
          (l.invariant.so_far p right) due one
          c.in_ok-add_reported.ensures.added;
      leads =
          leads_both c.args.is_over c.args.input.now l.rest.now c.in-Some.after.now c.args.first l.number (l.number + 1)
          l.invariant.leads
          (leads_one c.args.is_over l.rest.now c.in-Some.after.now (whole_text c.answer_front.new.reported) l.world
          c.answer_front.new.world l.number due one);
      unreported = l.invariant.unreported;
      same = c.in_ok-add_reported.ensures.kept ∙ l.invariant.same;
      within = omega (arith, less, l.invariant.within);
    }

pub returns-in_err-send-2-clause-fault : goal.returns-in_err-send-2-clause-fault
returns-in_err-send-2-clause-fault g c =
    let l = c.loop-alloc in
    handed_on c.from_residual-in_err-send-2.result (Fault c.in_err-send-2.field-0.0) _
    c.from_residual-in_err-send-2.ensures
    (λ p right.
    leaves_at p c.args.is_over c.args.input.now c.args.world.now c.args.first _ _ c.in_err-send-2.field-0.0 _ _ _
    l.invariant.same c.in_err-send-2.ensures.counted
    (at_hand_in_part p c.args.is_over c.args.input.now l.gathered.text.items l.rest.now c.args.world.now l.world
    c.args.first l.number _ _ _ (l.invariant.so_far p right)
    c.in_err-send-2.ensures.front))

pub returns-clause-answered : goal.returns-clause-answered
returns-clause-answered g c =
    let l = c.loop-alloc in (
      λ p right.
          at_hand_sent p c.args.is_over c.args.input.now l.gathered.text.items l.rest.now c.args.world.now l.world
          c.args.first l.number _ _ _ (l.invariant.so_far p right)
          c.in_ok-send-2.ensures.sent.0,
      sym c.is_due.ensures ∙ c.loop-alloc-test.false,
      l.invariant.within,
    )

pub returns-in_default-clause-ending : goal.returns-in_default-clause-ending
returns-in_default-clause-ending g c =
    let l = c.loop-alloc in (
      l.rest.now,
      l.number,
      l.invariant.leads,
      sym c.is_due.ensures ∙ c.loop-alloc-test.true,
      (rw c.in_default.is at c.in-Ok.ensures).0,
      c.refuse.ensures.line,
    )

pub returns-clause-ending : goal.returns-clause-ending
returns-clause-ending g c = (c.loop-alloc.invariant.leads, c.loop-alloc.invariant.unreported)
