use Rattle.std.proofs.Common.{◌≡◌, ◌≤◌, ◌∙◌, refl, sym, ap, arith, length}
use Rattle.pf_errors.specs.declared.fault.OrNoMemory.TheVariants.{NoMemory}
use Rattle.pf_wire.specs.declared.steps.TheConstants.{MOST_BYTES}
use Rattle.pf_trace.proofs.Fronts.{handed_on}
use Rattle.pf_wire.proofs.Leaving.{less_left, within_later, is_there_ended, is_there_ended_ill, is_there_first}
use Rattle.pf_wire.proofs.Leaving.{is_there_further, is_there_later, is_there_stopped, is_there_taken}
use Rattle.pf_wire.proofs.Leaving.{is_there_taken_more}
use Rattle.pf_wire.proofs.Leaving.{is_there_unread, is_there_without_memory}
use Rattle.pf_wire.proofs.Refusing.{reads_first, reads_later, reads_further, refuses_line}
use Rattle.pf_wire.proofs.steps.answer_pieces.Goals as goal

pub loop-is_over-init : goal.loop-is_over-init
loop-is_over-init g c =
    let none = c.new-input.ensures.bytes in
    let zero_taken = c.new-input.ensures.taken in
    record {
      is_there = is_there_first c.new-input.result.bytes.items _ c.new-input.result.taken _ _ none
          c.requires.is_new zero_taken;
      leads = reads_first c.new-input.result.bytes.items c.new-input.result.taken _ none zero_taken;
      unreported = refl;
      unfinished = rw none refl;
      reads = refl;
      writes = refl;
      within = omega (arith, ap length none, zero_taken);
      most = omega (arith, zero_taken);
      more = λ o. omega (arith, zero_taken);
    }

pub returns-in_err-is_over-clause-taken : goal.returns-in_err-is_over-clause-taken
returns-in_err-is_over-clause-taken g c =
    let l = c.loop-is_over in
    let t = c.take_piece.ensures.taken in
    is_there_taken_more l.is_over l.input.bytes.items l.world l.number l.input.taken _ _ _ _ _ t.0
    l.invariant.is_there t.1 t.2

pub returns-in_err-is_over-clause-fault : goal.returns-in_err-is_over-clause-fault
returns-in_err-is_over-clause-fault g c =
    let l = c.loop-is_over in
    let going = c.loop-is_over-test.true in
    handed_on c.from_residual.result c.in_err-is_over.field-0.0 _ c.from_residual.ensures
    (λ p right.
    is_there_unread p right c.in_err-is_over.field-0.0 l.input.bytes.items l.world l.number l.input.taken _ _ _ _ _ _
    _ _
    _ _ (rw going at l.invariant.is_there) l.invariant.most
    (rw going at l.invariant.unfinished) l.invariant.reads l.invariant.writes c.in_err-is_over.ensures.fault)

pub answer_due-requires : goal.answer_due-requires
answer_due-requires g c =
    let l = c.loop-is_over in
    let t = c.in_ok-is_over.ensures.piece in
    omega (
      arith,
      within_later l.input.bytes.items c.take_piece.new.self.bytes.items t.0 l.number l.input.taken
          c.take_piece.new.self.taken t.2 t.3 l.invariant.within,
      t.6,
      ap length c.deref.ensures.value,
    )

pub returns-in_err-left-clause-taken : goal.returns-in_err-left-clause-taken
returns-in_err-left-clause-taken g c =
    let l = c.loop-is_over in
    let t = c.in_ok-is_over.ensures.piece in
    let s = is_there_later _ _ _ _ _ c.loop-is_over-test.true l.invariant.is_there t in
    is_there_taken c.in_ok-is_over.is_over c.take_piece.new.self.bytes.items l.world l.number
    c.take_piece.new.self.taken _ _ _ _ s t.6

pub returns-in_err-left-clause-fault : goal.returns-in_err-left-clause-fault
returns-in_err-left-clause-fault g c =
    let l = c.loop-is_over in
    let t = c.in_ok-is_over.ensures.piece in
    let s = is_there_later _ _ _ _ _ c.loop-is_over-test.true l.invariant.is_there t in
    handed_on c.from_residual-in_err-left.result c.in_err-left.field-0.0 _ c.from_residual-in_err-left.ensures
    (λ p right.
    is_there_stopped p right c.in_ok-is_over.is_over c.take_piece.new.self.bytes.items l.world l.number
    c.take_piece.new.self.taken _ _ _ _ _ c.in_err-left.field-0.0 _ _ _ _ _ s t.6
    (c.in_ok-is_over.ensures.kept ∙ l.invariant.reads) l.invariant.writes
    ((rw c.deref.ensures.value at c.in_err-left.ensures.fault) p right))

pub returns-in_default-clause-answered : goal.returns-in_default-clause-answered
returns-in_default-clause-answered g c =
    let l = c.loop-is_over in
    let t = c.in_ok-is_over.ensures.piece in
    let s = is_there_later _ _ _ _ _ c.loop-is_over-test.true l.invariant.is_there t in
    λ p right.
    is_there_ended_ill p right c.in_ok-is_over.is_over c.take_piece.new.self.bytes.items l.world l.number
    c.take_piece.new.self.taken _ _ _ _ _ s t.6
    ((rw (c.in_default.is, c.deref.ensures.value) at c.in_ok-left.ensures.answered) p right)

pub returns-in_default-clause-taken : goal.returns-in_default-clause-taken
returns-in_default-clause-taken g c =
    let l = c.loop-is_over in
    let t = c.in_ok-is_over.ensures.piece in
    let s = is_there_later _ _ _ _ _ c.loop-is_over-test.true l.invariant.is_there t in
    is_there_taken c.in_ok-is_over.is_over c.take_piece.new.self.bytes.items l.world l.number
    c.take_piece.new.self.taken _ _ _ _ s t.6

pub returns-in_err-rest-clause-taken : goal.returns-in_err-rest-clause-taken
returns-in_err-rest-clause-taken g c =
    let l = c.loop-is_over in
    let t = c.in_ok-is_over.ensures.piece in
    let s = is_there_later _ _ _ _ _ c.loop-is_over-test.true l.invariant.is_there t in
    is_there_taken c.in_ok-is_over.is_over c.take_piece.new.self.bytes.items l.world l.number
    c.take_piece.new.self.taken _ _ _ _ s t.6

pub returns-in_err-rest-clause-fault : goal.returns-in_err-rest-clause-fault
returns-in_err-rest-clause-fault g c =
    let l = c.loop-is_over in
    let t = c.in_ok-is_over.ensures.piece in
    let s = is_there_later _ _ _ _ _ c.loop-is_over-test.true l.invariant.is_there t in
    let a = rw (c.in-Some.is, c.deref.ensures.value) at c.in_ok-left.ensures.answered in
    let s' =
    is_there_further c.in_ok-is_over.is_over c.take_piece.new.self.bytes.items c.in-Some.left.rest.now l.world
    c.answer_due.new.world l.number c.in-Some.left.number
    c.take_piece.new.self.taken _ _ _ _ _ s a.0 in
    handed_on c.from_residual-in_err-rest.result NoMemory _ c.from_residual-in_err-rest.ensures
    (λ p right.
    is_there_without_memory p right c.in_ok-is_over.is_over c.in-Some.left.rest.now c.answer_due.new.world
    c.in-Some.left.number c.take_piece.new.self.taken _ _
    (g.R.Read.remaining c.take_piece.new.reader.inner) _ _ _ _ _ _ s' t.6
    (c.in_ok-is_over.ensures.kept ∙ l.invariant.reads) (c.in_ok-left.ensures.kept ∙ l.invariant.writes))

pub loop-is_over-smaller-then-is_due : goal.loop-is_over-smaller-then-is_due
loop-is_over-smaller-then-is_due g c =
    let l = c.loop-is_over in
    let t = c.in_ok-is_over.ensures.piece in
    let more : l.input.taken ≤ c.take_piece.new.self.taken = omega (arith, t.3) in
    rw (c.loop-is_over-test.true, c.keep.ensures.taken)
    (less_left c.in_ok-is_over.is_over MOST_BYTES l.input.taken c.take_piece.new.self.taken t.5 more)

pub loop-is_over-preserved-then-is_due : goal.loop-is_over-preserved-then-is_due
loop-is_over-preserved-then-is_due g c =
    let l = c.loop-is_over in
    let t = c.in_ok-is_over.ensures.piece in
    let s = is_there_later _ _ _ _ _ c.loop-is_over-test.true l.invariant.is_there t in
    let a = rw (c.in-Some.is, c.deref.ensures.value) at c.in_ok-left.ensures.answered in
    let s' =
    is_there_further c.in_ok-is_over.is_over c.take_piece.new.self.bytes.items c.in-Some.left.rest.now l.world
    c.answer_due.new.world l.number c.in-Some.left.number
    c.take_piece.new.self.taken _ _ _ _ _ s a.0 in
    let e = rw (c.in-Some.is, c.deref.ensures.value) at c.in_ok-left.ensures.ending in
    let within = within_later l.input.bytes.items c.take_piece.new.self.bytes.items t.0 l.number l.input.taken
    c.take_piece.new.self.taken t.2 t.3 l.invariant.within in
    let kept = c.keep.ensures.bytes ∙ c.in_ok-rest.ensures.items in
    record {
      is_there = rw (kept, c.keep.ensures.taken) s';
      leads =
          rw (kept, c.keep.ensures.taken)
          (reads_further c.in_ok-is_over.is_over c.take_piece.new.self.bytes.items c.in-Some.left.rest.now l.number
          c.in-Some.left.number c.take_piece.new.self.taken _ _
          (reads_later l.is_over c.in_ok-is_over.is_over l.input.bytes.items c.take_piece.new.self.bytes.items l.number
          l.input.taken c.take_piece.new.self.taken _ _ _ c.loop-is_over-test.true l.invariant.leads t) e.0);
      unreported = ap (λ x. x.refused) e.1 ∙ l.invariant.unreported;
      unfinished = rw kept a.1;
      reads = c.in_ok-is_over.ensures.kept ∙ l.invariant.reads;
      writes = c.in_ok-left.ensures.kept ∙ l.invariant.writes;
      within = omega (arith, ap length kept, c.keep.ensures.taken, a.2, within);
      most = rw c.keep.ensures.taken t.6;
      more = λ o. rw c.keep.ensures.taken (t.5 o).1;
    }

pub loop-is_over-smaller : goal.loop-is_over-smaller
loop-is_over-smaller g c =
    let l = c.loop-is_over in
    let t = c.in_ok-is_over.ensures.piece in
    let more : l.input.taken ≤ c.take_piece.new.self.taken = omega (arith, t.3) in
    rw c.loop-is_over-test.true (less_left c.in_ok-is_over.is_over MOST_BYTES l.input.taken
    c.take_piece.new.self.taken t.5 more)

pub loop-is_over-preserved : goal.loop-is_over-preserved
loop-is_over-preserved g c =
    let l = c.loop-is_over in
    let t = c.in_ok-is_over.ensures.piece in
    record {
      is_there = is_there_later _ _ _ _ _ c.loop-is_over-test.true l.invariant.is_there t;
      leads = reads_later l.is_over c.in_ok-is_over.is_over l.input.bytes.items c.take_piece.new.self.bytes.items
          l.number l.input.taken c.take_piece.new.self.taken _ _ _ c.loop-is_over-test.true l.invariant.leads t;
      unreported = l.invariant.unreported;
      unfinished = sym c.is_due.ensures ∙ c.if-is_due.false;
      reads = c.in_ok-is_over.ensures.kept ∙ l.invariant.reads;
      writes = l.invariant.writes;
      within = within_later l.input.bytes.items c.take_piece.new.self.bytes.items t.0 l.number l.input.taken
          c.take_piece.new.self.taken t.2 t.3 l.invariant.within;
      most = t.6;
      more = λ o. (t.5 o).1;
    }

pub returns-clause-answered : goal.returns-clause-answered
returns-clause-answered g c =
    let l = c.loop-is_over in
    let ended = c.loop-is_over-test.false in
    λ p right.
    is_there_ended p right l.input.bytes.items l.world l.number l.input.taken _ _ _ _ (rw ended at l.invariant.is_there)
    l.invariant.most (rw ended at l.invariant.unfinished)

pub returns-clause-taken : goal.returns-clause-taken
returns-clause-taken g c =
    let l = c.loop-is_over in
    is_there_taken l.is_over l.input.bytes.items l.world l.number l.input.taken _ _ _ _ l.invariant.is_there
    l.invariant.most

pub returns-in_default-clause-ending : goal.returns-in_default-clause-ending
returns-in_default-clause-ending g c =
    let l = c.loop-is_over in
    let t = c.in_ok-is_over.ensures.piece in
    let s = reads_later l.is_over c.in_ok-is_over.is_over l.input.bytes.items c.take_piece.new.self.bytes.items l.number
    l.input.taken c.take_piece.new.self.taken _ _ _ c.loop-is_over-test.true l.invariant.leads t in (
      λ two. refuses_line c.in_ok-is_over.is_over c.take_piece.new.self.bytes.items l.number c.take_piece.new.self.taken
          _ _ c.answer_due.new.ending s t.6
          (rw (c.in_default.is, c.deref.ensures.value) at c.in_ok-left.ensures.ending),
      λ (none : 2 ≡ 0). absurd cc,
    )

pub returns-clause-ending : goal.returns-clause-ending
returns-clause-ending g c = (λ (two : 0 ≡ 2). absurd cc, λ none. c.loop-is_over.invariant.unreported)
