use Rattle.std.proofs.Common.{◌≡◌, ◌≤◌, ◌+◌, ◌++◌, ◌∙◌, [], true, sym, ap, arith, length, length-append, subst}
use Rattle.pf_wire.specs.declared.steps.TheConstants.{MOST_BYTES}
use Rattle.pf_clients.specs.Faults.{ended_by}
use Rattle.pf_clients.specs.Lines.{AnswersFile}
use Rattle.pf_clients.specs.Replies.{Takes}
use Rattle.pf_clients.specs.declared.end.FileEnd.TheVariants.{Answered}
use Rattle.pf_clients.proofs.Lines.{none_yet, one_more, piece_more, ends_more, ends_over, ends_unread, file_answered}
use Rattle.pf_clients.proofs.Lines.{less_to_read, shorter_after}
use Rattle.pf_clients.proofs.Taken.{takes_both, takes_none}
use Rattle.pf_clients.proofs.client.Client.answer_lines.Goals as goal

pub lines-init : goal.lines-init
lines-init g c =
    let was = c.args.self.now in
    let input = c.new-input.result in
    let none = c.new-input.ensures.bytes in
    let zero_taken = c.new-input.ensures.taken in
    record {
      reached = (
        [],
        rw c.new-reader.ensures.inner (none_yet was.seat input.bytes.items input.taken _ none zero_taken),
        takes_none g.W.Write.contents was.replies was.reported.items,
      );
      within = omega (arith, ap length none, zero_taken);
      most = omega (arith, zero_taken);
      more = λ o. omega (arith, zero_taken);
    }

pub overflow_add-number : goal.overflow_add-number
overflow_add-number g c = omega (arith, c.lines.invariant.within, c.lines.invariant.most)

pub lines-smaller-then-is_due : goal.lines-smaller-then-is_due
lines-smaller-then-is_due g c =
    let l = c.lines in
    let due = sym c.is_due.ensures ∙ c.if-is_due.true in
    let a = rw c.deref.ensures.value at c.in-Ok.ensures.next in
    let less = shorter_after l.is_over l.input.bytes.items c.in-Ok.rest.items l.self.seat c.answer_next.new.self.seat
    a.0 due a.1 in
    rw c.keep.ensures.taken (omega (arith, less, ap length c.keep.ensures.bytes))

pub lines-preserved-then-is_due : goal.lines-preserved-then-is_due
lines-preserved-then-is_due g c =
    let contents = g.W.Write.contents in
    let was = c.args.self.now in
    let is = c.answer_next.new.self in
    let l = c.lines in
    let due = sym c.is_due.ensures ∙ c.if-is_due.true in
    let r = l.invariant.reached in
    let a = rw c.deref.ensures.value at c.in-Ok.ensures.next in
    let less = shorter_after l.is_over l.input.bytes.items c.in-Ok.rest.items l.self.seat is.seat a.0 due a.1 in
    record {
      reached = (
        r.0 ++ a.0,
        rw (c.keep.ensures.bytes, c.keep.ensures.taken)
            (one_more l.is_over was.seat l.self.seat is.seat l.input.bytes.items c.in-Ok.rest.items l.number
            l.input.taken _ _ r.0 a.0 r.1 due a.1),
        takes_both contents was.replies l.self.replies is.replies was.reported.items l.self.reported.items
            is.reported.items r.0 a.0 r.2 a.2,
      );
      within = omega (arith, less, ap length c.keep.ensures.bytes, c.keep.ensures.taken, l.invariant.within);
      most = rw c.keep.ensures.taken l.invariant.most;
      more = λ o. rw c.keep.ensures.taken (l.invariant.more o);
    }

pub returns-in-Err : goal.returns-in-Err
returns-in-Err g c =
    let contents = g.W.Write.contents in
    let was = c.args.self.now in
    let is = c.answer_next.new.self in
    let l = c.lines in
    let new = c.requires.new in
    let due = sym c.is_due.ensures ∙ c.if-is_due.true in
    let r = l.invariant.reached in
    let a = rw c.deref.ensures.value at c.in-Err.ensures.end in
    let took = takes_both contents was.replies l.self.replies is.replies was.reported.items l.self.reported.items
    is.reported.items r.0 a.0 r.2 a.2 in (
      r.0 ++ a.0,
      file_answered l.is_over was.seat.project was.seat l.self.seat is.seat l.input.bytes.items l.number l.input.taken
          _ _ r.0 a.0 c.in-Err.end new.0 r.1 l.invariant.most
          (λ more f.
          ends_more l.is_over l.input.bytes.items more due f c.in-Err.end l.number l.self.seat is.seat a.0 a.1),
      subst (λ k. Takes contents was.replies is.replies k is.reported.items (r.0 ++ a.0)) new.1 took,
    )

pub returns-then-is_over : goal.returns-then-is_over
returns-then-is_over g c =
    let contents = g.W.Write.contents in
    let was = c.args.self.now in
    let l = c.lines in
    let new = c.requires.new in
    let r = l.invariant.reached in
    let due = rw c.if-is_over.true at (sym c.is_due.ensures ∙ c.if-is_due.false) in
    let took = takes_both contents was.replies l.self.replies l.self.replies was.reported.items l.self.reported.items
    l.self.reported.items r.0 [] r.2 (takes_none contents l.self.replies l.self.reported.items) in (
      r.0 ++ [],
      file_answered true was.seat.project was.seat l.self.seat l.self.seat l.input.bytes.items l.number l.input.taken
          _ _ r.0 [] Answered new.0 (rw c.if-is_over.true at r.1) l.invariant.most
          (λ more f. ends_over l.input.bytes.items more l.number l.self.seat due f),
      subst (λ k. Takes contents was.replies l.self.replies k l.self.reported.items (r.0 ++ [])) new.1 took,
    )

pub take_piece-requires-clause-more : goal.take_piece-requires-clause-more
take_piece-requires-clause-more g c = c.lines.invariant.more c.if-is_over.false

pub returns-in-Err-take_piece : goal.returns-in-Err-take_piece
returns-in-Err-take_piece g c =
    let contents = g.W.Write.contents in
    let was = c.args.self.now in
    let l = c.lines in
    let new = c.requires.new in
    let r = l.invariant.reached in
    let stop = c.in-Err-take_piece.stop in
    let took = takes_both contents was.replies l.self.replies l.self.replies was.reported.items l.self.reported.items
    l.self.reported.items r.0 [] r.2 (takes_none contents l.self.replies l.self.reported.items) in (
      r.0 ++ [],
      subst (λ end. AnswersFile was.seat.project (g.S.File.Read.remaining c.args.file) l.self.seat (r.0 ++ []) end)
          (sym c.stopped.ensures)
          (file_answered l.is_over was.seat.project was.seat l.self.seat l.self.seat l.input.bytes.items l.number
          l.input.taken _ _ r.0 [] (ended_by stop) new.0 r.1 l.invariant.most
          (λ more f. ends_unread stop l.number (l.input.bytes.items ++ more) l.self.seat)),
      subst (λ k. Takes contents was.replies l.self.replies k l.self.reported.items (r.0 ++ [])) new.1 took,
    )

pub lines-smaller : goal.lines-smaller
lines-smaller g c =
    let l = c.lines in
    let t = c.in-Ok-take_piece.ensures.piece in
    rw c.if-is_over.false
    (less_to_read c.in-Ok-take_piece.ends MOST_BYTES l.input.taken c.take_piece.new.self.taken l.input.bytes.items
    c.take_piece.new.self.bytes.items t.0 t.2 t.3 t.5 t.6)

pub lines-preserved : goal.lines-preserved
lines-preserved g c =
    let was = c.args.self.now in
    let l = c.lines in
    let r = l.invariant.reached in
    let t = c.in-Ok-take_piece.ensures.piece in
    record {
      reached = (
        r.0,
        piece_more c.in-Ok-take_piece.ends was.seat l.self.seat l.input.bytes.items c.take_piece.new.self.bytes.items
            l.number l.input.taken c.take_piece.new.self.taken _ _ _ r.0 (rw c.if-is_over.false at r.1) t,
        r.2,
      );
      within = omega (arith, ap length t.2, length-append l.input.bytes.items t.0, t.3, l.invariant.within);
      most = t.6;
      more = λ o. (t.5 o).1;
    }
