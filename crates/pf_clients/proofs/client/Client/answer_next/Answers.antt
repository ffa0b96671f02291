use Rattle.std.proofs.Common.{subst, sym}
use Rattle.pf_wire.specs.Whole.{whole_text}
use Rattle.pf_clients.specs.Lines.{AnswersFront}
use Rattle.pf_clients.proofs.Ends.{line_lost}
use Rattle.pf_clients.proofs.client.Client.answer_next.Goals as goal

pub returns-in-Err-take-clause-end : goal.returns-in-Err-take-clause-end
returns-in-Err-take-clause-end g c =
    let was = c.args.self.now in
    let is = c.take.new.self in
    let line = c.in-Ok-Some.line in
    let bytes = c.args.bytes.now in
    let text = whole_text line.reported in
    let done = rw c.in-Ok-Some.field-0-is at c.in-Ok-Some.ensures.answered in
    line_lost g.W.Write.contents c.args.number bytes was.seat is.seat text was.replies is.replies
    was.reported.items is.reported.items c.requires c.in-Err-take.end line.rest.items
    (subst (λ s. AnswersFront bytes line.rest.items was.seat s text) (sym c.in-Err-take.ensures.seat) done)
    c.in-Err-take.ensures.beginning
