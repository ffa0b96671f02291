use Rattle.std.proofs.Common.{sym, ap, ◌∙◌, subst}
use Rattle.pf_protocol.specs.Clients.{client_line_at}
use Rattle.pf_protocol.specs.View.{view_of_client_line}
use Rattle.pf_wire.proofs.Adding.{at_err}
use Rattle.pf_wire.specs.Whole.{whole_text}
use Rattle.pf_clients.specs.Lines.{AnswersFront}
use Rattle.pf_clients.proofs.Lines.{front_cut}
use Rattle.pf_clients.proofs.line.answer_front.Goals as goal

pub returns-in_err-reported-in-Ok-clause-err : goal.returns-in_err-reported-in-Ok-clause-err
returns-in_err-reported-in-Ok-clause-err g c =
    let at = ap (λ q. client_line_at q c.args.bytes.now) (sym c.project.ensures) ∙ c.in-Ok.ensures.line in
    at_err c.from_residual.result
    (front_cut c.args.bytes.now c.in-Ok.after.now (view_of_client_line c.in-Ok.line) c.args.seat.now
    c.answer_line.new.seat at c.in_err-reported-in-Ok.ensures.err)

pub returns-in_err-rest-in-Ok-clause-err : goal.returns-in_err-rest-in-Ok-clause-err
returns-in_err-rest-in-Ok-clause-err g c =
    let at = ap (λ q. client_line_at q c.args.bytes.now) (sym c.project.ensures) ∙ c.in-Ok.ensures.line in
    let a = c.in_ok-reported-in-Ok.ensures.answered in
    at_err c.from_residual-in_err-rest-in-Ok.result
    (front_cut c.args.bytes.now c.in-Ok.after.now (view_of_client_line c.in-Ok.line) c.args.seat.now
    c.answer_line.new.seat at (a.0, a.1, a.2))

pub returns-in_ok-rest-in-Ok-clause-answered : goal.returns-in_ok-rest-in-Ok-clause-answered
returns-in_ok-rest-in-Ok-clause-answered g c =
    let at = ap (λ q. client_line_at q c.args.bytes.now) (sym c.project.ensures) ∙ c.in-Ok.ensures.line in
    subst (λ rest. AnswersFront c.args.bytes.now rest c.args.seat.now c.answer_line.new.seat
    (whole_text c.in_ok-reported-in-Ok.reported)) (sym c.in_ok-rest-in-Ok.ensures.items)
    (view_of_client_line c.in-Ok.line, at, c.in_ok-reported-in-Ok.ensures.answered)
