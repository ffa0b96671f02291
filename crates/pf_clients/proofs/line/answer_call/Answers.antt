use Rattle.std.proofs.Common.{◌≡◌, ap, ◌∙◌}
use Rattle.std.proofs.lemmas.Result.{IfOk-weaker}
use Rattle.pf_wire.proofs.Adding.{at_err}
use Rattle.pf_wire.specs.Whole.{whole_text}
use Rattle.pf_request.specs.View.{view_of_call}
use Rattle.pf_protocol.specs.Clients.{calls}
use Rattle.pf_clients.specs.Lines.{AnswersLine, call_text}
use Rattle.pf_clients.proofs.Lines.{call_results_in, call_answered, call_cut}
use Rattle.pf_clients.proofs.line.answer_call.Goals as goal

pub returns-clause-answered : goal.returns-clause-answered
returns-clause-answered g c =
    let was = c.args.seat.now in
    let is = c.call-outcome.new.seat in
    let e = c.call-outcome.ensures in
    let r = c.call-outcome.result in
    let comes = call_results_in c.args.call r was is e.receipt e.full e.err in
    IfOk-weaker c.text_of.result (λ t. whole_text t ≡ call_text c.project-project.result r)
    (λ t. AnswersLine (calls (view_of_call c.args.call)) was is (whole_text t))
    (λ t h. call_answered c.args.call r was is (whole_text t) comes
    (h ∙ ap (λ q. call_text q r) c.project-project.ensures)) c.text_of.ensures

pub returns-clause-err : goal.returns-clause-err
returns-clause-err g c =
    let e = c.call-outcome.ensures in
    let r = c.call-outcome.result in
    at_err c.text_of.result (call_cut c.args.call r c.args.seat.now c.call-outcome.new.seat
    (call_results_in c.args.call r c.args.seat.now c.call-outcome.new.seat e.receipt e.full e.err))
