use Rattle.std.proofs.lemmas.Result.{on_err_weaker, on_ok_weaker}
use Rattle.pf_wire.specs.Whole.{report_lines}
use Rattle.pf_wire.proofs.Adding.{added_both, at_err, front_of_put, front_of_second, reported_with}
use Rattle.pf_wire.proofs.stream.Gathered.add_reported.Goals as goal

pub returns-in_err-add-clause-front : goal.returns-in_err-add-clause-front
returns-in_err-add-clause-front g c =
    at_err c.from_residual.result
    (front_of_put c.args.self.now.text.items c.args.reported.now.text.items c.args.reported.now.report _ _
    (rw c.deref.ensures.value at c.in_err-add.ensures.front))

pub returns-in-Some-clause-added : goal.returns-in-Some-clause-added
returns-in-Some-clause-added g c =
    let put = c.deref.result.now in
    let both = reported_with put c.args.reported.now c.in-Some.report c.deref.ensures.value c.in-Some.is in
    on_ok_weaker c.add_report.result
    (λ h. added_both c.args.self.now.text.items c.add.new.self.text.items _ put (report_lines c.in-Some.report) _ _ _ _
    both c.in_ok-add.ensures.added h)
    c.add_report.ensures.added

pub returns-in-Some-clause-front : goal.returns-in-Some-clause-front
returns-in-Some-clause-front g c =
    let put = c.deref.result.now in
    let both = reported_with put c.args.reported.now c.in-Some.report c.deref.ensures.value c.in-Some.is in
    on_err_weaker c.add_report.result
    (λ h. front_of_second c.args.self.now.text.items c.add.new.self.text.items put (report_lines c.in-Some.report) _ _ _
    _ both c.in_ok-add.ensures.added h)
    c.add_report.ensures.front
