use Rattle.std.proofs.Common.{◌≡◌, Some, subst}
use Rattle.std.proofs.lemmas.Result.{on_ok_weaker}
use Rattle.pf_model.specs.Reports.{label_of, suffix_of}
use Rattle.pf_model.specs.Signals.{signal_of}
use Rattle.pf_chart.specs.Laid.{IsCarried, delivery_in}
use Rattle.pf_chart.proofs.Sending.{sends_both}
use Rattle.pf_chart.proofs.layout.Layout.delivery.Goals as goal

pub returns-clause-carried : goal.returns-clause-carried
returns-clause-carried c =
    let n = c.args.row in
    let a = c.args.a in
    let b = c.args.b in
    let signal = signal_of c.in-Some.signal.now in
    let suffix = suffix_of c.in-Some.suffix.now in
    let same : Some (signal, suffix) ≡ delivery_in (label_of c.args.label.now) = search (c.in-Some.ensures) in
    let d = c.in_ok-deliver.ensures in
    on_ok_weaker c.end_by.result
    (λ h. subst (λ o. IsCarried n a b o c.args.self.now.traffic c.end_by.new.self.traffic) same
    (d.0, d.1, sends_both n b d.0 c.deliver.new.self c.end_by.new.self.traffic d.3 h))
    c.end_by.ensures.sends
