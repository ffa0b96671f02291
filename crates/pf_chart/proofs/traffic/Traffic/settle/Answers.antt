use Rattle.std.proofs.Common.{Option, refl, sym, ap, ◌∙◌}
use Rattle.std.proofs.lemmas.List.{append-nil}
use Rattle.std.proofs.lemmas.Result.{on_ok_weaker}
use Rattle.pf_chart.specs.Traffic.{with_return_arrow}
use Rattle.pf_chart.specs.declared.arrows.SignalKind.{SignalKind}
use Rattle.pf_chart.proofs.Sending.{sends_none}
use Rattle.pf_chart.proofs.traffic.Traffic.settle.Goals as goal

pub returns-in-Some : goal.returns-in-Some
returns-in-Some c =
    let xs = c.args.self.now.arrows.items in
    record {
      answered = on_ok_weaker c.send.result
          (λ h. h ∙ ap (λ (o : Option SignalKind). with_return_arrow c.args.row c.args.to c.args.from o xs)
          (sym c.in-Some.is ∙ c.answer_to.ensures)) c.send.ensures.arrow;
      sends = c.send.ensures.sends;
    }

pub returns-in_ok-settle-in-None : goal.returns-in_ok-settle-in-None
returns-in_ok-settle-in-None c =
    let xs = c.args.self.now.arrows.items in
    record {
      answered = sym (append-nil xs) ∙ ap (λ (o : Option SignalKind). with_return_arrow c.args.row c.args.to c.args.from
          o xs) (sym c.in-None.is ∙ c.answer_to.ensures);
      sends = sends_none c.args.row c.args.to c.args.self.now _ refl refl;
    }
