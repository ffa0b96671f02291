use Rattle.std.proofs.Common.{subst}
use Rattle.pf_model.specs.Reports.{suffix_of}
use Rattle.pf_chart.specs.Traffic.{IsDelivered, reach_of, unreported, way_of}
use Rattle.pf_chart.specs.declared.arrows.ArrowEnd.{ArrowEnd}
use Rattle.pf_chart.specs.declared.arrows.SignalKind.{SignalKind}
use Rattle.pf_chart.proofs.Sending.{both_ok_then}
use Rattle.pf_chart.proofs.traffic.Traffic.deliver.Goals as goal

pub returns : goal.returns
returns c =
    let s = c.args.self.now in
    let t = c.arrive.new.self in
    let n = c.args.row in
    let a = c.args.from in
    let b = c.args.to in
    let delivered =
    subst (λ (k : SignalKind). IsDelivered (way_of a b k)
    (unreported n a b k (reach_of (suffix_of c.args.suffix.now) n)) s
    t) c.of.ensures
    (subst (λ (r : ArrowEnd). IsDelivered (way_of a b c.of.result)
    (unreported n a b c.of.result r) s t) c.reach_of.ensures
    c.in_ok-arrive.ensures) in
    both_ok_then c.settle.result (λ h k. (t, delivered, h, k)) c.settle.ensures.answered c.settle.ensures.sends
