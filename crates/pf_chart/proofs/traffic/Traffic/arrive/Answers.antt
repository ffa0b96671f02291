use Rattle.std.proofs.Common.{ℕ, Some, None, subst}
use Rattle.std.proofs.lemmas.Result.{on_ok_weaker}
use Rattle.pf_chart.specs.Traffic.{IsDelivered, unreported}
use Rattle.pf_chart.proofs.Ways.{delivered}
use Rattle.pf_chart.proofs.traffic.Traffic.arrive.Goals as goal

pub returns-in-Some : goal.returns-in-Some
returns-in-Some c =
    let s = c.args.self.now in
    let t = c.reach.new.self in
    let a = unreported c.args.row c.args.from c.args.to c.args.kind c.args.reach in
    subst (λ (n : ℕ). IsDelivered (c.args.from, c.args.to, n) a s t) c.number.ensures
    (delivered (c.args.from, c.args.to, c.number.result) a s t (Some c.in-Some.index) c.take.new.self
    c.in-Some.ensures.first c.in-Some.ensures.others
    c.reach.ensures.on_way c.reach.ensures.arrows)

pub returns-in-None : goal.returns-in-None
returns-in-None c =
    let s = c.args.self.now in
    let t = c.show.new.self in
    let a = unreported c.args.row c.args.from c.args.to c.args.kind c.args.reach in
    on_ok_weaker c.show.result
    (λ h. subst (λ (n : ℕ). IsDelivered (c.args.from, c.args.to, n) a s t) c.number.ensures
    (delivered (c.args.from, c.args.to, c.number.result) a s t None c.take.new.self c.in-None.ensures.first
    c.in-None.ensures.others h.1 h.0))
    c.show.ensures
