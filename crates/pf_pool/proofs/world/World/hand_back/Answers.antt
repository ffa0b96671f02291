use Rattle.std.proofs.Common.{◌≡◌, List, true, Some, None, Ok, sym, ap, ◌∙◌}
use Rattle.std.specs.Prelude.{slice_get, slice_set}
use Rattle.pf_request.specs.declared.step.Chore.TheVariants.{HandBack}
use Rattle.pf_world.specs.Steps.{worker_does}
use Rattle.pf_world.specs.World.{Hand, World}
use Rattle.pf_pool.specs.Hands.{held_of_worker, hand_holds}
use Rattle.pf_pool.specs.Sound.{world_in}
use Rattle.pf_pool.proofs.Kept.{back_keeps, hand_sound}
use Rattle.pf_pool.proofs.Lifted.{deque_there}
use Rattle.pf_pool.proofs.Responded.{seen, held_so, back_responds}
use Rattle.pf_pool.proofs.world.World.hand_back.Goals as goal

pub invariant_of-self : goal.invariant_of-self
invariant_of-self c =
    let s = world_in c.self.inside in
    let w' = c.hand_back.new.self in
    hand_sound s w' (back_keeps s.desks w' c.args.project c.args.ticket c.hand_back.result c.hand_back.ensures)
    c.self.invariant c.args.worker None tt

pub returns : goal.returns
returns c =
    let s = world_in c.self.inside in
    let w = c.args.worker in
    let q = c.args.project in
    let t = c.args.ticket in
    let w' = c.hand_back.new.self in
    let test : hand_holds q t (held_of_worker s.hands w) ≡ true =
    ap (λ (l : List Hand). hand_holds q t (held_of_worker l w)) (sym c.deref.ensures.value) ∙ sym c.holds.ensures
    ∙ c.if-not-holds.false in
    let x = held_so q t (slice_get s.hands w) test in
    let rs = deque_there s w (Some x.0) c.self.invariant.workers x.1 in
    let k : World = record { desks = w'; hands = slice_set s.hands w None; deques = s.deques } in
    seen s c.args.self.now k (worker_does w q t HandBack) (Ok c.emptied.result) c.self.view_is
    (back_responds s w q t (Some x.0) rs.0 x.1 rs.1 c.hand_back.result c.emptied.result w' x.2 c.emptied.ensures
    c.hand_back.ensures)
