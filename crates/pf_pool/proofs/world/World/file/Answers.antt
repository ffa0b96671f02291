use Rattle.std.proofs.Common.{◌≡◌, List, Some, None, Ok, sym, subst}
use Rattle.pf_request.specs.declared.step.Chore.TheVariants.{File}
use Rattle.pf_world.specs.Steps.{worker_does}
use Rattle.pf_world.specs.World.{Hand, World}
use Rattle.pf_pool.specs.Sound.{world_in, IsSound}
use Rattle.pf_pool.proofs.Kept.{job_taken, hand_sound}
use Rattle.pf_pool.proofs.Lifted.{deque_there}
use Rattle.pf_pool.proofs.Responded.{seen, file_responds}
use Rattle.pf_pool.proofs.world.World.file.Goals as goal

pub invariant_of-self-2 : goal.invariant_of-self-2
invariant_of-self-2 c =
    let s = world_in c.self.inside in
    let w' = c.file.new.self in
    subst (λ (hs : List Hand). IsSound (record { desks = w'; hands = hs; deques = s.deques })) (sym c.in-Some.ensures.3)
    (hand_sound s w' c.file.ensures.tickets c.self.invariant c.args.worker None tt)

pub returns : goal.returns
returns c =
    let s = world_in c.self.inside in
    let w = c.args.worker in
    let q = c.args.project in
    let t = c.args.ticket in
    let taken = c.in-Some.ensures in
    let rs = deque_there s w (Some taken.0) c.self.invariant.workers taken.1 in
    let k : World = record { desks = c.file.new.self; hands = c.take_finished.new.hands.items; deques = s.deques } in
    seen s c.args.self.now k (worker_does w q t File) (Ok c.emptied.result) c.self.view_is
    (file_responds s w q t rs.0 rs.1 c.in-Some.finished c.file.result c.emptied.result c.take_finished.new.hands.items
    c.file.new.self taken
    (job_taken s w q t c.in-Some.finished c.take_finished.new.hands.items c.self.invariant taken) c.emptied.ensures
    c.file.ensures.file)
