use Rattle.std.proofs.Common.{◌≡◌, true, List, length, Some, Ok, Err, sym, ap, ◌∙◌, subst, nat_lt}
use Rattle.std.specs.Prelude.{Result, slice_get, slice_set}
use Rattle.std.proofs.lemmas.Result.{err_from_is_err_and}
use Rattle.pf_errors.specs.declared.memory.NoMemory.{NoMemory}
use Rattle.pf_world.specs.Chores.{MOST_PARKED}
use Rattle.pf_request.specs.declared.step.Chore.TheVariants.{Park}
use Rattle.pf_world.specs.Steps.{worker_does}
use Rattle.pf_world.specs.World.{Hand, Deque, World}
use Rattle.pf_pool.specs.declared.response.Response.{Response}
use Rattle.pf_pool.specs.declared.response.Response.TheVariants.{Done}
use Rattle.pf_pool.specs.Hands.{held_of_worker, holds_going}
use Rattle.pf_pool.specs.Responses.{SimulatesStep}
use Rattle.pf_pool.specs.Sound.{world_in}
use Rattle.pf_pool.proofs.Kept.{nothing_lost, hand_of, deque_of, both_sound, parked_runs}
use Rattle.pf_pool.proofs.Lifted.{deque_there}
use Rattle.pf_pool.proofs.Responded.{seen, read_there, same_both, going_so, park_responds, park_refused}
use Rattle.pf_pool.proofs.world.World.park.Goals as goal

-- the worker holds the run of the ticket, which is going, and this is its deque
pub returns-in_err-park : goal.returns-in_err-park
returns-in_err-park c =
    let s = world_in c.self.inside in
    let w = c.args.worker in
    let q = c.args.project in
    let t = c.args.ticket in
    let x = worker_does w q t Park in
    let h = c.index_mut-2.result.now in
    let rs = c.index_mut.result.now in
    let test : holds_going q t (held_of_worker s.hands w) ≡ true =
    ap (λ (l : List Hand). holds_going q t (held_of_worker l w)) (sym c.deref.ensures.value) ∙ sym c.holds_going.ensures
    ∙ c.if-not-holds_going.false in
    let held = going_so q t (slice_get s.hands w) test in
    let own = deque_there s w (Some held.0) c.self.invariant.workers held.1 in
    let h_is : h ≡ Some held.0 = read_there s.hands w (Some held.0) h held.1 c.index_mut-2.ensures.value in
    let rs_is : rs ≡ own.0 = read_there s.deques w own.0 rs own.1 c.index_mut.ensures.value in
    let looked : c.index.result.now ≡ own.0 = read_there s.deques w own.0 c.index.result.now own.1 c.index.ensures in
    let room : nat_lt (length own.0) MOST_PARKED ≡ true =
    ap (λ (r : Deque). nat_lt (length r) MOST_PARKED) (sym looked) ∙ sym c.has_room.ensures ∙ c.if-not-has_room.false in
    let e = err_from_is_err_and c.from_residual.result c.from_residual.ensures.1 in
    let left = c.in_err-park.ensures in
    let k : World = record {
      desks = s.desks;
      hands = slice_set s.hands w c.park.new.hand;
      deques =
          slice_set s.deques w c.park.new.self;
    } in
    let same : k ≡ s =
    same_both s w (Some held.0) c.park.new.hand own.0 c.park.new.self held.1 own.1 (left.1 ∙ h_is) (left.0 ∙ rs_is) in
    let refused : SimulatesStep s x (Err e.0) s =
    park_refused s w q t (Some held.0) own.0 e.0 held.1 own.1 held.2 room in
    subst (λ (z : Result Response NoMemory). SimulatesStep c.args.self.now x z k) (sym e.1)
    (seen s c.args.self.now k x (Err e.0) c.self.view_is
    (subst (λ (z : World). SimulatesStep s x (Err e.0) z) (sym same) refused))

pub invariant_of-self-2 : goal.invariant_of-self-2
invariant_of-self-2 c =
    let s = world_in c.self.inside in
    let w = c.args.worker in
    let q = c.args.project in
    let t = c.args.ticket in
    let h = c.index_mut-2.result.now in
    let rs = c.index_mut.result.now in
    let test : holds_going q t (held_of_worker s.hands w) ≡ true =
    ap (λ (l : List Hand). holds_going q t (held_of_worker l w)) (sym c.deref.ensures.value) ∙ sym c.holds_going.ensures
    ∙ c.if-not-holds_going.false in
    let held = going_so q t (slice_get s.hands w) test in
    let own = deque_there s w (Some held.0) c.self.invariant.workers held.1 in
    let h_is : h ≡ Some held.0 = read_there s.hands w (Some held.0) h held.1 c.index_mut-2.ensures.value in
    let rs_is : rs ≡ own.0 = read_there s.deques w own.0 rs own.1 c.index_mut.ensures.value in
    let runs = parked_runs s.desks rs c.park.new.self h c.park.new.hand c.in_ok-park.ensures
    (hand_of s w h c.self.invariant (held.1 ∙ ap Some (sym h_is)))
    (deque_of s w rs c.self.invariant (own.1 ∙ ap Some (sym rs_is))) in
    both_sound s s.desks (nothing_lost s.desks) c.self.invariant w w c.park.new.hand c.park.new.self runs.0 runs.1

pub returns : goal.returns
returns c =
    let s = world_in c.self.inside in
    let w = c.args.worker in
    let q = c.args.project in
    let t = c.args.ticket in
    let x = worker_does w q t Park in
    let h = c.index_mut-2.result.now in
    let rs = c.index_mut.result.now in
    let test : holds_going q t (held_of_worker s.hands w) ≡ true =
    ap (λ (l : List Hand). holds_going q t (held_of_worker l w)) (sym c.deref.ensures.value) ∙ sym c.holds_going.ensures
    ∙ c.if-not-holds_going.false in
    let held = going_so q t (slice_get s.hands w) test in
    let own = deque_there s w (Some held.0) c.self.invariant.workers held.1 in
    let h_is : h ≡ Some held.0 = read_there s.hands w (Some held.0) h held.1 c.index_mut-2.ensures.value in
    let rs_is : rs ≡ own.0 = read_there s.deques w own.0 rs own.1 c.index_mut.ensures.value in
    let looked : c.index.result.now ≡ own.0 = read_there s.deques w own.0 c.index.result.now own.1 c.index.ensures in
    let room : nat_lt (length rs) MOST_PARKED ≡ true =
    ap (λ (r : Deque). nat_lt (length r) MOST_PARKED) (rs_is ∙ sym looked) ∙ sym c.has_room.ensures
    ∙ c.if-not-has_room.false in
    let goes : holds_going q t h ≡ true = ap (λ (z : Hand). holds_going q t z) h_is ∙ held.2 in
    let k : World = record {
      desks = s.desks;
      hands = slice_set s.hands w c.park.new.hand;
      deques =
          slice_set s.deques w c.park.new.self;
    } in
    seen s c.args.self.now k x (Ok Done) c.self.view_is
    (park_responds s w q t h c.park.new.hand rs c.park.new.self (held.1 ∙ ap Some (sym h_is))
    (own.1 ∙ ap Some (sym rs_is)) goes room c.in_ok-park.ensures)
