use Rattle.std.proofs.Common.{◌≡◌, true, List, Some, None, refl, sym, ap, ◌∙◌, arith}
use Rattle.std.specs.Prelude.{slice_get, slice_set}
use Rattle.std.proofs.lemmas.Option.{slice_get_within, slice_get_read}
use Rattle.pf_world.specs.World.{Hand, Deque, World}
use Rattle.pf_pool.specs.declared.response.Response.TheVariants.{Done, NotNow}
use Rattle.pf_pool.specs.Hands.{is_free}
use Rattle.pf_pool.specs.Sound.{world_in}
use Rattle.pf_pool.proofs.Kept.{nothing_lost, deque_of, both_sound, taken_runs}
use Rattle.pf_pool.proofs.Responded.{free_so, takes_seen, takes_none, takes_some}
use Rattle.pf_pool.proofs.world.World.take.Goals as goal

pub index_mut-requires : goal.index_mut-requires
index_mut-requires c =
    let hs = c.self.inside.hands.items in
    let w = c.args.worker in
    let free : slice_get hs w ≡ Some None =
    free_so (slice_get hs w) (ap (λ (l : List Hand). is_free (slice_get l w)) (sym c.deref.ensures.value)
    ∙ sym c.is_free.ensures ∙ c.if-not-is_free.false) in
    omega (arith, slice_get_within hs w None free, c.self.inside.hands.ok.0)

pub returns-in_default-take_oldest : goal.returns-in_default-take_oldest
returns-in_default-take_oldest c =
    let s = world_in c.self.inside in
    let w = c.args.worker in
    let v = c.args.owner in
    let rs = c.in-Some.deque.now in
    let free : slice_get s.hands w ≡ Some None =
    free_so (slice_get s.hands w) (ap (λ (l : List Hand). is_free (slice_get l w)) (sym c.deref.ensures.value)
    ∙ sym c.is_free.ensures ∙ c.if-not-is_free.false) in
    let there : slice_get s.deques v ≡ Some rs =
    slice_get_read s.deques c.self.inside.deques.len v rs c.self.inside.deques.ok.0 (c.in-Some.ensures.variant.0 refl)
    c.in-Some.ensures.value in
    let k : World = record s { deques = slice_set s.deques v c.take_oldest.new.self } in
    takes_seen s c.args.self.now k w v c.args.project c.args.ticket NotNow c.self.view_is
    (takes_none s w v c.args.project c.args.ticket rs c.take_oldest.new.self free there
    c.in_default-take_oldest.ensures)

pub invariant_of-self-2 : goal.invariant_of-self-2
invariant_of-self-2 c =
    let s = world_in c.self.inside in
    let w = c.args.worker in
    let v = c.args.owner in
    let rs = c.in-Some.deque.now in
    let r = c.in-Some-take_oldest.run' in
    let there : slice_get s.deques v ≡ Some rs =
    slice_get_read s.deques c.self.inside.deques.len v rs c.self.inside.deques.ok.0 (c.in-Some.ensures.variant.0 refl)
    c.in-Some.ensures.value in
    let runs = taken_runs s.desks c.args.project c.args.ticket rs c.take_oldest.new.self r c.in-Some-take_oldest.ensures
    (deque_of s v rs c.self.invariant there) in
    both_sound s s.desks (nothing_lost s.desks) c.self.invariant w v (Some r) c.take_oldest.new.self runs.0 runs.1

pub returns : goal.returns
returns c =
    let s = world_in c.self.inside in
    let w = c.args.worker in
    let v = c.args.owner in
    let rs = c.in-Some.deque.now in
    let r = c.in-Some-take_oldest.run' in
    let free : slice_get s.hands w ≡ Some None =
    free_so (slice_get s.hands w) (ap (λ (l : List Hand). is_free (slice_get l w)) (sym c.deref.ensures.value)
    ∙ sym c.is_free.ensures ∙ c.if-not-is_free.false) in
    let there : slice_get s.deques v ≡ Some rs =
    slice_get_read s.deques c.self.inside.deques.len v rs c.self.inside.deques.ok.0 (c.in-Some.ensures.variant.0 refl)
    c.in-Some.ensures.value in
    let k : World = record {
      desks = s.desks;
      hands = slice_set s.hands w (Some r);
      deques =
          slice_set s.deques v c.take_oldest.new.self;
    } in
    takes_seen s c.args.self.now k w v c.args.project c.args.ticket Done c.self.view_is
    (takes_some s w v c.args.project c.args.ticket rs c.take_oldest.new.self r free there c.in-Some-take_oldest.ensures)
