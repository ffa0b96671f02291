-- What happens at one hand and one deque happens in the world.
use Rattle.std.proofs.Common.{◌≡◌, ◌<◌, ℕ, Bool, true, false, List, [], length, get_or, Option, Some, None, refl, ap}
use Rattle.std.proofs.Common.{◌∙◌, arith}
use Rattle.std.specs.Prelude.{if◌then◌else◌, slice_get}
use Rattle.std.proofs.lemmas.Option.{slice_get_within, slice_get-get_or}
use Rattle.pf_desks.specs.Desks.{not_now, desk_at}
use Rattle.pf_world.specs.World.{RunProfile, Hand, Deque, World}
use Rattle.pf_world.specs.Chores.{Response, answer, Effect, chore_effect}
use Rattle.pf_request.specs.declared.step.Chore.{Chore}
use Rattle.pf_world.specs.Steps.{worker_does, deque_owner, is_theft_of_own, effect_among, with_effect, effect_of}
use Rattle.pf_world.specs.Steps.{take_step}

-- a worker that has a hand has a deque
pub deque_there : (s : World) (w : ℕ) (h : Hand) → length s.hands ≡ length s.deques → slice_get s.hands w ≡ Some h
    → (rs : Deque) × (slice_get s.deques w ≡ Some rs)
deque_there s w h same i =
    let within : w < length s.deques = omega (arith, same, slice_get_within s.hands w h i) in
    (get_or s.deques w [], slice_get-get_or s.deques w [] within)

module _ (p : RunProfile) (s : World) (w q t : ℕ) (k : Chore) where
  -- what a chore leaves at a hand and a deque it leaves in the world
  pub at_hand : (h : Hand) (rs : Deque) (o : Option Effect) → is_theft_of_own w k ≡ false → slice_get s.hands w ≡ Some h
      → slice_get s.deques (deque_owner w k) ≡ Some rs → chore_effect p q t k (desk_at q s.desks) h rs ≡ o
      → effect_of p s w q t k ≡ o
  at_hand h rs o own i j is =
      ap (λ (b : Bool). if b then None else effect_among p s.desks q t k (slice_get s.hands w)
      (slice_get s.deques (deque_owner w k))) own
      ∙ (λ n. effect_among p s.desks q t k (i n) (j n))
      ∙ is

  -- a worker that isn't there does nothing
  pub no_worker : slice_get s.hands w ≡ None → effect_of p s w q t k ≡ None
  no_worker h = by (is_theft_of_own w k)
    where
      by : (b : Bool) → (if b then None else effect_among p s.desks q t k (slice_get s.hands w)
          (slice_get s.deques (deque_owner w k))) ≡ None
      by true = refl
      by false = ap (λ (o : Option Hand). effect_among p s.desks q t k o (slice_get s.deques (deque_owner w k))) h

  -- the step is what its effect says
  pub with_its_effect : (o : Option Effect) → effect_of p s w q t k ≡ o
      → ◌≡◌ {A = World × Response} (take_step p s (worker_does w q t k)) (with_effect s w (deque_owner w k) q o)
  with_its_effect o is = ap (λ (x : Option Effect). with_effect s w (deque_owner w k) q x) is
