-- Runs are taken from deques.
use Rattle.std.proofs.Common.{◌≡◌, ◌<◌, ℕ, Bool, true, false, List, [], ◌∷◌, length, drop, get_or, Option, Some, None}
use Rattle.std.proofs.Common.{refl, sym, ap, ◌∙◌, subst, arith}
use Rattle.std.specs.Prelude.{if◌then◌else◌, slice_get}
use Rattle.pf_desks.specs.Desks.{Desks, desk_at}
use Rattle.pf_world.specs.World.{RunProfile, ClaimedRun, Hand, Deque, World}
use Rattle.pf_world.specs.Chores.{Effect, is_run_of, from_deque, deque_effect, chore_effect}
use Rattle.pf_request.specs.declared.step.Chore.TheVariants.{TakeUp, Steal}
use Rattle.pf_world.specs.Steps.{effect_among}
use Rattle.pf_pool.specs.Deques.{TakesOldest}
use Rattle.pf_pool.specs.Hands.{take_effect}

-- the oldest run of a deque is that of the ticket, and taken
pub taken : (q t : ℕ) (rs rs' : Deque) (x : ClaimedRun) (o : Option ClaimedRun) → 0 < length rs → x ≡ get_or rs 0 x
    → is_run_of q t x ≡ true
    → o ≡ Some (get_or rs 0 x) → rs' ≡ drop 1 rs → TakesOldest q t rs o rs'
taken q t [] rs' x o some first own is rest = absurd (omega arith)
taken q t (y ∷ ys) rs' x o some first own is rest =
    subst (λ (k : Option ClaimedRun). TakesOldest q t (y ∷ ys) k rs') (sym is)
    (ap (λ (b : Bool). if b then Some (from_deque y ys) else None)
    (sym (ap (λ (r : ClaimedRun). is_run_of q t r) first) ∙ own)
    ∙ ap (λ (k : Deque). Some (from_deque y k)) (sym rest))

-- the oldest run is another, or there is none
pub other_oldest : (q t : ℕ) (rs : Deque) (x : ClaimedRun) → x ≡ get_or rs 0 x → 0 < length rs → is_run_of q t x ≡ false
    → deque_effect q t rs ≡ None
other_oldest q t [] x first some other = refl
other_oldest q t (y ∷ ys) x first some other =
    ap (λ (b : Bool). if b then Some (from_deque y ys) else None)
    (sym (ap (λ (r : ClaimedRun). is_run_of q t r) first) ∙ other)

-- a worker takes up and steals what the deque gives to a free hand
module _ (p : RunProfile) (ds : Desks) (q t : ℕ) where
  both_none : (b : Bool) → (if◌then◌else◌ {A = Option Effect} b None None) ≡ None
  both_none true = refl
  both_none false = refl

  pub takes_up : (h : Option Hand) (rs : Option Deque) → effect_among p ds q t TakeUp h rs ≡ take_effect q t h rs
  takes_up None rs = refl
  takes_up (Some None) None = refl
  takes_up (Some (Some r)) None = refl
  takes_up (Some None) (Some rs) = refl
  takes_up (Some (Some r)) (Some rs) = both_none (is_run_of q t r)

  pub steals : (v : ℕ) (h : Option Hand) (rs : Option Deque)
      → effect_among p ds q t (Steal v) h rs ≡ take_effect q t h rs
  steals v None rs = refl
  steals v (Some None) None = refl
  steals v (Some (Some r)) None = refl
  steals v (Some None) (Some rs) = refl
  steals v (Some (Some r)) (Some rs) = both_none (is_run_of q t r)
