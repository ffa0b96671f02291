-- What holds of each effect that a chore can have.
use Rattle.std.proofs.Common.{◌≡◌, ℕ, Bool, true, false, List, [], ◌∷◌, Option, Some, None, refl, subst}
use Rattle.std.specs.Prelude.{if◌then◌else◌, All, slice_get}
use Rattle.std.proofs.lemmas.Option.{slice_get_within, get_or_from_slice_get}
use Rattle.pf_desks.specs.Desk.{Trial, Desk}
use Rattle.pf_world.specs.World.{RunProfile, ClaimedRun, Hand, Deque, World}
use Rattle.pf_world.specs.Chores.{Effect, new_run, is_run_of, from_deque, claimed_as, claim_effect, deque_effect}
use Rattle.pf_world.specs.Chores.{chore_effect}
use Rattle.pf_request.specs.declared.step.Chore.{Chore}
use Rattle.pf_world.specs.Steps.{deque_owner, is_theft_of_own, effect_among, effect_of}
use Rattle.pf_desks.specs.Desks.{desk_at}

module _ (P : Effect → Type 0) where
  pub from_some : (x e : Effect) → Some x ≡ Some e → P x → P e
  from_some x e h = subst P (cc)

  pub where_so : (b : Bool) (x e : Effect) → (if b then Some x else None) ≡ Some e → (b ≡ true → P x) → P e
  where_so true x e h f = from_some x e h (f refl)
  where_so false x e h f = absurd (cc)

  pub where_claimed : (q t : ℕ) (o : Option Trial) (k : Option Desk) (e : Effect) → claim_effect q t o k ≡ Some e
      → ((x : Trial) (d : Desk) → o ≡ Some x → k ≡ Some d → P (claimed_as d (new_run q t x.job))) → P e
  where_claimed q t (Some x) (Some d) e h f = from_some _ e h (f x d refl refl)
  where_claimed q t (Some x) None e h f = absurd (cc)
  where_claimed q t None (Some d) e h f = absurd (cc)
  where_claimed q t None None e h f = absurd (cc)

  pub where_from_deque : (q t : ℕ) (rs : Deque) (e : Effect) → deque_effect q t rs ≡ Some e
      → ((r : ClaimedRun) (ks : Deque) → rs ≡ r ∷ ks → is_run_of q t r ≡ true → P (from_deque r ks)) → P e
  where_from_deque q t [] e h f = absurd (cc)
  where_from_deque q t (r ∷ ks) e h f = where_so (is_run_of q t r) _ e h (f r ks refl)

  -- what holds of each effect of a chore holds of that in a world
  pub where_done : (p : RunProfile) (s : World) (w q t : ℕ) (k : Chore) (e : Effect) → effect_of p s w q t k ≡ Some e
      → ((hand : Hand) (rs : Deque) → slice_get s.hands w ≡ Some hand → slice_get s.deques (deque_owner w k) ≡ Some rs
      → chore_effect p q t k (desk_at q s.desks) hand rs ≡ Some e → P e)
      → P e
  where_done p s w q t k e h f = own (is_theft_of_own w k) h
    where
      both : (o : Option Hand) (r : Option Deque) → slice_get s.hands w ≡ o → slice_get s.deques (deque_owner w k) ≡ r
          → effect_among p s.desks q t k o r ≡ Some e → P e
      both (Some hand) (Some rs) i j h = f hand rs i j h
      both (Some hand) None i j h = absurd (cc)
      both None (Some rs) i j h = absurd (cc)
      both None None i j h = absurd (cc)

      own : (b : Bool) → (if b then None else effect_among p s.desks q t k (slice_get s.hands w)
          (slice_get s.deques (deque_owner w k))) ≡ Some e → P e
      own false h = both (slice_get s.hands w) (slice_get s.deques (deque_owner w k)) refl refl h
      own true h = absurd (cc)

-- what holds of all holds at each index
pub all_at : {X : Type 0} (P : X → Type 0) (xs : List X) (i : ℕ) (x : X) → slice_get xs i ≡ Some x → All P xs → P x
all_at P xs i x h all = subst P (get_or_from_slice_get xs i x x h) (all i x (slice_get_within xs i x h))
