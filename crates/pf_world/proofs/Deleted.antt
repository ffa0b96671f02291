-- Where only the steps of one project are left, each is answered as it was.
use Rattle.std.proofs.Common.{◌≡◌, ℕ, zero, suc, ◌==◌, Bool, true, false, List, [], ◌∷◌, map, Option, Some, None, refl}
use Rattle.std.proofs.Common.{sym, ap, ◌∙◌, subst}
use Rattle.std.specs.Prelude.{if◌then◌else◌, unwrap_or, slice_get, slice_set, replicate}
use Rattle.std.specs.Option.{option_map}
use Rattle.std.proofs.lemmas.List.{map-set}
use Rattle.std.proofs.lemmas.Option.{slice_get-map}
use Rattle.pf_request.specs.Calls.{Call}
use Rattle.pf_desks.specs.Desk.{Desk}
use Rattle.pf_desks.specs.Calls.{reply_to, after_call}
use Rattle.pf_desks.specs.Desks.{Desks, replied, desk_at, put_desk, worked}
use Rattle.pf_desks.proofs.Isolated.{desk_placed}
use Rattle.pf_world.specs.World.{RunProfile, Hand, Deque, World, new_world}
use Rattle.pf_world.specs.Chores.{Response, answer, Effect, chore_effect}
use Rattle.pf_request.specs.declared.step.Chore.{Chore}
use Rattle.pf_world.specs.Steps.{WorldStep, client_calls, worker_does, deque_owner, is_theft_of_own, with_deque}
use Rattle.pf_world.specs.Steps.{with_effect, effect_among, effect_of, take_step, responses}
use Rattle.pf_world.specs.Alone.{took_place, is_own, own_part, own_responses}
use Rattle.pf_world.specs.Laws.{DeletionOfOthers}
use Rattle.pf_world.proofs.Effects.{where_done}
use Rattle.pf_world.proofs.Whole.{IsWholeWorld, whole_step, whole_new}
use Rattle.pf_world.proofs.Isolated.{IsDoneAs, effect_done, same_project}
use Rattle.pf_world.proofs.Seen.{itself, keep, keep_runs, own_effect, chore_own, IsUnseen, chore_unseen}

set_unseen : {X Y : Type 0} (f : X → Y) (xs : List X) (i : ℕ) (x y : X) → slice_get xs i ≡ Some x → f y ≡ f x
    → map f (slice_set xs i y) ≡ map f xs
set_unseen f [] i x y h e = refl
set_unseen f (z ∷ xs) zero x y h e = (let is : x ≡ z = cc in ap (λ k. k ∷ map f xs) (e ∙ ap f is))
set_unseen f (z ∷ xs) (suc i) x y h e = ap (λ ks. f z ∷ ks) (set_unseen f xs i x y h e)

map_replicate : {X Y : Type 0} (f : X → Y) (n : ℕ) (x : X) → replicate n (f x) ≡ map f (replicate n x)
map_replicate f zero x = refl
map_replicate f (suc n) x = ap (λ xs. f x ∷ xs) (map_replicate f n x)

module _ (p : RunProfile) (q : ℕ) where
  -- in a world a project has the desk, the hands and the deques that it sees of another
  abbrev IsAlike : World → World → Type 0
  IsAlike s k = (desk_at q k.desks ≡ desk_at q s.desks) × (k.hands ≡ map (keep q) s.hands)
      × (k.deques ≡ map (keep_runs q) s.deques)

  placed_own : (d : Desk) (ds : Desks) → desk_at q (put_desk q d ds) ≡ d
  placed_own d ds = desk_placed q q d ds ∙ ap (λ (b : Bool). if b then d else desk_at q ds) (itself q)

  placed_other : (r : ℕ) (d : Desk) (ds : Desks) → (r == q) ≡ false → desk_at q (put_desk r d ds) ≡ desk_at q ds
  placed_other r d ds h = desk_placed q r d ds ∙ ap (λ (b : Bool). if b then d else desk_at q ds) h

  worked_own : (o : Option Desk) (ds es : Desks) → desk_at q es ≡ desk_at q ds
      → desk_at q (worked q es o).0 ≡ desk_at q (worked q ds o).0
  worked_own (Some d) ds es h = placed_own d es ∙ sym (placed_own d ds)
  worked_own None ds es h = h

  worked_other : (r : ℕ) (o : Option Desk) (ds : Desks) → (r == q) ≡ false → desk_at q (worked r ds o).0 ≡ desk_at q ds
  worked_other r (Some d) ds h = placed_other r d ds h
  worked_other r None ds h = refl

  deque_set : (v : ℕ) (o : Option Deque) (ks : List Deque)
      → with_deque v (option_map (keep_runs q) o) (map (keep_runs q) ks) ≡ map (keep_runs q) (with_deque v o ks)
  deque_set v (Some rs) ks = sym (map-set (keep_runs q) ks v rs)
  deque_set v None ks = refl

  deque_unseen : (v : ℕ) (o : Option Deque) (ks : List Deque) (rs : Deque) → slice_get ks v ≡ Some rs
      → keep_runs q (unwrap_or o rs) ≡ keep_runs q rs
      → map (keep_runs q) (with_deque v o ks) ≡ map (keep_runs q) ks
  deque_unseen v (Some new) ks rs h e = set_unseen (keep_runs q) ks v rs new h e
  deque_unseen v None ks rs h e = refl

  -- the same effect, seen by the project, is what the same chore leaves there
  effect_own : (s k : World) (w t : ℕ) (x : Chore) (e : Effect) → IsAlike s k → effect_of p s w q t x ≡ Some e
      → effect_of p k w q t x ≡ Some (own_effect q e)
  effect_own s k w t x e l h = by (is_theft_of_own w x) h
    where
      seen : (o : Option Hand) (r : Option Deque) → effect_among p s.desks q t x o r ≡ Some e
          → effect_among p k.desks q t x (option_map (keep q) o) (option_map (keep_runs q) r) ≡ Some (own_effect q e)
      seen (Some hand) (Some rs) h =
          ap (λ (d : Desk). chore_effect p q t x d (keep q hand) (keep_runs q rs)) l.0 ∙ chore_own q p t x
          (desk_at q s.desks) hand rs e h
      seen (Some hand) None h = absurd (cc)
      seen None (Some rs) h = absurd (cc)
      seen None None h = absurd (cc)

      by : (b : Bool) → (if b then None else effect_among p s.desks q t x (slice_get s.hands w)
          (slice_get s.deques (deque_owner w x))) ≡ Some e
          → (if b then None else effect_among p k.desks q t x (slice_get k.hands w)
          (slice_get k.deques (deque_owner w x))) ≡ Some (own_effect q e)
      by true h = absurd (cc)
      by false h =
          (λ i. effect_among p k.desks q t x (slice_get (l.1 i) w) (slice_get (l.2 i) (deque_owner w x)))
          ∙ (λ i. effect_among p k.desks q t x (slice_get-map (keep q) s.hands w i)
          (slice_get-map (keep_runs q) s.deques (deque_owner w x) i))
          ∙ seen (slice_get s.hands w) (slice_get s.deques (deque_owner w x)) h

  -- what becomes of the world in which only the project's steps are left: a step that belongs to it is answered
  -- there as here, and any other is left out
  abbrev Next : World → WorldStep → World × Response → Bool → Type 0
  Next k x y true = ((take_step p k x).1 ≡ y.1) × IsAlike y.0 (take_step p k x).0
  Next k x y false = IsAlike y.0 k

  next_call : (s k : World) (r : ℕ) (c : Call) → IsAlike s k
      → Next k (client_calls r c) (take_step p s (client_calls r c)) (r == q)
  next_call s k r c l = by (r == q) refl
    where
      after : Desk → Desk
      after d = after_call p.profile d c

      own : Next k (client_calls q c) (take_step p s (client_calls q c)) true
      own = (
        ap (λ (d : Desk). answer (replied (reply_to p.profile d c))) l.0,
        (
          placed_own (after (desk_at q k.desks)) k.desks ∙ ap after l.0
              ∙ sym (placed_own (after (desk_at q s.desks)) s.desks),
          l.1,
          l.2,
        ),
      )

      by : (b : Bool) → (r == q) ≡ b → Next k (client_calls r c) (take_step p s (client_calls r c)) b
      by true e = subst (λ (n : ℕ). Next k (client_calls n c) (take_step p s (client_calls n c)) true)
          (sym (same_project q r e)) own
      by false e = (l.0 ∙ sym (placed_other r (after (desk_at r s.desks)) s.desks e), l.1, l.2)

  next_own : (s k : World) (w t : ℕ) (x : Chore) (e : Effect) → IsAlike s k → effect_of p s w q t x ≡ Some e
      → Next k (worker_does w q t x) (with_effect s w (deque_owner w x) q (Some e)) true
  next_own s k w t x e l h =
      subst (λ (o : Option Effect). ((with_effect k w (deque_owner w x) q o).1 ≡ e.response)
      × IsAlike (with_effect s w (deque_owner w x) q (Some e)).0 (with_effect k w (deque_owner w x) q o).0)
      (sym (effect_own s k w t x e l h)) (
        refl,
        (
          worked_own e.desk s.desks k.desks l.0,
          ap (λ (hs : List Hand). slice_set hs w (keep q e.hand)) l.1 ∙ sym (map-set (keep q) s.hands w e.hand),
          ap (λ (ks : List Deque). with_deque (deque_owner w x) (option_map (keep_runs q) e.deque) ks) l.2
              ∙ deque_set (deque_owner w x) e.deque s.deques,
        ),
      )

  next_other : (s k : World) (w r t : ℕ) (x : Chore) (e : Effect) → IsAlike s k → (r == q) ≡ false
      → effect_of p s w r t x ≡ Some e
      → IsAlike (with_effect s w (deque_owner w x) r (Some e)).0 k
  next_other s k w r t x e l apart h =
      where_done (λ (e : Effect). IsAlike (with_effect s w (deque_owner w x) r (Some e)).0 k) p s w r t x e h
      (λ hand rs i j done.
      let u : IsUnseen q p hand rs e = chore_unseen q p r apart t x (desk_at r s.desks) hand rs e done in (
        l.0 ∙ sym (worked_other r e.desk s.desks apart),
        l.1 ∙ sym (set_unseen (keep q) s.hands w hand e.hand i u.0),
        l.2 ∙ sym (deque_unseen (deque_owner w x) e.deque s.deques rs j u.1),
      ))

  next : (s k : World) (x : WorldStep) → IsWholeWorld s → IsAlike s k
      → Next k x (take_step p s x) (is_own q x (take_step p s x).1)
  next s k (client_calls r c) h l = next_call s k r c l
  next s k (worker_does w r t x) h l = by (effect_of p s w r t x) refl
    where
      by : (o : Option Effect) → effect_of p s w r t x ≡ o
          → Next k (worker_does w r t x) (with_effect s w (deque_owner w x) r o)
          (is_own q (worker_does w r t x) (with_effect s w (deque_owner w x) r o).1)
      by None i = l
      by (Some e) i =
          subst (λ (b : Bool). Next k (worker_does w r t x) (with_effect s w (deque_owner w x) r (Some e))
          (if b then r == q else false)) (sym happens) (which (r == q) refl)
        where
          happens : took_place e.response ≡ true
          happens = (let d : IsDoneAs p w r t x (desk_at r s.desks) e = effect_done p s w r t x e i h in d.1)

          which : (b : Bool) → (r == q) ≡ b → Next k (worker_does w r t x)
              (with_effect s w (deque_owner w x) r (Some e)) b
          which true is =
              (let f : effect_of p s w r t x ≡ Some e
              → Next k (worker_does w r t x) (with_effect s w (deque_owner w x) r (Some e)) true =
              subst (λ (n : ℕ). effect_of p s w n t x ≡ Some e
              → Next k (worker_does w n t x) (with_effect s w (deque_owner w x) n (Some e)) true)
              (sym (same_project q r is)) (λ h. next_own s k w t x e l h)
              in f i)
          which false is = next_other s k w r t x e l is i

  deleted_from : (s k : World) (xs : List WorldStep) → IsWholeWorld s → IsAlike s k
      → responses p k (own_part q xs (responses p s xs)) ≡ own_responses q xs (responses p s xs)
  deleted_from s k [] h l = refl
  deleted_from s k (x ∷ xs) h l = by (is_own q x now.1) (next s k x h l)
      (λ k l. deleted_from now.0 k xs (whole_step p s x h) l)
    where
      now : World × Response
      now = take_step p s x

      own : List WorldStep
      own = own_part q xs (responses p now.0 xs)

      ans : List Response
      ans = own_responses q xs (responses p now.0 xs)

      by : (b : Bool) → Next k x now b → ((k : World) → IsAlike now.0 k → responses p k own ≡ ans)
          → responses p k (if b then x ∷ own else own) ≡ (if b then now.1 ∷ ans else ans)
      by true n rest = (λ i. n.0 i ∷ rest (take_step p k x).0 n.1 i)
      by false n rest = rest k n

pub deleted : DeletionOfOthers
deleted p n q xs =
    deleted_from p q (new_world n) (new_world n) xs (whole_new n) (
      refl,
      map_replicate (keep q) n None,
      map_replicate (keep_runs q) n [],
    )
