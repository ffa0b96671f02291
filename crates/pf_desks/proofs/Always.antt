-- What each call and each step of a worker keeps is true of each desk after all steps, and after each legal history.
use Rattle.std.proofs.Common.{◌≡◌, ℕ, ◌==◌, Bool, true, false, List, [], ◌∷◌, Option, Some, None, refl, sym, subst}
use Rattle.std.specs.Prelude.{if◌then◌else◌}
use Rattle.pf_request.specs.Calls.{Call}
use Rattle.pf_request.specs.Job.{Job}
use Rattle.pf_desks.specs.Desk.{Profile, Desk, no_desk, TrialState, queued, running, done, Entry, called, claimed}
use Rattle.pf_desks.specs.Desk.{filed, handed_back, held_at}
use Rattle.pf_desks.specs.declared.mark.FileMark.{FileMark}
use Rattle.pf_desks.specs.Calls.{after_call, with_entry}
use Rattle.pf_desks.specs.Work.{is_queued, is_running, after_claim, after_file, after_hand_back, with_state}
use Rattle.pf_desks.specs.Work.{result_marked, DeskWork, claim, file, hand_back, worker_step}
use Rattle.pf_desks.specs.Desks.{Desks, DeskStep, client, worker, desk_at, put_desk, worked, step}
use Rattle.pf_desks.specs.History.{EntryFollows, IsLegal}
use Rattle.pf_desks.specs.Legality.{after_steps}
use Rattle.pf_desks.proofs.Isolated.{desk_placed}

-- a step that can be done where this holds is this desk
pub where_so : (b : Bool) (d d' : Desk) → (if b then Some d else None) ≡ Some d' → d' ≡ d
where_so true d d' h = cc
where_so false d d' h = absurd (cc)

module _ (p : Profile) (P : Desk → Type 0) (by_call : (d : Desk) (c : Call) → P d → P (after_call p d c))
    (by_work : (d d' : Desk) (k : DeskWork) → worker_step p d k ≡ Some d' → P d → P d') where
  placed : (q r : ℕ) (d : Desk) (w : Desks) → P d → P (desk_at q w) → P (desk_at q (put_desk r d w))
  placed q r d w new old = subst P (sym (desk_placed q r d w)) (by (r == q))
    where
      by : (b : Bool) → P (if b then d else desk_at q w)
      by true = new
      by false = old

  kept : (w : Desks) (s : DeskStep) → ((q : ℕ) → P (desk_at q w)) → (q : ℕ) → P (desk_at q (step p w s).0)
  kept w (client r c) h q = placed q r (after_call p (desk_at r w) c) w (by_call (desk_at r w) c (h r)) (h q)
  kept w (worker r k) h q = by (worker_step p (desk_at r w) k) refl
    where
      by : (o : Option Desk) → worker_step p (desk_at r w) k ≡ o → P (desk_at q (worked r w o).0)
      by (Some d) e = placed q r d w (by_work (desk_at r w) d k e (h r)) (h q)
      by None e = h q

  kept_from : (w : Desks) (ss : List DeskStep) → ((q : ℕ) → P (desk_at q w)) → (q : ℕ)
      → P (desk_at q (after_steps p w ss))
  kept_from w [] h = h
  kept_from w (s ∷ ss) h = kept_from (step p w s).0 ss (kept w s h)

  pub always : P no_desk → (q : ℕ) (ss : List DeskStep) → P (desk_at q (after_steps p [] ss))
  always h q ss = kept_from [] ss (λ r. h) q

  by_note : (d k : Desk) (e : Entry) → EntryFollows p d e k → P d → P k
  by_note d k (called c r) h x = subst P (sym h.2) (by_call d c x)
  by_note d k (claimed t) h x = by_work d k (claim t) h x
  by_note d k (filed t m) h x = by_work d k (file t m) h x
  by_note d k (handed_back t) h x = by_work d k (hand_back t) h x

  pub along : (d : Desk) (es : List Entry) (d' : Desk) → IsLegal p d es d' → P d → P d'
  along d [] d' h x = subst P h x
  along d (e ∷ es) d' h x = along h.0 es d' h.2 (by_note d h.0 e h.1 x)

-- what is noted of the work of workers
pub data OfWork : Entry → Type 0 where
  of_claim : (t : ℕ) → OfWork (claimed t)
  of_file : (t : ℕ) (m : FileMark) → OfWork (filed t m)
  of_back : (t : ℕ) → OfWork (handed_back t)

-- the desk after a trial's state changed, with this noted
abbrev pub moved : Desk → ℕ → (Job → TrialState) → Entry → Desk
moved d t f e = with_entry (record d { trials = with_state d.trials t f }) e

-- what each change of a trial's state keeps is kept by each step of a worker
module _ (p : Profile) (P : Desk → Type 0) (by_move : (d : Desk) (t : ℕ) (f : Job → TrialState) (e : Entry) → OfWork e
    → P d → P (moved d t f e)) where
  by_claim : (d d' : Desk) (t : ℕ) → worker_step p d (claim t) ≡ Some d' → P d → P d'
  by_claim d d' t h k = subst P (sym (where_so (is_queued (held_at d.trials t)) (after_claim d t) d' h))
      (by_move d t (λ j. running) (claimed t) (of_claim t) k)

  by_file : (d d' : Desk) (t : ℕ) (m : FileMark) → worker_step p d (file t m) ≡ Some d' → P d → P d'
  by_file d d' t m h k =
      subst P (sym (where_so (is_running (held_at d.trials t)) (after_file p d t m) d' h))
      (by_move d t (λ j. done (result_marked p m j)) (filed t m) (of_file t m) k)

  by_back : (d d' : Desk) (t : ℕ) → worker_step p d (hand_back t) ≡ Some d' → P d → P d'
  by_back d d' t h k = subst P (sym (where_so (is_running (held_at d.trials t)) (after_hand_back d t) d' h))
      (by_move d t (λ j. queued) (handed_back t) (of_back t) k)

  pub moves : (d d' : Desk) (k : DeskWork) → worker_step p d k ≡ Some d' → P d → P d'
  moves d d' (claim t) h k = by_claim d d' t h k
  moves d d' (file t m) h k = by_file d d' t m h k
  moves d d' (hand_back t) h k = by_back d d' t h k
