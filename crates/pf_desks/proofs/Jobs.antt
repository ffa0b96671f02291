-- A ticket that was given is still for its job, whatever happens at its desk.
use Rattle.std.proofs.Common.{◌≡◌, ◌≤◌, ◌==◌, ℕ, zero, suc, Bool, true, false, List, [], ◌∷◌, length, Option, Some}
use Rattle.std.proofs.Common.{None, refl, sym, subst, arith}
use Rattle.std.specs.Prelude.{if◌then◌else◌, IfSome, slice_get}
use Rattle.std.specs.Option.{option_flatten}
use Rattle.pf_request.specs.Calls.{Call}
use Rattle.pf_request.specs.Job.{Job}
use Rattle.pf_desks.specs.Desk.{Profile, Desk, TrialState, Trial, held_at, with_held}
use Rattle.pf_desks.specs.Calls.{with_job, after_call}
use Rattle.pf_desks.specs.Work.{is_queued, is_running, with_state, after_claim, after_file, after_hand_back, DeskWork}
use Rattle.pf_desks.specs.Work.{claim, file, hand_back, worker_step}
use Rattle.pf_desks.specs.Desks.{Desks, DeskStep, client, worker, desk_at, put_desk, worked, step}
use Rattle.pf_desks.specs.Legality.{after_steps}
use Rattle.pf_desks.specs.Jobs.{IsTicketOf, KeepsTickets, KeepsAllTickets}
use Rattle.pf_desks.proofs.Always.{where_so}
use Rattle.pf_desks.proofs.Isolated.{desk_placed, same_project}
use Rattle.pf_desks.proofs.Trials.{given_pushed, given_dropped, given_in_state, given_called}

-- the ticket of a trial that is held was given for its job
held_index : (ts : List (Option Trial)) (i : ℕ) (x : Trial) → option_flatten (slice_get ts i) ≡ Some x
    → suc i ≤ length ts
held_index [] i x h = absurd (cc)
held_index (o ∷ ts) zero x h = omega arith
held_index (o ∷ ts) (suc i) x h = omega (arith, held_index ts i x h)

held_within : (ts : List (Option Trial)) (t : ℕ) (x : Trial) → held_at ts t ≡ Some x → t ≤ length ts
held_within ts zero x h = omega arith
held_within ts (suc i) x h = held_index ts i x h

pub ticket_held : (d : Desk) (t : ℕ) (x : Trial) → held_at d.trials t ≡ Some x → IsTicketOf d t x.job
ticket_held d t x h = (
  held_within d.trials t x h,
  subst (λ (o : Option Trial). IfSome o (λ y. x.job ≡ y.job)) (sym h) refl,
)

-- ---- a trial more, one that is dropped, one in another state, and calls

module _ (d : Desk) where
  pub tickets_pushed : (n : ℕ) (i : Job) → KeepsTickets d (with_job d n i)
  tickets_pushed n i t j k = given_pushed (λ x. j ≡ x.job) d t k n i

  pub tickets_dropped : (n : ℕ) → KeepsTickets d (record d { trials = with_held d.trials n None })
  tickets_dropped n t j k = given_dropped (λ x. j ≡ x.job) d t k n

  pub tickets_in_state : (u : ℕ) (f : Job → TrialState) → KeepsTickets d (record d { trials = with_state d.trials u f })
  tickets_in_state u f t j k = given_in_state (λ x. j ≡ x.job) d t k u f (λ e x h. h)

  pub tickets_called : (p : Profile) (c : Call) → KeepsTickets d (after_call p d c)
  tickets_called p c t j k = given_called (λ x. j ≡ x.job) d t k p c

-- ---- a desk among all

pub tickets_placed : (q r : ℕ) (d : Desk) (w : Desks) → KeepsTickets (desk_at r w) d
    → KeepsTickets (desk_at q w) (desk_at q (put_desk r d w))
tickets_placed q r d w h = subst (KeepsTickets (desk_at q w)) (sym (desk_placed q r d w)) (by (r == q) refl)
  where
    by : (b : Bool) → (r == q) ≡ b → KeepsTickets (desk_at q w) (if b then d else desk_at q w)
    by true e = subst (λ (n : ℕ). KeepsTickets (desk_at n w) d) (same_project q r e) h
    by false e = λ t j k. k

-- ---- the work of workers

module _ (p : Profile) where
  stays_where : (d d' k : Desk) → d' ≡ k → KeepsTickets d k → KeepsTickets d d'
  stays_where d d' k is h = subst (KeepsTickets d) (sym is) h

  stays_claim : (d d' : Desk) (t : ℕ) → worker_step p d (claim t) ≡ Some d' → KeepsTickets d d'
  stays_claim d d' t h = stays_where d d' _ (where_so (is_queued (held_at d.trials t)) (after_claim d t) d' h)
      (tickets_in_state d t _)

  stays_file : (d d' : Desk) (t : ℕ) (m : _) → worker_step p d (file t m) ≡ Some d' → KeepsTickets d d'
  stays_file d d' t m h = stays_where d d' _ (where_so (is_running (held_at d.trials t)) (after_file p d t m) d' h)
      (tickets_in_state d t _)

  stays_back : (d d' : Desk) (t : ℕ) → worker_step p d (hand_back t) ≡ Some d' → KeepsTickets d d'
  stays_back d d' t h = stays_where d d' _ (where_so (is_running (held_at d.trials t)) (after_hand_back d t) d' h)
      (tickets_in_state d t _)

  pub tickets_worked : (d d' : Desk) (k : DeskWork) → worker_step p d k ≡ Some d' → KeepsTickets d d'
  tickets_worked d d' (claim t) h = stays_claim d d' t h
  tickets_worked d d' (file t m) h = stays_file d d' t m h
  tickets_worked d d' (hand_back t) h = stays_back d d' t h

  -- ---- all desks

  pub tickets_stepped : (q : ℕ) (w : Desks) (s : DeskStep) → KeepsTickets (desk_at q w) (desk_at q (step p w s).0)
  tickets_stepped q w (client r c) = tickets_placed q r (after_call p (desk_at r w) c) w
      (tickets_called (desk_at r w) p c)
  tickets_stepped q w (worker r k) = by (worker_step p (desk_at r w) k) refl
    where
      by : (o : Option Desk) → worker_step p (desk_at r w) k ≡ o
          → KeepsTickets (desk_at q w) (desk_at q (worked r w o).0)
      by (Some d) e = tickets_placed q r d w (tickets_worked (desk_at r w) d k e)
      by None e = λ t j k. k

  pub tickets_stay : (w : Desks) (ss : List DeskStep) → KeepsAllTickets w (after_steps p w ss)
  tickets_stay w [] = λ q t j k. k
  tickets_stay w (s ∷ ss) = λ q t j k. tickets_stay (step p w s).0 ss q t j (tickets_stepped q w s t j k)
