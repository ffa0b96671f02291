-- What a claim says, and what it leaves.
use Rattle.std.proofs.Common.{◌≡◌, ℕ, Bool, true, false, List, ◌∷◌, Option, Some, None, refl, sym, ap, ◌∙◌, subst, inl}
use Rattle.std.proofs.Common.{inr, ◌+◌}
use Rattle.std.specs.Prelude.{◌⊎◌, if◌then◌else◌, is_some, Result, Ok, Err}
use Rattle.std.specs.declared.alloc.Global.{Global}
use Rattle.std.specs.declared.sync.Arc.{Arc}
use Rattle.pf_request.specs.Job.{Job}
use Rattle.pf_desks.specs.Desk.{running, held_at}
use Rattle.pf_desks.specs.Work.{is_queued, after_claim}
use Rattle.pf_desks.specs.Desks.{Desks, Answer, work_done, not_now, desk_at, put_desk, worked}
use Rattle.pf_errors.specs.declared.memory.NoMemory.{NoMemory}
use Rattle.pf_book.specs.declared.claimed.Claimed.{Claimed}
use Rattle.pf_book.specs.declared.queue.TrialQueue.{TrialQueue}
use Rattle.pf_book.specs.Queues.{IsQueuedIn, HoldsRoom, QueuesAll}
use Rattle.pf_book.specs.Answers.{SimulatesClaim, ClaimsAt}
use Rattle.pf_book.specs.Kept.{CountsAll}
use Rattle.pf_store.specs.Sources.{Kept}
use Rattle.pf_book.proofs.Counts.{counts_kept}
use Rattle.pf_book.proofs.Queued.{claim_followed, queues_put}
use Rattle.pf_book.proofs.Worked.{is_waiting}

pub claimed_world : (q t : ℕ) (w w' : Desks) (j : Arc Job Global) → ClaimsAt w q t (Ok (Some j)) w'
    → (is_queued (held_at (desk_at q w).trials t) ≡ true) × (w' ≡ put_desk q (after_claim (desk_at q w) t) w)
claimed_world q t w w' j h =
    let waits = is_waiting (desk_at q w).trials t j.value h.0 in
    let does = ap (λ (b : Bool). worked q w (if b then Some (after_claim (desk_at q w) t) else None)) waits in
    (waits, ap (λ (x : Desks × Answer). x.0) (sym h.1 ∙ does))

pub unclaimed_world : (q t : ℕ) (w w' : Desks) → ClaimsAt w q t (Ok None) w'
    → (is_queued (held_at (desk_at q w).trials t) ≡ false) × (w' ≡ w)
unclaimed_world q t w w' h = by (is_queued (held_at (desk_at q w).trials t)) refl
  where
    by : (b : Bool) → is_queued (held_at (desk_at q w).trials t) ≡ b → (b ≡ false) × (w' ≡ w)
    by true e =
        let does = ap (λ (b : Bool). worked q w (if b then Some (after_claim (desk_at q w) t) else None)) e in
        let reported : work_done ≡ not_now = ap (λ (x : Desks × Answer). x.1) (sym does ∙ h) in
        absurd (cc)
    by false e =
        let does = ap (λ (b : Bool). worked q w (if b then Some (after_claim (desk_at q w) t) else None)) e in
        (refl, ap (λ (x : Desks × Answer). x.0) (sym h ∙ does))

-- the queue holds all that are queued after a claim, of one that is no longer in it or still is
pub queues_claimed : (q t : ℕ) (k k' : TrialQueue) (w w' : Desks) (j : Arc Job Global) → ClaimsAt w q t (Ok (Some j)) w'
    → QueuesAll k w
    → ((r s : ℕ) → IsQueuedIn r s k.waiting.items → IsQueuedIn r s k'.waiting.items ⊎ ((r ≡ q) × (s ≡ t)))
    → k'.running ≡ k.running + 1 → HoldsRoom k' 0 → QueuesAll k' w'
queues_claimed q t k k' w w' j h all is_there ran room =
    let x = claimed_world q t w w' j h in
    subst (QueuesAll k') (sym x.1)
    (queues_put q k k' w (desk_at q w) (after_claim (desk_at q w) t) refl all
    (claim_followed q k k' (desk_at q w) t x.0 is_there ran room))

pub queues_some_claimed : (q t : ℕ) (k k' : TrialQueue) (w w' : Desks) (o : Option (Arc Job Global)) → is_some o ≡ true
    → ClaimsAt w q t (Ok o) w' → QueuesAll k w
    → k'.waiting.items ≡ k.waiting.items → k'.running ≡ k.running + 1 → HoldsRoom k' 0 → QueuesAll k' w'
queues_some_claimed q t k k' w w' None there h all waiting ran room = absurd (cc)
queues_some_claimed q t k k' w w' (Some j) there h all waiting ran room =
    queues_claimed q t k k' w w' j h all (λ r s k. inl (subst (IsQueuedIn r s) (sym waiting) k)) ran room

-- the first of the queue is claimed, and leaves it
pub queues_first_claimed : (q t : ℕ) (k k' : TrialQueue) (ys : List (ℕ × ℕ)) (w w' : Desks) (j : Arc Job Global)
    → ClaimsAt w q t (Ok (Some j)) w' → QueuesAll k w
    → k.waiting.items ≡ (q, t) ∷ ys → k'.waiting.items ≡ ys → k'.running ≡ k.running + 1 → HoldsRoom k' 0
    → QueuesAll k' w'
queues_first_claimed q t k k' ys w w' j h all items waiting ran room =
    queues_claimed q t k k' w w' j h all (λ r s h. by r s (subst (IsQueuedIn r s) items h)) ran room
  where
    by : (r s : ℕ) → ((q ≡ r) × (t ≡ s)) ⊎ IsQueuedIn r s ys → IsQueuedIn r s k'.waiting.items ⊎ ((r ≡ q) × (s ≡ t))
    by r s (inl e) = inr (sym e.0, sym e.1)
    by r s (inr rest) = inl (subst (IsQueuedIn r s) (sym waiting) rest)

-- the store counts the modules of all desks after a claim
pub counts_claimed : (k : Kept) (q t : ℕ) (w w' : Desks) (o : Option (Arc Job Global)) → ClaimsAt w q t (Ok o) w'
    → CountsAll k w → CountsAll k w'
counts_claimed k q t w w' (Some j) h all =
    subst (CountsAll k) (sym (claimed_world q t w w' j h).1)
    (counts_kept k q w (desk_at q w) (after_claim (desk_at q w) t) refl all refl)
counts_claimed k q t w w' None h all = subst (CountsAll k) (sym (unclaimed_world q t w w' h).1) all

pub counts_any_claimed : (k : Kept) (w w' : Desks) (r : Result (Option Claimed) NoMemory) → SimulatesClaim w r w'
    → CountsAll k w → CountsAll k w'
counts_any_claimed k w w' (Ok (Some c)) h all = counts_claimed k c.project c.ticket w w' (Some c.job) h all
counts_any_claimed k w w' (Ok None) h all = subst (CountsAll k) (sym h.1) all
counts_any_claimed k w w' (Err e) h all = subst (CountsAll k) (sym h.1) all
