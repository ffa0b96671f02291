-- The queue of the trials that wait for a worker, where a desk changes.
use Rattle.std.proofs.Common.{◌≡◌, ◌<◌, ◌≤◌, ◌+◌, ◌==◌, ℕ, zero, suc, Bool, true, false, List, [], ◌∷◌, ◌++◌, length}
use Rattle.std.proofs.Common.{get_or, drop, Option, Some, None, refl, sym, ap, ◌∙◌, subst, arith, inl, inr}
use Rattle.std.specs.Prelude.{◌⊎◌, if◌then◌else◌, slice_get, sum_by}
use Rattle.std.specs.Option.{option_map, option_flatten}
use Rattle.std.proofs.lemmas.Bool.Decides.{nat_tests}
use Rattle.std.proofs.lemmas.List.Sums.{sum_by_push}
use Rattle.pf_model.specs.Shrinking.{Result}
use Rattle.pf_desks.specs.Desk as desk
use Rattle.pf_desks.specs.Desk.{TrialState, Trial, Desk, held_at, with_held, all_held}
use Rattle.pf_desks.specs.Work.{is_queued_state, is_queued, is_running, in_state, with_state, after_claim}
use Rattle.pf_desks.specs.Work.{after_hand_back}
use Rattle.pf_desks.specs.Desks.{Desks, desk_at, put_desk}
use Rattle.pf_book.specs.Answers.{with_result}
use Rattle.pf_book.specs.Plans.{with_change}
use Rattle.pf_book.specs.Queues.{IsQueuedIn, HoldsRoom, QueuesAll, FollowsQueue, FrontIsQueued, trials_dropped_by}
use Rattle.pf_book.specs.Queues.{lined_up}
use Rattle.pf_book.specs.Running.{running_among, running_in}
use Rattle.pf_book.specs.declared.plan.DeskChange.{DeskChange}
use Rattle.pf_book.specs.declared.plan.DeskChange.TheVariants as change
use Rattle.pf_book.specs.declared.queue.TrialQueue.{TrialQueue}
use Rattle.pf_book.proofs.Counted.{sum_around, held_other}
use Rattle.pf_book.proofs.Counts.{put_sum, at_most_all}
use Rattle.pf_book.proofs.Worked.{held_found, held_none, queued_at, running_at, ran, runs, running_set}
use Rattle.pf_desks.proofs.Held.{Around, around, gap, held_push}
use Rattle.pf_desks.proofs.Isolated.{desk_placed, same_project}

-- ---- what is in a queue

pub is_there_before : (q t : ℕ) (xs ys : List (ℕ × ℕ)) → IsQueuedIn q t xs → IsQueuedIn q t (xs ++ ys)
is_there_before q t [] ys h = absurd h
is_there_before q t (x ∷ xs) ys (inl h) = inl h
is_there_before q t (x ∷ xs) ys (inr h) = inr (is_there_before q t xs ys h)

pub is_there_last : (q t : ℕ) (xs : List (ℕ × ℕ)) → IsQueuedIn q t (xs ++ (q, t) ∷ [])
is_there_last q t [] = inl (refl, refl)
is_there_last q t (x ∷ xs) = inr (is_there_last q t xs)

-- ---- which trials are queued

same_or_other : (n m : ℕ) → (n ≡ m) ⊎ (n ≡ m → ⊥)
same_or_other zero zero = inl refl
same_or_other zero (suc m) = inr (λ e. omega arith)
same_or_other (suc n) zero = inr (λ e. omega arith)
same_or_other (suc n) (suc m) = by (same_or_other n m)
  where
    by : (n ≡ m) ⊎ (n ≡ m → ⊥) → (suc n ≡ suc m) ⊎ (suc n ≡ suc m → ⊥)
    by (inl e) = inl (ap suc e)
    by (inr ne) = inr (λ e. ne (omega arith))

-- a trial that is queued after something was written under a number is under that number, or was queued before
queued_other : (ts : List (Option Trial)) (t k : ℕ) (o : Option Trial) → is_queued (held_at (with_held ts t o) k) ≡ true
    → (k ≡ t) ⊎ (is_queued (held_at ts k) ≡ true)
queued_other ts t k o h = by (same_or_other k t)
  where
    by : (k ≡ t) ⊎ (k ≡ t → ⊥) → (k ≡ t) ⊎ (is_queued (held_at ts k) ≡ true)
    by (inl e) = inl e
    by (inr ne) = inr (ap is_queued (sym (held_other ts t k o ne)) ∙ h)

-- a trial whose state is set to one that isn't queued isn't
pub unqueued : (ts : List (Option Trial)) (t : ℕ) (s : TrialState) → is_queued_state s ≡ false
    → is_queued (held_at (with_state ts t (λ j. s)) t) ≡ false
unqueued ts t s h = by (held_at ts t) refl
  where
    by : (o : Option Trial) → held_at ts t ≡ o
        → is_queued (held_at (with_held ts t (option_map (in_state (λ j. s)) o)) t) ≡ false
    by None e = ap is_queued (held_none ts t)
    by (Some x) e = ap is_queued (held_found ts t x (in_state (λ j. s) x) e) ∙ h

-- those that are queued then were queued before
pub queued_still : (ts : List (Option Trial)) (t k : ℕ) (s : TrialState) → is_queued_state s ≡ false
    → is_queued (held_at (with_state ts t (λ j. s)) k) ≡ true → is_queued (held_at ts k) ≡ true
queued_still ts t k s isnt h = by (queued_other ts t k (option_map (in_state (λ j. s)) (held_at ts t)) h)
  where
    by : (k ≡ t) ⊎ (is_queued (held_at ts k) ≡ true) → is_queued (held_at ts k) ≡ true
    by (inl e) =
        let is = ap (λ (n : ℕ). is_queued (held_at (with_state ts t (λ j. s)) n)) (sym e) ∙ h in
        absurd (cc (is, unqueued ts t s isnt))
    by (inr was) = was

-- ---- the work of workers at a desk

pub claim_running : (d : Desk) (t : ℕ) → is_queued (held_at d.trials t) ≡ true
    → running_in (after_claim d t) ≡ running_in d + 1
claim_running d t h =
    let e : running_in (after_claim d t) + 0 ≡ running_in d + 1 = running_set d.trials t desk.queued desk.running
    (queued_at (held_at d.trials t) h) in
    omega (arith, e)

pub file_running : (d : Desk) (t : ℕ) (r : Result) → is_running (held_at d.trials t) ≡ true
    → running_in (with_result d t r) + 1 ≡ running_in d
file_running d t r h =
    let e : running_in (with_result d t r) + 1 ≡ running_in d + 0 = running_set d.trials t desk.running (desk.done r)
    (running_at (held_at d.trials t) h) in
    omega (arith, e)

pub back_running : (d : Desk) (t : ℕ) → is_running (held_at d.trials t) ≡ true
    → running_in (after_hand_back d t) + 1 ≡ running_in d
back_running d t h =
    let e : running_in (after_hand_back d t) + 1 ≡ running_in d + 0 = running_set d.trials t desk.running desk.queued
    (running_at (held_at d.trials t) h) in
    omega (arith, e)

-- ---- a change of a desk

module _ (ts : List (Option Trial)) where
  gone_running : (t : ℕ) (o : Option Trial) → held_at ts t ≡ o
      → running_among (with_held ts t None) + (if is_running o then 1 else 0) ≡ running_among ts
  gone_running t None e = omega (arith, ap (λ (l : List Trial). sum_by runs l) (gap ts t e))
  gone_running t (Some x) e =
      let a : Around ts t x = around ts t x e in
      omega (
        arith,
        ap (λ (l : List Trial). sum_by runs l) a.gone,
        ap (λ (l : List Trial). sum_by runs l) a.is,
        sum_around runs a.before a.after x,
      )

  pushed_running : (x : Trial) → x.state ≡ desk.queued → running_among (ts ++ Some x ∷ []) ≡ running_among ts
  pushed_running x e =
      let none : ◌≡◌ {A = ℕ} (runs x) 0 = ap ran e in
      omega (arith, none, ap (λ (l : List Trial). sum_by runs l) (held_push ts x), sum_by_push runs (all_held ts) x)

pub change_running : (d : Desk) (a : DeskChange)
    → running_in (with_change d a) + trials_dropped_by d.trials a ≡ running_in d
change_running d change.Nothing = omega arith
change_running d (change.Module m) = omega arith
change_running d (change.Trial n j) = omega (
  arith,
  pushed_running d.trials (record { module_number = n; job = j.value; state = desk.queued }) refl,
)
change_running d (change.DropTrial t) = gone_running d.trials t (held_at d.trials t) refl
change_running d (change.Withdraw n) = omega arith
change_running d (change.Edition e) = omega arith

-- no more are given up than run
pub ended_within : (d : Desk) (a : DeskChange) → trials_dropped_by d.trials a ≤ running_in d
ended_within d a = omega (arith, change_running d a)

pushed_index : {X : Type 0} (xs : List X) (y : X) (i : ℕ)
    → (slice_get (xs ++ y ∷ []) i ≡ slice_get xs i) ⊎ (length xs ≡ i)
pushed_index [] y zero = inr refl
pushed_index [] y (suc i) = inl refl
pushed_index (x ∷ xs) y zero = inl refl
pushed_index (x ∷ xs) y (suc i) = by (pushed_index xs y i)
  where
    by : (slice_get (xs ++ y ∷ []) i ≡ slice_get xs i) ⊎ (length xs ≡ i)
        → (slice_get (xs ++ y ∷ []) i ≡ slice_get xs i) ⊎ (suc (length xs) ≡ suc i)
    by (inl e) = inl e
    by (inr e) = inr (ap suc e)

-- what is queued by a change was queued before, or is lined up
change_queued : (q : ℕ) (d : Desk) (a : DeskChange) (k : ℕ) → is_queued (held_at (with_change d a).trials k) ≡ true
    → (is_queued (held_at d.trials k) ≡ true) ⊎ IsQueuedIn q k (lined_up q (length d.trials + 1) a)
change_queued q d change.Nothing k h = inl h
change_queued q d (change.Module m) k h = inl h
change_queued q d (change.Trial n j) zero h = inl h
change_queued q d (change.Trial n j) (suc i) h = by (pushed_index d.trials (Some new) i)
  where
    new : Trial
    new = record { module_number = n; job = j.value; state = desk.queued }

    by : (slice_get (d.trials ++ Some new ∷ []) i ≡ slice_get d.trials i) ⊎ (length d.trials ≡ i)
        → (is_queued (held_at d.trials (suc i)) ≡ true) ⊎ IsQueuedIn q (suc i)
        (lined_up q (length d.trials + 1) (change.Trial n j))
    by (inl e) = inl (ap (λ (o : Option (Option Trial)). is_queued (option_flatten o)) (sym e) ∙ h)
    by (inr e) = inr (inl (refl, omega (arith, e)))
change_queued q d (change.DropTrial t) k h = by (queued_other d.trials t k None h)
  where
    by : (k ≡ t) ⊎ (is_queued (held_at d.trials k) ≡ true) → (is_queued (held_at d.trials k) ≡ true) ⊎ IsQueuedIn q k []
    by (inl e) =
        let is = ap (λ (n : ℕ). is_queued (held_at (with_held d.trials t None) n)) (sym e) ∙ h in
        absurd (cc (is, ap is_queued (held_none d.trials t)))
    by (inr was) = inl was
change_queued q d (change.Withdraw n) k h = inl h
change_queued q d (change.Edition e) k h = inl h

-- the queue follows a change
module _ (q : ℕ) (k k' : TrialQueue) (d d' : Desk) (a : DeskChange) (trials : d'.trials ≡ (with_change d a).trials)
    (waiting : k'.waiting.items ≡ k.waiting.items ++ lined_up q (length d.trials + 1) a)
    (running : k'.running + trials_dropped_by d.trials a ≡ k.running) (room : HoldsRoom k' 0) where
  is_there_then : (r t : ℕ) (ys : List (ℕ × ℕ)) → IsQueuedIn r t (k.waiting.items ++ ys)
      → k'.waiting.items ≡ k.waiting.items ++ ys → IsQueuedIn r t k'.waiting.items
  is_there_then r t ys h e = subst (IsQueuedIn r t) (sym e) h

  is_there_after : (r t : ℕ) (xs ys : List (ℕ × ℕ)) → IsQueuedIn r t ys → IsQueuedIn r t (xs ++ ys)
  is_there_after r t [] ys h = h
  is_there_after r t (x ∷ xs) ys h = inr (is_there_after r t xs ys h)

  now_queued : (t : ℕ) → (is_queued (held_at d.trials t) ≡ true) ⊎ IsQueuedIn q t (lined_up q (length d.trials + 1) a)
      → (is_queued (held_at d.trials t) ≡ true) ⊎ IsQueuedIn q t k'.waiting.items
  now_queued t (inl was) = inl was
  now_queued t (inr new) = inr (is_there_then q t _ (is_there_after q t k.waiting.items _ new) waiting)

  pub change_followed : FollowsQueue q k d k' d'
  change_followed = record {
    room = room;
    running = omega (arith, running, change_running d a, ap running_among trials);
    stays = λ r t h. inl (is_there_then r t _ (is_there_before r t k.waiting.items _ h) waiting);
    new = λ t h. now_queued t (change_queued q d a t
        (ap (λ (l : List (Option Trial)). is_queued (held_at l t)) (sym trials) ∙ h));
  }

-- nothing changes
pub queue_kept : (q : ℕ) (k k' : TrialQueue) (d d' : Desk) → k'.waiting.items ≡ k.waiting.items → k'.running ≡ k.running
    → HoldsRoom k' 0 → d' ≡ d → FollowsQueue q k d k' d'
queue_kept q k k' d d' waiting running room same = record {
  room = room;
  running = omega (arith, running, ap running_in same);
  stays = λ r t h. inl (subst (IsQueuedIn r t) (sym waiting) h);
  new = λ t h. inl (ap (λ (x : Desk). is_queued (held_at x.trials t)) (sym same) ∙ h);
}

-- ---- all desks

other_project : (q r : ℕ) → (q == r) ≡ false → r ≡ q → ⊥
other_project q r h e = grind (arith, nat_tests)

module _ (q : ℕ) (k k' : TrialQueue) (w : Desks) (d d' : Desk) (here : desk_at q w ≡ d) (all : QueuesAll k w)
    (follows : FollowsQueue q k d k' d') where
  own_waits : (t : ℕ) → is_queued (held_at d'.trials t) ≡ true → IsQueuedIn q t k'.waiting.items
  own_waits t h = by (follows.new t h)
    where
      lost : IsQueuedIn q t k'.waiting.items ⊎ ((q ≡ q) × (is_queued (held_at d'.trials t) ≡ false))
          → IsQueuedIn q t k'.waiting.items
      lost (inl s) = s
      lost (inr gone) = absurd (cc (gone.1, h))

      by : (is_queued (held_at d.trials t) ≡ true) ⊎ IsQueuedIn q t k'.waiting.items → IsQueuedIn q t k'.waiting.items
      by (inl was) =
          lost (follows.stays q t (all.waiting q t (ap (λ (x : Desk). is_queued (held_at x.trials t)) here ∙ was)))
      by (inr new) = new

  other_waits : (r t : ℕ) → (r ≡ q → ⊥) → is_queued (held_at (desk_at r w).trials t) ≡ true
      → IsQueuedIn r t k'.waiting.items
  other_waits r t ne h = by (follows.stays r t (all.waiting r t h))
    where
      by : IsQueuedIn r t k'.waiting.items ⊎ ((r ≡ q) × (is_queued (held_at d'.trials t) ≡ false))
          → IsQueuedIn r t k'.waiting.items
      by (inl s) = s
      by (inr gone) = absurd (ne gone.0)

  all_wait : (r t : ℕ) → is_queued (held_at (desk_at r (put_desk q d' w)).trials t) ≡ true
      → IsQueuedIn r t k'.waiting.items
  all_wait r t h = by (q == r) refl (ap (λ (x : Desk). is_queued (held_at x.trials t)) (sym (desk_placed r q d' w)) ∙ h)
    where
      by : (b : Bool) → (q == r) ≡ b → is_queued (held_at (if b then d' else desk_at r w).trials t) ≡ true
          → IsQueuedIn r t k'.waiting.items
      by true e h = subst (λ (n : ℕ). IsQueuedIn n t k'.waiting.items) (same_project r q e) (own_waits t h)
      by false e h = other_waits r t (other_project q r e) h

  -- the queue holds all that are queued, where it followed one desk
  pub queues_put : QueuesAll k' (put_desk q d' w)
  queues_put = record {
    room = follows.room;
    running = omega (arith, follows.running, all.running, put_sum running_in refl q d' w, ap running_in here);
    waiting = all_wait;
  }

-- also where the desk is as it was, and isn't among them yet
pub queues_kept : (q : ℕ) (k k' : TrialQueue) (w : Desks) (d d' : Desk) → desk_at q w ≡ d → d' ≡ d → QueuesAll k w
    → FollowsQueue q k d k' d' → QueuesAll k' w
queues_kept q k k' w d d' here same all follows = record {
  room = follows.room;
  running = omega (arith, follows.running, all.running, ap running_in same);
  waiting = λ r t h. by r t h (follows.stays r t (all.waiting r t h));
}
  where
    by : (r t : ℕ) → is_queued (held_at (desk_at r w).trials t) ≡ true
        → IsQueuedIn r t k'.waiting.items ⊎ ((r ≡ q) × (is_queued (held_at d'.trials t) ≡ false))
        → IsQueuedIn r t k'.waiting.items
    by r t h (inl s) = s
    by r t h (inr gone) =
        let is = ap (λ (x : Desk). is_queued (held_at x.trials t)) (same ∙ sym here)
        ∙ ap (λ (n : ℕ). is_queued (held_at (desk_at n w).trials t)) (sym gone.0) ∙ h in
        absurd (cc (is, gone.1))

-- as many run at one desk as at all of them, or fewer
pub running_within : (q : ℕ) (k : TrialQueue) (w : Desks) (d : Desk) → desk_at q w ≡ d → QueuesAll k w
    → running_in d ≤ k.running
running_within q k w d here all = omega (arith, all.running, at_most_all running_in refl q w, ap running_in here)

-- ---- the work of workers

-- one that is claimed leaves the queue or stays in it
pub claim_followed : (q : ℕ) (k k' : TrialQueue) (d : Desk) (t : ℕ) → is_queued (held_at d.trials t) ≡ true
    → ((r s : ℕ) → IsQueuedIn r s k.waiting.items → IsQueuedIn r s k'.waiting.items ⊎ ((r ≡ q) × (s ≡ t)))
    → k'.running ≡ k.running + 1 → HoldsRoom k' 0 → FollowsQueue q k d k' (after_claim d t)
claim_followed q k k' d t queues is_there running room = record {
  room = room;
  running = omega (arith, running, claim_running d t queues);
  stays = λ r s h. by r s (is_there r s h);
  new = λ s h. inl (queued_still d.trials t s desk.running refl h);
}
  where
    by : (r s : ℕ) → IsQueuedIn r s k'.waiting.items ⊎ ((r ≡ q) × (s ≡ t))
        → IsQueuedIn r s k'.waiting.items ⊎ ((r ≡ q) × (is_queued (held_at (after_claim d t).trials s) ≡ false))
    by r s (inl h) = inl h
    by r s (inr h) = inr (
      h.0,
      ap (λ (n : ℕ). is_queued (held_at (after_claim d t).trials n)) h.1
          ∙ unqueued d.trials t desk.running refl,
    )

-- one that is filed leaves its room
pub file_followed : (q : ℕ) (k k' : TrialQueue) (d : Desk) (t : ℕ) (r : Result) → is_running (held_at d.trials t) ≡ true
    → k'.waiting.items ≡ k.waiting.items → k'.running + 1 ≡ k.running → HoldsRoom k' 0
    → FollowsQueue q k d k' (with_result d t r)
file_followed q k k' d t r runs waiting running room = record {
  room = room;
  running = omega (arith, running, file_running d t r runs);
  stays = λ r s h. inl (subst (IsQueuedIn r s) (sym waiting) h);
  new = λ s h. inl (queued_still d.trials t s (desk.done r) refl h);
}

-- one that is handed back waits again
pub back_followed : (q : ℕ) (k k' : TrialQueue) (d : Desk) (t : ℕ) → is_running (held_at d.trials t) ≡ true
    → k'.waiting.items ≡ k.waiting.items ++ (q, t) ∷ [] → k'.running + 1 ≡ k.running → HoldsRoom k' 0
    → FollowsQueue q k d k' (after_hand_back d t)
back_followed q k k' d t runs waiting running room = record {
  room = room;
  running = omega (arith, running, back_running d t runs);
  stays = λ r s h. inl (subst (IsQueuedIn r s) (sym waiting) (is_there_before r s k.waiting.items _ h));
  new = λ s h. by s (queued_other d.trials t s _ h);
}
  where
    by : (s : ℕ) → (s ≡ t) ⊎ (is_queued (held_at d.trials s) ≡ true)
        → (is_queued (held_at d.trials s) ≡ true) ⊎ IsQueuedIn q s k'.waiting.items
    by s (inl e) = inr (subst (λ (n : ℕ). IsQueuedIn q n k'.waiting.items) (sym e)
        (subst (IsQueuedIn q t) (sym waiting) (is_there_last q t k.waiting.items)))
    by s (inr was) = inl was

-- the first leaves the queue, which isn't queued
pub first_passed : (q t : ℕ) (k k' : TrialQueue) (w : Desks) → k.waiting.items ≡ (q, t) ∷ k'.waiting.items
    → k'.running ≡ k.running → HoldsRoom k' 0
    → is_queued (held_at (desk_at q w).trials t) ≡ false → QueuesAll k w → QueuesAll k' w
first_passed q t k k' w items running room isnt all = record {
  room = room;
  running = running ∙ all.running;
  waiting = λ r s h. by r s h (subst (IsQueuedIn r s) items (all.waiting r s h));
}
  where
    by : (r s : ℕ) → is_queued (held_at (desk_at r w).trials s) ≡ true
        → ((q ≡ r) × (t ≡ s)) ⊎ IsQueuedIn r s k'.waiting.items → IsQueuedIn r s k'.waiting.items
    by r s h (inl e) =
        let same : is_queued (held_at (desk_at q w).trials t) ≡ true =
        (λ i. is_queued (held_at (desk_at (e.0 i) w).trials (e.1 i))) ∙ h in
        absurd (cc (same, isnt))
    by r s h (inr rest) = rest

-- what is found at the front is what a list begins with
pub front_is : (es : List (ℕ × ℕ)) (e : ℕ × ℕ) → 0 < length es → e ≡ get_or es 0 e → es ≡ e ∷ drop 1 es
front_is [] e some is = absurd (omega arith)
front_is (x ∷ es) e some is = ap (λ (y : ℕ × ℕ). y ∷ es) (sym is)

-- the front is queued, or there is none
pub front_queued : (q t : ℕ) (es : List (ℕ × ℕ)) (w : Desks) → es ≡ (q, t) ∷ drop 1 es
    → is_queued (held_at (desk_at q w).trials t) ≡ true → FrontIsQueued es w
front_queued q t es w is queues = subst (λ (l : List (ℕ × ℕ)). FrontIsQueued l w) (sym is) queues

pub no_front : (es : List (ℕ × ℕ)) (w : Desks) → length es ≤ 0 → FrontIsQueued es w
no_front [] w none = tt
no_front (e ∷ es) w none = absurd (omega arith)

-- where the queue is empty, no trial is queued
pub none_queued_at_all : (k : TrialQueue) (w : Desks) → k.waiting.items ≡ [] → QueuesAll k w → (q t : ℕ)
    → is_queued (held_at (desk_at q w).trials t) ≡ false
none_queued_at_all k w none all q t = by (is_queued (held_at (desk_at q w).trials t)) refl
  where
    by : (b : Bool) → is_queued (held_at (desk_at q w).trials t) ≡ b → b ≡ false
    by true h = absurd (subst (IsQueuedIn q t) none (all.waiting q t h))
    by false h = refl
