-- The trials that wait for a worker, and room for those that run.
use Rattle.std.specs.Prelude.{◌≡◌, ◌⊎◌, ◌≤◌, ◌+◌, ℕ, true, false, List, [], ◌∷◌, Option, sum_by, if◌then◌else◌}
use Rattle.std.specs.VecDeque.{deque_len, deque_capacity}
use Rattle.pf_desks.specs.Desk.{Trial, Desk, held_at}
use Rattle.pf_desks.specs.Work.{is_queued, is_running}
use Rattle.pf_desks.specs.Desks.{Desks, desk_at}
use Rattle.pf_book.specs.declared.plan.DeskChange.{DeskChange}
use Rattle.pf_book.specs.declared.plan.DeskChange.TheVariants as change
use Rattle.pf_book.specs.declared.queue.TrialQueue.{TrialQueue}
use Rattle.pf_book.specs.Running.{running_in}

-- the trial of a project's ticket is among these
abbrev pub IsQueuedIn : (project ticket : ℕ) → List (ℕ × ℕ) → Type 0
IsQueuedIn q t [] = ⊥
IsQueuedIn q t (e ∷ es) = ((e.0 ≡ q) × (e.1 ≡ t)) ⊎ IsQueuedIn q t es

-- there is room for those that wait, those that run, and n more
abbrev pub HoldsRoom : TrialQueue → ℕ → Type 0
HoldsRoom k n = deque_len k.waiting + k.running + n ≤ deque_capacity k.waiting

-- each trial that is queued at some desk waits, as many run as are running at all desks, and there is room for both
pub record QueuesAll (k : TrialQueue) (w : Desks) : Type 0 where
  pub room : HoldsRoom k 0
  pub running : k.running ≡ sum_by (λ e. running_in e.1) w
  pub waiting : (q t : ℕ) → is_queued (held_at (desk_at q w).trials t) ≡ true → IsQueuedIn q t k.waiting.items

-- FollowsQueue q k d k' d': from one desk of a project to the next those that run are as many more or fewer as at the
-- desk, and those wait that are queued; nothing is lost but what isn't queued
pub record FollowsQueue (q : ℕ) (k : TrialQueue) (d : Desk) (k' : TrialQueue) (d' : Desk) : Type 0 where
  pub room : HoldsRoom k' 0
  pub running : k'.running + running_in d ≡ k.running + running_in d'
  pub stays : (r t : ℕ) → IsQueuedIn r t k.waiting.items
      → IsQueuedIn r t k'.waiting.items ⊎ ((r ≡ q) × (is_queued (held_at d'.trials t) ≡ false))
  pub new : (t : ℕ) → is_queued (held_at d'.trials t) ≡ true
      → (is_queued (held_at d.trials t) ≡ true) ⊎ IsQueuedIn q t k'.waiting.items

-- the trials that wait from the first on that is queued; those before it were claimed by their tickets, or dropped
abbrev pub from_first_queued : Desks → List (ℕ × ℕ) → List (ℕ × ℕ)
from_first_queued w [] = []
from_first_queued w (e ∷ es) =
    if is_queued (held_at (desk_at e.0 w).trials e.1) then e ∷ es else from_first_queued w es

-- nothing waits, or what is at the front is queued
abbrev pub FrontIsQueued : List (ℕ × ℕ) → Desks → Type 0
FrontIsQueued [] w = Unit {0}
FrontIsQueued (e ∷ es) w = is_queued (held_at (desk_at e.0 w).trials e.1) ≡ true

-- ---- changes

-- how many running trials a change gives up: the one that is dropped, or none
abbrev pub trials_dropped_by : List (Option Trial) → DeskChange → ℕ
trials_dropped_by ts (change.DropTrial t) = if is_running (held_at ts t) then 1 else 0
trials_dropped_by ts c = 0

-- what waits for a worker by a change of a project's desk whose next ticket is this: the new trial, or nothing
abbrev pub lined_up : (project next : ℕ) → DeskChange → List (ℕ × ℕ)
lined_up q t (change.Trial m j) = (q, t) ∷ []
lined_up q t c = []
