-- What workers hold, and what becomes of it.
use Rattle.std.specs.Prelude.{◌≡◌, ◌⊎◌, ℕ, Bool, true, false, ◌&&◌, List, Option, Some, None, Result, Ok, Err}
use Rattle.std.specs.Prelude.{slice_get, slice_set}
use Rattle.std.specs.Option.{option_flatten}
use Rattle.pf_errors.specs.declared.memory.NoMemory.{NoMemory}
use Rattle.pf_desks.specs.Desks.{work_done, not_now}
use Rattle.pf_sched.specs.Views.{FinishedView}
use Rattle.pf_book.specs.View.{mark_of}
use Rattle.pf_world.specs.World.{over, ClaimedRun, Hand, Deque, World}
use Rattle.pf_world.specs.Chores as chores
use Rattle.pf_world.specs.Chores.{answer, Effect, deque_effect, is_going, is_run_of, sliced}
use Rattle.pf_world.specs.Memory.{out_of_memory}
use Rattle.pf_world.specs.Steps.{with_effect}
use Rattle.pf_pool.specs.declared.response.Response.{Response}
use Rattle.pf_pool.specs.Profile.{ForRight}
use Rattle.pf_pool.specs.Responses.{view_of_response}
use Rattle.pf_pool.specs.Runs.{IsOfSameTrial}

-- what a worker holds: nothing if there is no such worker
abbrev pub held_of_worker : List Hand → (worker : ℕ) → Hand
held_of_worker hs w = option_flatten (slice_get hs w)

-- a worker is there, and holds no run
abbrev pub is_free : Option Hand → Bool
is_free (Some None) = true
is_free h = false

-- a hand holds the run of the trial of a project's ticket
abbrev pub hand_holds : (project ticket : ℕ) → Hand → Bool
hand_holds q t None = false
hand_holds q t (Some r) = is_run_of q t r

-- it holds that run, and the run isn't over
abbrev pub holds_going : (project ticket : ℕ) → Hand → Bool
holds_going q t None = false
holds_going q t (Some r) = is_run_of q t r && is_going r.progress

-- a hand holds a run of the same job of the same trial as before, or is empty as before
abbrev pub HoldsSameTrial : Hand → Hand → Type 0
HoldsSameTrial None h' = h' ≡ None
HoldsSameTrial (Some r) None = ⊥
HoldsSameTrial (Some r) (Some r') = IsOfSameTrial r r'

-- SlicesHand n h r h': the run of a hand is sliced, or an allocation failed in it; a hand that is empty stays so
abbrev pub SlicesHand : (turns : ℕ) → Hand → Result Response NoMemory → Hand → Type 0
SlicesHand n None (Ok r) h' = (view_of_response r ≡ answer not_now) × (h' ≡ None)
SlicesHand n None (Err e) h' = ⊥
SlicesHand n (Some x) (Ok r) h' = (view_of_response r ≡ answer work_done) × ForRight (λ p. h' ≡ Some (sliced p n x))
SlicesHand n (Some x) (Err e) h' = ForRight (λ p. h' ≡ Some (out_of_memory x))

-- the result of a run of the trial of a ticket
pub record RunReached (q t : ℕ) (x : ClaimedRun) (f : FinishedView) : Type 0 where
  pub run : is_run_of q t x ≡ true
  pub progress : x.progress ≡ over (mark_of f.result)
  pub job : x.job ≡ f.job

-- TakesFinished w q t hs f hs': the result of the run of a ticket is taken from a worker's hand, which is empty then;
-- or the worker doesn't hold that run, or it isn't over, and all stays as it was
abbrev pub TakesFinished : (worker project ticket : ℕ) → List Hand → Option FinishedView → List Hand → Type 0
TakesFinished w q t hs (Some f) hs' = (x : ClaimedRun) × (slice_get hs w ≡ Some (Some x)) × RunReached q t x f
    × (hs' ≡ slice_set hs w None)
TakesFinished w q t hs None hs' = ((hand_holds q t (held_of_worker hs w) ≡ false)
    ⊎ (holds_going q t (held_of_worker hs w) ≡ true)) × (hs' ≡ hs)

-- what it leaves if a worker takes the oldest run of a deque: its hand is empty, and the run is that of the ticket
abbrev pub take_effect : (project ticket : ℕ) → Option Hand → Option Deque → Option Effect
take_effect q t (Some None) (Some rs) = deque_effect q t rs
take_effect q t h rs = None

-- TakesUpRun w v q t s r s': a worker takes the oldest run of a worker's deque, or can't now
abbrev pub TakesUpRun : (worker owner project ticket : ℕ) → World → Response → World → Type 0
TakesUpRun w v q t s r s' =
    ◌≡◌ {A = World × chores.Response} (with_effect s w v q
    (take_effect q t (slice_get s.hands w) (slice_get s.deques v))) (s', view_of_response r)
