-- The chores of workers: when each can be done, and what it leaves.
use Rattle.std.specs.Prelude.{ℕ, ◌+◌, Bool, true, false, ◌&&◌, nat_lt, ◌==◌, if◌then◌else◌, [], ◌∷◌, ◌++◌, length}
use Rattle.std.specs.Prelude.{Option, Some, None}
use Rattle.pf_model.specs.Meaning as model
use Rattle.pf_request.specs.Job.{Job}
use Rattle.pf_desks.specs.Desk.{Trial, Desk, held_at}
use Rattle.pf_desks.specs.declared.mark.FileMark.TheVariants.{Whole}
use Rattle.pf_desks.specs.Work.{claim_step, file_step, hand_back_step}
use Rattle.pf_desks.specs.Desks.{Answer, work_done}
use Rattle.pf_world.specs.World.{RunProfile, RunProgress, going, over, ClaimedRun, Hand, Deque}
use Rattle.pf_request.specs.declared.step.Chore.{Chore}
use Rattle.pf_request.specs.declared.step.Chore.TheVariants.{Claim, Slice, Park, TakeUp, Steal, File, HandBack}

-- what is answered: what desks answer; or that a file or a hand-back was stray, since the trial isn't running
pub data Response : Type 0 where
  answer : Answer → Response
  stray : Response

-- what a chore that can be done leaves: the desk of its project and the deque that it looks at, if it changes them;
-- what the worker holds; and what is answered
pub record Effect : Type 0 where
  pub desk : Option Desk
  pub hand : Hand
  pub deque : Option Deque
  pub response : Response

-- ---- runs

-- a deque has room for this many runs
abbrev pub MOST_PARKED : ℕ
MOST_PARKED = 64

-- the run of a job that is claimed: no event of it was made
abbrev pub new_run : (project ticket : ℕ) → Job → ClaimedRun
new_run q t j = record { project = q; ticket = t; job = j; progress = going 0 }

-- it is the run of the trial of a project's ticket
abbrev pub is_run_of : (project ticket : ℕ) → ClaimedRun → Bool
is_run_of q t r = r.project == q && r.ticket == t

-- a run isn't over
abbrev pub is_going : RunProgress → Bool
is_going (going k) = true
is_going (over m) = false

-- a run goes on by as many events as turns, if its job has more than those in all; else it is over, and whole
abbrev pub progress_after : RunProfile → (turns : ℕ) → model.Job → RunProgress → RunProgress
progress_after p n j (going k) = if nat_lt (k + n) (p.events j) then going (k + n) else over Whole
progress_after p n j (over m) = over m

-- a run after a slice
abbrev pub sliced : RunProfile → (turns : ℕ) → ClaimedRun → ClaimedRun
sliced p n r = record r { progress = progress_after p n r.job.asked r.progress }

-- ---- what is done

-- a run is taken into the hand, and all else stays
abbrev pub in_hand : ClaimedRun → Effect
in_hand r = record { desk = None; hand = Some r; deque = None; response = answer work_done }

-- a run is taken from the front of a deque, of which this is the rest
abbrev pub from_deque : ClaimedRun → Deque → Effect
from_deque r rs = record { desk = None; hand = Some r; deque = Some rs; response = answer work_done }

-- a run is put to the end of a deque
abbrev pub onto_deque : ClaimedRun → Deque → Effect
onto_deque r rs = record { desk = None; hand = None; deque = Some (rs ++ r ∷ []); response = answer work_done }

-- a trial is claimed, and its run begins
abbrev pub claimed_as : Desk → ClaimedRun → Effect
claimed_as d r = record { desk = Some d; hand = Some r; deque = None; response = answer work_done }

-- the hand is empty after a file or a hand-back, which is stray if it leads to no desk
abbrev pub hand_emptied : Option Desk → Effect
hand_emptied (Some d) = record { desk = Some d; hand = None; deque = None; response = answer work_done }
hand_emptied None = record { desk = None; hand = None; deque = None; response = stray }

-- ---- what can be done

-- only a trial that is queued is claimed
abbrev pub claim_effect : (project ticket : ℕ) → Option Trial → Option Desk → Option Effect
claim_effect q t (Some x) (Some d) = Some (claimed_as d (new_run q t x.job))
claim_effect q t x d = None

-- only the oldest run of a deque is taken, if it is that of the ticket
abbrev pub deque_effect : (project ticket : ℕ) → Deque → Option Effect
deque_effect q t [] = None
deque_effect q t (r ∷ rs) = if is_run_of q t r then Some (from_deque r rs) else None

-- only a run that is over is filed
abbrev pub file_effect : RunProfile → (ticket : ℕ) → Desk → RunProgress → Option Effect
file_effect p t d (going k) = None
file_effect p t d (over m) = Some (hand_emptied (file_step p.profile d t m))

-- a free worker claims, takes up and steals
abbrev pub free_effect : (project ticket : ℕ) → Chore → Desk → Deque → Option Effect
free_effect q t Claim d rs = claim_effect q t (held_at d.trials t) (claim_step d t)
free_effect q t TakeUp d rs = deque_effect q t rs
free_effect q t (Steal v) d rs = deque_effect q t rs
free_effect q t k d rs = None

-- a worker that holds the ticket's run slices and parks it while it is going, files it when it is over, and hands it
-- back at any time
abbrev pub busy_effect : RunProfile → (ticket : ℕ) → Chore → Desk → ClaimedRun → Deque → Option Effect
busy_effect p t (Slice n) d r rs = if is_going r.progress && nat_lt 0 n then Some (in_hand (sliced p n r)) else None
busy_effect p t Park d r rs = if is_going r.progress && nat_lt (length rs) MOST_PARKED then
    Some (onto_deque r rs) else None
busy_effect p t File d r rs = file_effect p t d r.progress
busy_effect p t HandBack d r rs = Some (hand_emptied (hand_back_step d t))
busy_effect p t k d r rs = None

-- what a chore about a ticket leaves, if it can be done by a worker with this hand
abbrev pub chore_effect : RunProfile → (project ticket : ℕ) → Chore → Desk → Hand → Deque → Option Effect
chore_effect p q t k d None rs = free_effect q t k d rs
chore_effect p q t k d (Some r) rs = if is_run_of q t r then busy_effect p t k d r rs else None
