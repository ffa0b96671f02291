-- The work of workers at a desk: claims, files and hand-backs.
use Rattle.std.specs.Prelude.{ℕ, Bool, true, false, if◌then◌else◌, List, Option, Some, None}
use Rattle.std.specs.Option.{option_map}
use Rattle.pf_model.specs.Shrinking as shrinking
use Rattle.pf_request.specs.Job.{Job, memory_report}
use Rattle.pf_desks.specs.Desk.{TrialState, queued, running, done, Trial, Desk, held_at, with_held, Profile, claimed}
use Rattle.pf_desks.specs.Desk.{filed, handed_back}
use Rattle.pf_desks.specs.declared.mark.FileMark.{FileMark}
use Rattle.pf_desks.specs.declared.mark.FileMark.TheVariants.{Whole, Memory}
use Rattle.pf_desks.specs.Calls.{with_entry}

abbrev pub is_queued_state : TrialState → Bool
is_queued_state queued = true
is_queued_state running = false
is_queued_state (done r) = false

abbrev pub is_running_state : TrialState → Bool
is_running_state queued = false
is_running_state running = true
is_running_state (done r) = false

abbrev pub is_queued : Option Trial → Bool
is_queued None = false
is_queued (Some t) = is_queued_state t.state

abbrev pub is_running : Option Trial → Bool
is_running None = false
is_running (Some t) = is_running_state t.state

-- the trial in the state which this makes of its job
abbrev pub in_state : (Job → TrialState) → Trial → Trial
in_state f t = record t { state = f t.job }

-- the trials, that of a ticket in the state which this makes of its job
abbrev pub with_state : List (Option Trial) → ℕ → (Job → TrialState) → List (Option Trial)
with_state ts t f = with_held ts t (option_map (in_state f) (held_at ts t))

-- what a file puts, by its mark
abbrev pub result_marked : Profile → FileMark → Job → shrinking.Result
result_marked p Whole j = p.meaning j.asked
result_marked p Memory j = shrinking.report memory_report

-- a claim: what was queued is running
abbrev pub after_claim : Desk → ℕ → Desk
after_claim d t = with_entry (record d { trials = with_state d.trials t (λ j. running) }) (claimed t)

-- a file: what was running is done
abbrev pub after_file : Profile → Desk → ℕ → FileMark → Desk
after_file p d t m = with_entry (record d { trials = with_state d.trials t (λ j. done (result_marked p m j)) })
    (filed t m)

-- a hand-back: what was running is queued again
abbrev pub after_hand_back : Desk → ℕ → Desk
after_hand_back d t = with_entry (record d { trials = with_state d.trials t (λ j. queued) }) (handed_back t)

-- what a worker does at the trial of a ticket: it claims it, it files its result under a mark, or it hands it back
pub data DeskWork : Type 0 where
  claim : ℕ → DeskWork
  file : ℕ → FileMark → DeskWork
  hand_back : ℕ → DeskWork

-- only what is queued is claimed
abbrev pub claim_step : Desk → ℕ → Option Desk
claim_step d t = if is_queued (held_at d.trials t) then Some (after_claim d t) else None

-- only what is running is filed
abbrev pub file_step : Profile → Desk → ℕ → FileMark → Option Desk
file_step p d t m = if is_running (held_at d.trials t) then Some (after_file p d t m) else None

-- only what is running is handed back
abbrev pub hand_back_step : Desk → ℕ → Option Desk
hand_back_step d t = if is_running (held_at d.trials t) then Some (after_hand_back d t) else None

-- the desk after a worker's step, where the step can be done
abbrev pub worker_step : Profile → Desk → DeskWork → Option Desk
worker_step p d (claim t) = claim_step d t
worker_step p d (file t m) = file_step p d t m
worker_step p d (hand_back t) = hand_back_step d t
