-- What calls and a worker's work are answered with.
use Rattle.std.specs.Prelude.{◌≡◌, ℕ, Bool, true, false, List, [], ◌∷◌, Option, Some, None, Result, Ok, Err}
use Rattle.std.specs.Prelude.{if◌then◌else◌}
use Rattle.std.specs.declared.alloc.Global.{Global}
use Rattle.std.specs.declared.sync.Arc.{Arc}
use Rattle.pf_errors.specs.declared.memory.NoMemory.{NoMemory}
use Rattle.pf_model.specs.Shrinking as shrinking
use Rattle.pf_request.specs.Calls.{Call}
use Rattle.pf_request.specs.Job.{Job}
use Rattle.pf_desks.specs.Desk as desk
use Rattle.pf_desks.specs.Desk.{held_at, filed}
use Rattle.pf_desks.specs.Calls.{HasRoom, reply_to, after_call, with_entry}
use Rattle.pf_desks.specs.Work.{is_queued, is_running, with_state, claim_step, file_step, hand_back_step}
use Rattle.pf_desks.specs.Desks.{Desks, Answer, replied, work_done, not_now, desk_at, step, client, worked}
use Rattle.pf_sched.specs.Views.{FinishedView}
use Rattle.pf_book.specs.declared.claimed.Claimed.{Claimed}
use Rattle.pf_book.specs.declared.reply.Reply.{Reply}
use Rattle.pf_book.specs.Profile.{ForRight}
use Rattle.pf_book.specs.Queued.{job_at}
use Rattle.pf_book.specs.Queues.{from_first_queued}
use Rattle.pf_book.specs.Trials.{IsStrayJob}
use Rattle.pf_book.specs.View.{mark_of, view_of_reply}

-- ---- at one desk

-- DeskAnswers d c r d': a desk answers a call so and goes on to the next desk; memory runs out only where the log has
-- room for the call, and leaves the desk as it was
abbrev pub DeskAnswers : desk.Desk → Call → Result Reply NoMemory → desk.Desk → Type 0
DeskAnswers d c (Ok r) d' = ForRight (λ p. (view_of_reply r ≡ reply_to p d c) × (d' ≡ after_call p d c))
DeskAnswers d c (Err e) d' = HasRoom d × (d' ≡ d)

-- DeskClaims d t r d': the trial of a ticket is claimed, and this is its job; or it isn't queued; memory runs out only
-- where it is, and the desk is as it was then
abbrev pub DeskClaims : desk.Desk → ℕ → Result (Option (Arc Job Global)) NoMemory → desk.Desk → Type 0
DeskClaims d t (Ok (Some j)) d' = (job_at d.trials t ≡ Some j.value) × (claim_step d t ≡ Some d')
DeskClaims d t (Ok None) d' = (is_queued (held_at d.trials t) ≡ false) × (d' ≡ d)
DeskClaims d t (Err e) d' = (is_queued (held_at d.trials t) ≡ true) × (d' ≡ d)

-- the desk with the result of the job of the trial of a ticket, and the note of its file
abbrev pub with_result : desk.Desk → ℕ → shrinking.Result → desk.Desk
with_result d t r = with_entry (record d { trials = with_state d.trials t (λ j. desk.done r) }) (filed t (mark_of r))

-- DeskFiles d t f b d': the result of the job of the trial of a ticket is filed, or it isn't running or is of another
-- job
abbrev pub DeskFiles : desk.Desk → ℕ → FinishedView → Bool → desk.Desk → Type 0
DeskFiles d t f true d' =
    (is_running (held_at d.trials t) ≡ true) × (d' ≡ with_result d t f.result)
    × ForRight (λ p. file_step p d t (mark_of f.result) ≡ Some d')
DeskFiles d t f false d' = IsStrayJob d.trials t f.job × (d' ≡ d)

-- DeskHandsBack d t b d': the trial of a ticket is handed back, or it isn't running
abbrev pub DeskHandsBack : desk.Desk → ℕ → Bool → desk.Desk → Type 0
DeskHandsBack d t true d' = hand_back_step d t ≡ Some d'
DeskHandsBack d t false d' = (is_running (held_at d.trials t) ≡ false) × (d' ≡ d)

-- ---- among all desks

-- what a worker is answered: its work is done, or it can't be done now
abbrev pub work_answer : Bool → Answer
work_answer b = if b then work_done else not_now

-- SimulatesCall w q c r w': a project's call is answered so, as the step of all desks says, and leads to the next
-- desks; memory runs out only where the project's log has room for the call, and leaves the desks as they were
abbrev pub SimulatesCall : Desks → ℕ → Call → Result Reply NoMemory → Desks → Type 0
SimulatesCall w q c (Ok r) w' = ForRight (λ p. ◌≡◌ {A = Desks × Answer} (step p w (client q c))
    (w', replied (view_of_reply r)))
SimulatesCall w q c (Err e) w' = HasRoom (desk_at q w) × (w' ≡ w)

-- ClaimsAt w q t r w': the trial of a project's ticket is claimed, and this is its job; or there is none, since it
-- isn't queued; memory runs out only where it is, and the desks are as they were then
abbrev pub ClaimsAt : Desks → ℕ → ℕ → Result (Option (Arc Job Global)) NoMemory → Desks → Type 0
ClaimsAt w q t (Ok (Some j)) w' =
    (job_at (desk_at q w).trials t ≡ Some j.value) × ◌≡◌ {A = Desks × Answer} (worked q w (claim_step (desk_at q w) t))
    (w', work_done)
ClaimsAt w q t (Ok None) w' = ◌≡◌ {A = Desks × Answer} (worked q w (claim_step (desk_at q w) t)) (w', not_now)
ClaimsAt w q t (Err e) w' = (is_queued (held_at (desk_at q w).trials t) ≡ true) × (w' ≡ w)

-- SimulatesClaim w r w': some trial that is queued is claimed; or there is none, since no trial of any desk is queued;
-- memory runs out only where one is, and the desks are as they were then
abbrev pub SimulatesClaim : Desks → Result (Option Claimed) NoMemory → Desks → Type 0
SimulatesClaim w (Ok (Some c)) w' = ClaimsAt w c.project c.ticket (Ok (Some c.job)) w'
SimulatesClaim w (Ok None) w' = ((q t : ℕ) → is_queued (held_at (desk_at q w).trials t) ≡ false) × (w' ≡ w)
SimulatesClaim w (Err e) w' = ((q : ℕ) × (t : ℕ) × (is_queued (held_at (desk_at q w).trials t) ≡ true)) × (w' ≡ w)

-- ClaimsFirst w es r es': of these trials that wait, oldest first, the first that is queued is claimed, and those after
-- it wait still; or none waits, since none is queued; where memory runs out, the first that is queued waits still
abbrev pub ClaimsFirst : Desks → List (ℕ × ℕ) → Result (Option Claimed) NoMemory → List (ℕ × ℕ) → Type 0
ClaimsFirst w es (Ok (Some c)) es' = from_first_queued w es ≡ (c.project, c.ticket) ∷ es'
ClaimsFirst w es (Ok None) es' = (from_first_queued w es ≡ []) × (es' ≡ [])
ClaimsFirst w es (Err e) es' = from_first_queued w es ≡ es'

-- SimulatesFile w q t f b w': the result of a project's ticket is filed under its mark, or the trial isn't running or
-- is of another job
abbrev pub SimulatesFile : Desks → ℕ → ℕ → FinishedView → Bool → Desks → Type 0
SimulatesFile w q t f true w' = ForRight (λ p.
    ◌≡◌ {A = Desks × Answer} (worked q w (file_step p (desk_at q w) t (mark_of f.result))) (w', work_done))
SimulatesFile w q t f false w' = IsStrayJob (desk_at q w).trials t f.job × (w' ≡ w)

-- SimulatesHandBack w q t b w': the trial of a project's ticket is handed back, or it isn't running
abbrev pub SimulatesHandBack : Desks → ℕ → ℕ → Bool → Desks → Type 0
SimulatesHandBack w q t b w' = ◌≡◌ {A = Desks × Answer} (worked q w (hand_back_step (desk_at q w) t))
    (w', work_answer b)
