-- How the logic stores desks.
use Rattle.std.specs.Prelude.{◌≡◌, ◌⊎◌, ℕ, zero, suc, ◌==◌, if◌then◌else◌, List, refl}
use Rattle.std.proofs.Common.{inl, inr}
use Rattle.std.specs.Coded.{Coded, code_by, coded×, coded⊎, coded_ℕ, coded_list, coded_option}
use Rattle.pf_errors.specs.declared.code.Code.{Code}
use Rattle.pf_errors.specs.Codes.{rank_of, code_at, code_at-rank_of}
use Rattle.pf_quota.specs.declared.usage.Usage.{Usage}
use Rattle.pf_model.specs.Shrinking.{Result}
use Rattle.pf_request.specs.Calls.{Call}
use Rattle.pf_request.specs.Encoding.{coded_call, coded_job}
use Rattle.pf_check.specs.Encoding.{coded_names, coded_read_module}
use Rattle.pf_request.specs.ReportEncoding.{coded_result}
use Rattle.pf_desks.specs.Desk.{TrialState, queued, running, done, Trial, Desk, Entry, called, claimed, filed}
use Rattle.pf_desks.specs.Desk.{handed_back}
use Rattle.pf_desks.specs.declared.mark.FileMark.TheVariants.{Whole, Memory}
use Rattle.pf_desks.specs.Desk.{Reply, number, ticket, result, stage, given_up, uses, logged, has_edition, refused}
use Rattle.pf_desks.specs.declared.stage.TrialStage.{TrialStage}
use Rattle.pf_desks.specs.declared.stage.TrialStage.TheVariants.{Queued, Running, Done}

-- ---- what a desk holds

abbrev pub parts_of_state : TrialState → ℕ ⊎ Result
parts_of_state queued = inl 0
parts_of_state running = inl 1
parts_of_state (done r) = inr r

abbrev pub state_from : ℕ ⊎ Result → TrialState
state_from (inl zero) = queued
state_from (inl (suc n)) = running
state_from (inr r) = done r

pub state_from-parts_of : (s : TrialState) → state_from (parts_of_state s) ≡ s
state_from-parts_of queued = refl
state_from-parts_of running = refl
state_from-parts_of (done r) = refl

abbrev pub coded_state : Coded TrialState
coded_state = code_by _ (coded⊎ coded_ℕ coded_result) parts_of_state state_from state_from-parts_of

abbrev pub coded_trial : Coded Trial
coded_trial =
    code_by _ (coded× coded_ℕ (coded× coded_job coded_state)) (λ t. (t.module_number, (t.job, t.state)))
    (λ p. record { module_number = p.0; job = p.1.0; state = p.1.1 }) (λ _. refl)

-- ---- replies

abbrev pub coded_code : Coded Code
coded_code = code_by _ coded_ℕ rank_of code_at code_at-rank_of

abbrev pub coded_usage : Coded Usage
coded_usage =
    code_by _ (coded× (coded× coded_ℕ coded_ℕ) (coded× coded_ℕ (coded× coded_ℕ coded_ℕ)))
    (λ u. ((u.modules, u.bytes), (u.trials, (u.steps, u.calls))))
    (λ p. record { modules = p.0.0; bytes = p.0.1; trials = p.1.0; steps = p.1.1.0; calls = p.1.1.1 }) (λ _. refl)

abbrev pub rank_of_stage : TrialStage → ℕ
rank_of_stage Queued = 0
rank_of_stage Running = 1
rank_of_stage Done = 2

abbrev pub stage_at : ℕ → TrialStage
stage_at n = if n == 0 then Queued else (if n == 1 then Running else Done)

-- the replies that are a number are 0 to 2 with it; how far a trial is, is one of three, that it is given up the
-- fourth, and that a desk has its edition the fifth
abbrev pub ReplyParts : Type 0
ReplyParts = ((ℕ × ℕ) ⊎ ℕ) ⊎ ((List (List ℕ) × Result) ⊎ (Usage ⊎ Code))

abbrev pub parts_of_reply : Reply → ReplyParts
parts_of_reply (number n) = inl (inl (0, n))
parts_of_reply (ticket t) = inl (inl (1, t))
parts_of_reply (logged n) = inl (inl (2, n))
parts_of_reply (stage s) = inl (inr (rank_of_stage s))
parts_of_reply given_up = inl (inr 3)
parts_of_reply has_edition = inl (inr 4)
parts_of_reply (result atoms r) = inr (inl (atoms, r))
parts_of_reply (uses u) = inr (inr (inl u))
parts_of_reply (refused e) = inr (inr (inr e))

abbrev pub numbered_reply : ℕ → ℕ → Reply
numbered_reply k n = if k == 0 then number n else (if k == 1 then ticket n else logged n)

abbrev pub plain_reply : ℕ → Reply
plain_reply k = if k == 3 then given_up else (if k == 4 then has_edition else stage (stage_at k))

abbrev pub reply_from : ReplyParts → Reply
reply_from (inl (inl x)) = numbered_reply x.0 x.1
reply_from (inl (inr k)) = plain_reply k
reply_from (inr (inl p)) = result p.0 p.1
reply_from (inr (inr (inl u))) = uses u
reply_from (inr (inr (inr e))) = refused e

pub reply_from-parts_of : (r : Reply) → reply_from (parts_of_reply r) ≡ r
reply_from-parts_of (number n) = refl
reply_from-parts_of (ticket t) = refl
reply_from-parts_of (logged n) = refl
reply_from-parts_of (stage Queued) = refl
reply_from-parts_of (stage Running) = refl
reply_from-parts_of (stage Done) = refl
reply_from-parts_of given_up = refl
reply_from-parts_of has_edition = refl
reply_from-parts_of (result atoms r) = refl
reply_from-parts_of (uses u) = refl
reply_from-parts_of (refused e) = refl

abbrev pub coded_reply : Coded Reply
coded_reply =
    code_by _ (coded⊎ (coded⊎ (coded× coded_ℕ coded_ℕ) coded_ℕ)
    (coded⊎ (coded× coded_names coded_result) (coded⊎ coded_usage coded_code)))
    parts_of_reply reply_from reply_from-parts_of

-- what a worker does is 0 to 3: a claim, a file of a whole, a file that memory ran out, a hand-back
abbrev pub parts_of_entry : Entry → (Call × Reply) ⊎ (ℕ × ℕ)
parts_of_entry (called c r) = inl (c, r)
parts_of_entry (claimed t) = inr (0, t)
parts_of_entry (filed t Whole) = inr (1, t)
parts_of_entry (filed t Memory) = inr (2, t)
parts_of_entry (handed_back t) = inr (3, t)

abbrev pub work_entry : ℕ → ℕ → Entry
work_entry k t =
    if k == 0 then claimed t
    else (if k == 1 then filed t Whole
    else (if k == 2 then filed t Memory else handed_back t))

abbrev pub entry_from : (Call × Reply) ⊎ (ℕ × ℕ) → Entry
entry_from (inl p) = called p.0 p.1
entry_from (inr x) = work_entry x.0 x.1

pub entry_from-parts_of : (e : Entry) → entry_from (parts_of_entry e) ≡ e
entry_from-parts_of (called c r) = refl
entry_from-parts_of (claimed t) = refl
entry_from-parts_of (filed t Whole) = refl
entry_from-parts_of (filed t Memory) = refl
entry_from-parts_of (handed_back t) = refl

abbrev pub coded_entry : Coded Entry
coded_entry = code_by _ (coded⊎ (coded× coded_call coded_reply) (coded× coded_ℕ coded_ℕ)) parts_of_entry entry_from
    entry_from-parts_of

abbrev pub coded_desk : Coded Desk
coded_desk =
    code_by _ (coded× coded_ℕ (coded× (coded_list (coded_option coded_read_module))
    (coded× (coded_list (coded_option coded_trial)) (coded_list coded_entry))))
    (λ d. (d.edition, (d.modules, (d.trials, d.history))))
    (λ p. record { edition = p.0; modules = p.1.0; trials = p.1.1.0; history = p.1.1.1 }) (λ _. refl)

abbrev pub coded_desks : Coded (List (ℕ × Desk))
coded_desks = coded_list (coded× coded_ℕ coded_desk)
