-- Halls stay sound.
use Rattle.std.proofs.Common.{◌≡◌, ℕ, ◌+◌, ◌≤◌, ◌==◌, Bool, true, false, List, [], ◌∷◌, ◌++◌, length, Option, Some}
use Rattle.std.proofs.Common.{None, refl, sym, ap, ◌∙◌, subst, ⊎_elim}
use Rattle.std.specs.Prelude.{Result, Ok, Err, if◌then◌else◌, All, slice_get, slice_set}
use Rattle.std.specs.Bool.{OnFalse}
use Rattle.std.specs.declared.alloc.Global.{Global}
use Rattle.std.specs.declared.sync.Arc.{Arc}
use Rattle.std.proofs.lemmas.List.Elements.{All-nil, All-push, All-set}
use Rattle.std.proofs.lemmas.Option.{slice_get_within, get_or_from_slice_get}
use Rattle.pf_errors.specs.declared.code.Code.TheVariants as code
use Rattle.pf_errors.specs.declared.memory.NoMemory.{NoMemory}
use Rattle.pf_model.specs.Shrinking.{nothing_fails}
use Rattle.pf_quota.specs.declared.refusals.TheConstants.{MOST_CALLS}
use Rattle.pf_request.specs.declared.call.Call as call_code
use Rattle.pf_request.specs.View.{view_of_call}
use Rattle.pf_request.specs.Job.{Job}
use Rattle.pf_desks.specs.Desk as desk
use Rattle.pf_desks.specs.Desk.{Profile, faulty, Desk, called, TrialState, queued, running, done, Trial, held_at}
use Rattle.pf_desks.specs.Calls.{calls_in, HasRoom, reply_to, after_call}
use Rattle.pf_desks.specs.Jobs.{IsTicketOf, KeepsTickets, KeepsAllTickets}
use Rattle.pf_desks.specs.Work.{claim, hand_back, is_queued, is_running, after_claim, after_file, after_hand_back}
use Rattle.pf_desks.specs.Work.{worker_step}
use Rattle.pf_desks.specs.Desks.{Desks, Answer, replied, work_done, not_now, desk_at, put_desk, worked}
use Rattle.pf_desks.proofs.Isolated.{desk_placed}
use Rattle.pf_desks.proofs.Jobs.{tickets_placed, tickets_worked, ticket_held}
use Rattle.pf_farm_accounts.specs.declared.row.Claim.{Claim}
use Rattle.pf_farm_accounts.specs.declared.row.ClaimRow.{ClaimRow}
use Rattle.pf_farm_accounts.specs.declared.row.ClaimEnd.{ClaimEnd}
use Rattle.pf_farm_accounts.specs.declared.row.ClaimEnd.TheVariants.{Filed, HandedBack, Stray}
use Rattle.pf_farm_accounts.specs.Rows.{claim_of, row_of}
use Rattle.pf_sched.specs.Views.{FinishedView}
use Rattle.pf_book.specs.declared.reply.Reply.{Reply}
use Rattle.pf_book.specs.Answers.{SimulatesCall, ClaimsAt, SimulatesFile, SimulatesHandBack}
use Rattle.pf_book.specs.Profile.{IsRight, ForRight}
use Rattle.pf_book.specs.Queued.{job_in_state, job_of_trial}
use Rattle.pf_book.specs.Trials.{JobAt}
use Rattle.pf_book.specs.View.{mark_of, view_of_reply}
use Rattle.pf_book.proofs.Claims.{claimed_world}
use Rattle.pf_farm_laws.specs.Gone.{IsGone}
use Rattle.pf_farm_laws.specs.Reported.{IsReportedAt, AgreesWithHistories, AreOfTheirJobs}
use Rattle.pf_farm_laws.proofs.Lists.{same_by, self_is}
use Rattle.pf_farm_laws.proofs.Reports.{reported_none, reported_where, other_opened, other_ended, reported_call}
use Rattle.pf_farm_laws.proofs.Reports.{reported_claim}
use Rattle.pf_farm_laws.proofs.Reports.{reported_filed, reported_back, reported_stray, open_gone}
use Rattle.pf_farm_accounts.specs.Receipts.{receipt_of, of_project}
use Rattle.pf_farm_state.specs.Clients.{ClientReplies, calls_noted, IsLogged, IsOneTooMany}
use Rattle.pf_farm_state.specs.Hall.{IsSound, end_or_stray}
use Rattle.pf_farm_state.proofs.Language.{for_one}
use Rattle.pf_farm_state.proofs.Logged.{logged_none, as_many_logged, logged_same, logged_more}
use Rattle.pf_farm_state.proofs.Noted.{noted_claim, noted_file, noted_back, noted_call, counted_call, full_below}
use Rattle.pf_farm_state.proofs.Noted.{full_refused, full_stays}

-- some profile: that tickets stay depends on none
abbrev any_profile : Profile
any_profile = record {
  reading = λ text. faulty code.NoModule;
  property = λ names text. None;
  meaning =
      λ j. nothing_fails;
}

-- ---- worlds

-- what holds of the desk that a step changed, and of all others, holds of the world
placed : (q : ℕ) (rows : List (ClaimRow Job)) (w : Desks) (d : Desk) → IsReportedAt q rows d
    → ((r : ℕ) → (q == r) ≡ false → IsReportedAt r rows (desk_at r w)) → AgreesWithHistories rows (put_desk q d w)
placed q rows w d mine others r = subst (IsReportedAt r rows) (sym (desk_placed r q d w)) (by (q == r) refl)
  where
    by : (b : Bool) → (q == r) ≡ b → IsReportedAt r rows (if b then d else desk_at r w)
    by true e = subst (λ n. IsReportedAt n rows d) (same_by q r e) mine
    by false e = others r e

pub worked_done : (q : ℕ) (w w' : Desks) (b : Bool) (k : Desk)
    → ◌≡◌ {A = Desks × Answer} (worked q w (if b then Some k else None)) (w', work_done)
    → (b ≡ true) × (w' ≡ put_desk q k w)
worked_done q w w' true k h = (refl, sym (ap (λ (x : Desks × Answer). x.0) h))
worked_done q w w' false k h = let reported : not_now ≡ work_done = ap (λ (x : Desks × Answer). x.1) h in absurd (cc)

pub worked_not : (q : ℕ) (w w' : Desks) (b : Bool) (k : Desk)
    → ◌≡◌ {A = Desks × Answer} (worked q w (if b then Some k else None)) (w', not_now) → (b ≡ false) × (w' ≡ w)
worked_not q w w' true k h = let reported : work_done ≡ not_now = ap (λ (x : Desks × Answer). x.1) h in absurd (cc)
worked_not q w w' false k h = (refl, sym (ap (λ (x : Desks × Answer). x.0) h))

-- ---- jobs

-- a row's claim is of the job of its ticket
abbrev OfItsJob : Desks → ClaimRow Job → Type 0
OfItsJob w r = IsTicketOf (desk_at r.claim.project w) r.claim.ticket r.claim.job.value

jobs_kept : (rows : List (ClaimRow Job)) (w w' : Desks) → KeepsAllTickets w w' → AreOfTheirJobs rows w
    → AreOfTheirJobs rows w'
jobs_kept rows w w' keeps all = λ k d less. keeps _ _ _ (all k d less)

pub all_at : {X : Type 0} (P : X → Type 0) (xs : List X) (i : ℕ) (x : X) → slice_get xs i ≡ Some x → All P xs → P x
all_at P xs i x h all = subst P (get_or_from_slice_get xs i x x h) (all i x (slice_get_within xs i x h))

own_job : (rows : List (ClaimRow Job)) (w : Desks) (n : ℕ) (c : Claim Job) (e : Option ClaimEnd)
    → slice_get rows n ≡ Some (row_of c e) → AreOfTheirJobs rows w
    → IsTicketOf (desk_at c.project w) c.ticket c.job.value
own_job rows w n c e at all = all_at (OfItsJob w) rows n (row_of c e) at all

waiting_job : (x : Trial) (s : TrialState) (j : Job) → job_in_state x.job s ≡ Some j → x.job ≡ j
waiting_job x queued j h = cc
waiting_job x running j h = absurd (cc)
waiting_job x (done r) j h = absurd (cc)

waiting_ticket : (d : Desk) (t : ℕ) (j : Job) (o : Option Trial) → held_at d.trials t ≡ o → job_of_trial o ≡ Some j
    → IsTicketOf d t j
waiting_ticket d t j None e h = absurd (cc)
waiting_ticket d t j (Some x) e h = subst (IsTicketOf d t) (waiting_job x x.state j h) (ticket_held d t x e)

-- ---- calls

pub sound_new : IsSound [] [] []
sound_new = ((λ p right. (reported_none, logged_none)), All-nil _)

-- as many calls of a project were logged as its history notes
pub as_many : (rows : List (ClaimRow Job)) (log : List ClientReplies) (w : Desks) → IsSound rows log w → (q : ℕ)
    → length (of_project q log) ≡ calls_in (desk_at q w).history
as_many rows log w s q = for_one (λ p right. as_many_logged log w (s.0 p right).1 q)

abbrev reply_reported : Answer → desk.Reply
reply_reported (replied r) = r
reply_reported work_done = desk.given_up
reply_reported not_now = desk.given_up

module _ (rows : List (ClaimRow Job)) (log : List ClientReplies) (w w' : Desks) (q : ℕ) (c : call_code.Call) (r : Reply)
    (a : SimulatesCall w q (view_of_call c) (Ok r) w') (s : IsSound rows log w) where
  abbrev mine : Desk
  mine = desk_at q w

  -- the desk of the project, as a profile that is right has it
  abbrev next : Profile → Desk
  next p = after_call p mine (view_of_call c)

  goes : (p : Profile) → IsRight p → put_desk q (next p) w ≡ w'
  goes p right = ap (λ (x : Desks × Answer). x.0) (a p right)

  reported_so : (p : Profile) → IsRight p → reply_to p mine (view_of_call c) ≡ view_of_reply r
  reported_so p right = ap (λ (x : Desks × Answer). reply_reported x.1) (a p right)

  own_desk : (p : Profile) → IsRight p → desk_at q w' ≡ next p
  own_desk p right = ap (desk_at q) (sym (goes p right)) ∙ desk_placed q q (next p) w
      ∙ ap (λ (b : Bool). if b then next p else mine) (self_is q)

  reports : (p : Profile) → IsRight p → AgreesWithHistories rows (put_desk q (next p) w)
  reports p right = placed q rows w (next p) (reported_call p q rows mine (view_of_call c) ((s.0 p right).0 q))
      (λ n apart. (s.0 p right).0 n)

  at_next : (log' : List ClientReplies) → KeepsAllTickets w w'
      → ((p : Profile) → IsRight p → IsLogged log' (put_desk q (next p) w)) → IsSound rows log' w'
  at_next log' keeps logged = (
    (λ p right. (
      subst (AgreesWithHistories rows) (goes p right) (reports p right),
      subst (IsLogged log') (goes p right) (logged p right),
    )),
    jobs_kept rows w w' keeps s.1,
  )

  next_number : HasRoom mine → (p : Profile) → IsRight p
      → calls_in (desk_at q w').history ≡ length (of_project q log) + 1
  next_number room p right =
      ap (λ (d : Desk). calls_in d.history) (own_desk p right) ∙ counted_call p mine (view_of_call c) room
      ∙ ap (λ n. n + 1) (sym (as_many rows log w s q))

  -- the number of a call that is noted
  pub is_next : HasRoom mine → calls_in (desk_at q w').history ≡ length (of_project q log) + 1
  is_next room = for_one (next_number room)

  -- a call that is noted has a receipt
  pub sound_called : (n : ℕ) → HasRoom mine → n ≡ length (of_project q log) + 1 → KeepsAllTickets w w'
      → IsSound rows (log ++ receipt_of q n c r ∷ []) w'
  sound_called n room number keeps = at_next (log ++ receipt_of q n c r ∷ []) keeps (λ p right.
      logged_more log w (s.0 p right).1 q n c r (next p) number
      (noted_call p mine (view_of_call c) room ∙ ap (λ x. calls_noted mine.history ++ called (view_of_call c) x ∷ [])
      (reported_so p right)))

  -- a call for which the log has no room isn't noted
  pub sound_full : MOST_CALLS ≤ calls_in mine.history → KeepsAllTickets w w' → IsSound rows log w'
  sound_full full keeps = at_next log keeps (λ p right.
      logged_same log w (s.0 p right).1 q (next p)
      (ap (λ (d : Desk). calls_noted d.history) (full_stays mine p (view_of_call c) full)))

  refused_full : MOST_CALLS ≤ calls_in mine.history → IsOneTooMany (Ok r)
  refused_full full = for_one (λ p right. sym (reported_so p right) ∙ full_refused mine p (view_of_call c) full)

-- ---- calls for which the log has no room

module _ (rows : List (ClaimRow Job)) (log : List ClientReplies) (w w' : Desks) (q : ℕ) (c : call_code.Call)
    (s : IsSound rows log w) (full : MOST_CALLS ≤ calls_in (desk_at q w).history) where
  pub sound_past : (r : Result Reply NoMemory) → SimulatesCall w q (view_of_call c) r w' → KeepsAllTickets w w'
      → IsSound rows log w'
  sound_past (Ok r) a keeps = sound_full rows log w w' q c r a s full keeps
  sound_past (Err e) a keeps = absurd (full_below (desk_at q w) full a.0)

  pub refused_past : (r : Result Reply NoMemory) → SimulatesCall w q (view_of_call c) r w' → IsOneTooMany r
  refused_past (Ok r) a = refused_full rows log w w' q c r a s full
  refused_past (Err e) a = full_below (desk_at q w) full a.0

-- ---- claims

pub sound_claimed : (rows : List (ClaimRow Job)) (log : List ClientReplies) (w w' : Desks) (q t : ℕ)
    (j : Arc Job Global) → ClaimsAt w q t (Ok (Some j)) w' → IsSound rows log w
    → IsSound (rows ++ row_of (claim_of q t j.value) None ∷ []) log w'
sound_claimed rows log w w' q t j h s = (
  (λ p right. (
    subst (AgreesWithHistories after) (sym x.1)
        (placed q after w (after_claim d t) (reported_claim q rows d t j.value x.0 ((s.0 p right).0 q))
        (λ r apart. reported_where r rows after (desk_at r w) (other_opened r (claim_of q t j.value) apart rows None)
        ((s.0 p right).0 r))),
    subst (IsLogged log) (sym x.1) (logged_same log w (s.0 p right).1 q (after_claim d t) (noted_claim d t)),
  )),
  All-push (OfItsJob w') rows (row_of (claim_of q t j.value) None) (jobs_kept rows w w' keeps s.1)
      (keeps q t j.value (waiting_ticket d t j.value (held_at d.trials t) refl h.0)),
)
  where
    d : Desk
    d = desk_at q w

    after : List (ClaimRow Job)
    after = rows ++ row_of (claim_of q t j.value) None ∷ []

    x : (is_queued (held_at d.trials t) ≡ true) × (w' ≡ put_desk q (after_claim d t) w)
    x = claimed_world q t w w' j h

    done' : worker_step any_profile d (claim t) ≡ Some (after_claim d t)
    done' = ap (λ (b : Bool). if b then Some (after_claim d t) else None) x.0

    keeps : KeepsAllTickets w w'
    keeps r = subst (λ (k : Desks). KeepsTickets (desk_at r w) (desk_at r k)) (sym x.1)
        (tickets_placed r q (after_claim d t) w (tickets_worked any_profile d (after_claim d t) (claim t) done'))

-- ---- ends

module _ (rows : List (ClaimRow Job)) (log : List ClientReplies) (w : Desks) (n : ℕ) (c : Claim Job)
    (at : slice_get rows n ≡ Some (row_of c None)) (s : IsSound rows log w) where
  abbrev own : Desk
  own = desk_at c.project w

  -- the rows of other projects stay
  others : (p : Profile) → IsRight p → (e : ClaimEnd) (r : ℕ) → (c.project == r) ≡ false
      → IsReportedAt r (slice_set rows n (row_of c (Some e))) (desk_at r w)
  others p right e r apart = reported_where r rows (slice_set rows n (row_of c (Some e))) (desk_at r w)
      (other_ended r c apart rows n None (Some e) at) ((s.0 p right).0 r)

  jobs_set : (w' : Desks) (e : ClaimEnd) → KeepsAllTickets w w'
      → AreOfTheirJobs (slice_set rows n (row_of c (Some e))) w'
  jobs_set w' e keeps = All-set (OfItsJob w') rows n (row_of c (Some e))
      (keeps c.project c.ticket c.job.value (own_job rows w n c None at s.1)) (jobs_kept rows w w' keeps s.1)

  stray : is_running (held_at own.trials c.ticket) ≡ false → IsSound (slice_set rows n (row_of c (Some Stray))) log w
  stray idle = (
    (λ p right. ((λ r. by p right r (c.project == r) refl), (s.0 p right).1)),
    jobs_set w Stray (λ q t j k. k),
  )
    where
      by : (p : Profile) → IsRight p → (r : ℕ) (b : Bool) → (c.project == r) ≡ b
          → IsReportedAt r (slice_set rows n (row_of c (Some Stray))) (desk_at r w)
      by p right r true e = subst (λ k. IsReportedAt k (slice_set rows n (row_of c (Some Stray))) (desk_at k w))
          (same_by c.project r e) (reported_stray c.project rows own n c (self_is c.project) at
          ((s.0 p right).0 c.project) idle)
      by p right r false e = others p right Stray r e

  gone : is_running (held_at own.trials c.ticket) ≡ false → ForRight (λ p. IsGone own c.ticket)
  gone idle p right = open_gone c.project rows own n c (self_is c.project) at ((s.0 p right).0 c.project) idle

  -- what can't be filed isn't running, since the job is that of its ticket
  stray_idle : (w' : Desks) (f : FinishedView) → c.job.value ≡ f.job → SimulatesFile w c.project c.ticket f false w'
      → is_running (held_at own.trials c.ticket) ≡ false
  stray_idle w' f job h =
      let mine : JobAt own.trials c.ticket f.job =
      subst (JobAt own.trials c.ticket) job (own_job rows w n c None at s.1).1 in
      ⊎_elim (λ (x : is_running (held_at own.trials c.ticket) ≡ false). x)
      (λ (other : JobAt own.trials c.ticket f.job → ⊥). absurd (other mine)) h.0

  pub sound_filed : (w' : Desks) (f : FinishedView) (b : Bool) → c.job.value ≡ f.job
      → SimulatesFile w c.project c.ticket f b w' → KeepsAllTickets w w'
      → IsSound (slice_set rows n (row_of c (Some (end_or_stray b Filed)))) log w'
  sound_filed w' f true job h keeps = (
    (λ p right.
        let x = worked_done c.project w w' (is_running (held_at own.trials c.ticket))
        (after_file p own c.ticket (mark_of f.result)) (h p right) in (
          subst (AgreesWithHistories (slice_set rows n (row_of c (Some Filed)))) (sym x.1)
              (placed c.project (slice_set rows n (row_of c (Some Filed))) w
              (after_file p own c.ticket (mark_of f.result))
              (reported_filed c.project rows own n c (self_is c.project) at ((s.0 p right).0 c.project) p
              (mark_of f.result)) (others p right Filed)),
          subst (IsLogged log) (sym x.1) (logged_same log w (s.0 p right).1 c.project
              (after_file p own c.ticket (mark_of f.result)) (noted_file own c.ticket p (mark_of f.result))),
        )),
    jobs_set w' Filed keeps,
  )
  sound_filed w' f false job h keeps = subst (IsSound (slice_set rows n (row_of c (Some Stray))) log) (sym h.1)
      (stray (stray_idle w' f job h))

  pub filed_gone : (w' : Desks) (f : FinishedView) (b : Bool) → c.job.value ≡ f.job
      → SimulatesFile w c.project c.ticket f b w' → OnFalse b (ForRight (λ p. IsGone own c.ticket))
  filed_gone w' f true job h = tt
  filed_gone w' f false job h = gone (stray_idle w' f job h)

  pub sound_back : (w' : Desks) (b : Bool) → SimulatesHandBack w c.project c.ticket b w'
      → IsSound (slice_set rows n (row_of c (Some (end_or_stray b HandedBack)))) log w'
  sound_back w' true h = (
    (λ p right. (
      subst (AgreesWithHistories (slice_set rows n (row_of c (Some HandedBack)))) (sym x.1)
          (placed c.project (slice_set rows n (row_of c (Some HandedBack))) w (after_hand_back own c.ticket)
          (reported_back c.project rows own n c (self_is c.project) at ((s.0 p right).0 c.project))
          (others p right HandedBack)),
      subst (IsLogged log) (sym x.1) (logged_same log w (s.0 p right).1 c.project (after_hand_back own c.ticket)
          (noted_back own c.ticket)),
    )),
    jobs_set w' HandedBack keeps,
  )
    where
      x : (is_running (held_at own.trials c.ticket) ≡ true) × (w' ≡ put_desk c.project (after_hand_back own c.ticket) w)
      x = worked_done c.project w w' (is_running (held_at own.trials c.ticket)) (after_hand_back own c.ticket) h

      done' : worker_step any_profile own (hand_back c.ticket) ≡ Some (after_hand_back own c.ticket)
      done' = ap (λ (b : Bool). if b then Some (after_hand_back own c.ticket) else None) x.0

      keeps : KeepsAllTickets w w'
      keeps r = subst (λ (k : Desks). KeepsTickets (desk_at r w) (desk_at r k)) (sym x.1)
          (tickets_placed r c.project (after_hand_back own c.ticket) w
          (tickets_worked any_profile own (after_hand_back own c.ticket) (hand_back c.ticket) done'))
  sound_back w' false h =
      let x = worked_not c.project w w' (is_running (held_at own.trials c.ticket)) (after_hand_back own c.ticket) h in
      subst (IsSound (slice_set rows n (row_of c (Some Stray))) log) (sym x.1) (stray x.0)

  pub back_gone : (w' : Desks) (b : Bool) → SimulatesHandBack w c.project c.ticket b w'
      → OnFalse b (ForRight (λ p. IsGone own c.ticket))
  back_gone w' true h = tt
  back_gone w' false h = gone (worked_not c.project w w' (is_running (held_at own.trials c.ticket))
      (after_hand_back own c.ticket) h).0
