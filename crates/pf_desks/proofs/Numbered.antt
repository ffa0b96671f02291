-- The numbers that a project is given count up, and so do those that a legal history notes.
use Rattle.std.proofs.Common.{◌≡◌, ℕ, zero, suc, ◌+◌, Bool, true, false, List, [], ◌∷◌, length, Option, Some, None}
use Rattle.std.proofs.Common.{refl, sym, subst, ◌∙◌}
use Rattle.std.specs.Prelude.{filter_map, Result, Ok, Err, if◌then◌else◌, unwrap_or}
use Rattle.std.specs.List.{cons_option}
use Rattle.std.proofs.lemmas.List.{length-append}
use lib.ListN.{length-set}
use Rattle.pf_errors.specs.declared.code.Code.{Code}
use Rattle.pf_errors.specs.declared.code.Code.TheVariants as code
use Rattle.pf_quota.specs.declared.charges.Charge.TheVariants as charge
use Rattle.pf_request.specs.Calls.{Call, submit, order, fetch, status, drop_trial, withdraw, usage, log, edition}
use Rattle.pf_request.specs.Job.{Job}
use Rattle.pf_check.specs.Module.{ReadModule}
use Rattle.pf_desks.specs.Desk.{Profile, Desk, no_desk, Entry, called, claimed, filed, handed_back, TrialState, queued}
use Rattle.pf_desks.specs.Desk.{running, done, Trial, SourceReading, readable, faulty, Reply, ticket, has_edition}
use Rattle.pf_desks.specs.Desk.{refused, job_ordered, held_at, with_held}
use Rattle.pf_desks.specs.Calls.{within_limits, passed_by, submitted, with_job, ordered, fetched, stage_reported}
use Rattle.pf_desks.specs.Calls.{dropped}
use Rattle.pf_desks.specs.Calls.{users_of, withdrawn, in_edition, answer_of_call, noted, after_call, reply_to}
use Rattle.pf_desks.specs.Work.{DeskWork, claim, file, hand_back, worker_step}
use Rattle.pf_desks.specs.History.{EntryFollows, IsLegal, replies_noted}
use Rattle.pf_desks.specs.Desks.{DeskStep, client, worker, all_answers, own_steps, replies_along}
use Rattle.pf_desks.specs.Numbers.{replied_number, ticket_in, CountUp, ReportEachOnce, LegalHistoriesReportEachOnce}
use Rattle.pf_desks.specs.Numbers.{NoNumberTwice}
use Rattle.pf_desks.proofs.Isolated.{isolated}
use Rattle.pf_desks.proofs.Always.{OfWork, moved, moves}

-- k were given, then this, and then k' are given
abbrev Reports : ℕ → Option ℕ → ℕ → Type 0
Reports k None k' = k' ≡ k
Reports k (Some n) k' = (n ≡ k + 1) × (k' ≡ k + 1)

-- which numbers a desk and a reply give where the desk was another
abbrev ReportsNext : Desk → Desk × Reply → Type 0
ReportsNext d x = Reports (length d.modules) (replied_number x.1) (length x.0.modules) × Reports (length d.trials)
    (ticket_in x.1) (length x.0.trials)

length_held : {T : Type 0} (xs : List (Option T)) (n : ℕ) (x : Option T) → length (with_held xs n x) ≡ length xs
length_held xs zero x = refl
length_held xs (suc i) x = length-set xs i x

module _ (p : Profile) (d : Desk) where
  reported_within : (o : Option Code) (x : Desk × Reply) → ReportsNext d x → ReportsNext d (within_limits d o x)
  reported_within None x h = h
  reported_within (Some e) x h = (refl, refl)

  submission_reports : (text : List ℕ) (r : SourceReading) → ReportsNext d (submitted d text r)
  submission_reports text (readable m) = ((refl, length-append d.modules _), refl)
  submission_reports text (faulty n) = (refl, refl)

  order_reports : (n : ℕ) (r : Result Job Code) → ReportsNext d (ordered d n r)
  order_reports n (Ok j) =
      reported_within _ (with_job d n j, ticket _) (refl, (refl, length-append d.trials _))
  order_reports n (Err e) = (refl, refl)

  fetch_reports : (o : Option Trial) → ReportsNext d (d, fetched o)
  fetch_reports None = (refl, refl)
  fetch_reports (Some t) = by t.state
    where
      by : (s : TrialState) → ReportsNext d (d, fetched (Some (record t { state = s })))
      by queued = (refl, refl)
      by running = (refl, refl)
      by (done r) = (refl, refl)

  status_reports : (o : Option Trial) → ReportsNext d (d, stage_reported o)
  status_reports None = (refl, refl)
  status_reports (Some t) = (refl, refl)

  drop_reports : (t : ℕ) (o : Option Trial) → ReportsNext d (dropped d t o)
  drop_reports t None = (refl, refl)
  drop_reports t (Some x) = (refl, length_held d.trials t None)

  withdrawal_reports : (n : ℕ) (o : Option ReadModule) (k : ℕ) → ReportsNext d (withdrawn d n o k)
  withdrawal_reports n None k = (refl, refl)
  withdrawal_reports n (Some m) zero = (length_held d.modules n None, refl)
  withdrawal_reports n (Some m) (suc k) = (refl, refl)

  edition_reports : (e : ℕ) → ReportsNext d (in_edition d e)
  edition_reports e = by _ _
    where
      by : (b f : Bool)
          → ReportsNext d (if◌then◌else◌ {A = Desk × Reply} b (if f then (d, refused code.EditionTooLow)
          else (record d { edition = e }, has_edition)) (d, refused code.NoEdition))
      by true true = (refl, refl)
      by true false = (refl, refl)
      by false f = (refl, refl)

  answer_reports : (c : Call) → ReportsNext d (answer_of_call p d c)
  answer_reports (submit text) =
      reported_within _ (submitted d text (p.reading text)) (submission_reports text (p.reading text))
  answer_reports (order n r) = order_reports n (job_ordered p d.edition (held_at d.modules n) r)
  answer_reports (fetch t) = fetch_reports (held_at d.trials t)
  answer_reports (status t) = status_reports (held_at d.trials t)
  answer_reports (drop_trial t) = drop_reports t (held_at d.trials t)
  answer_reports (withdraw n) = withdrawal_reports n (held_at d.modules n) (users_of d n)
  answer_reports usage = (refl, refl)
  answer_reports log = (refl, refl)
  answer_reports (edition e) = edition_reports e

  call_reports : (c : Call) → ReportsNext d (after_call p d c, reply_to p d c)
  call_reports c = reported_within (passed_by d charge.Call) (noted c (answer_of_call p d c)) (answer_reports c)

-- k numbers of modules and t of trials were given at a desk
abbrev Reported : ℕ → ℕ → Desk → Type 0
Reported k t d = (length d.modules ≡ k) × (length d.trials ≡ t)

move_reports_none : (k t : ℕ) (d : Desk) (n : ℕ) (f : Job → TrialState) (e : Entry) → OfWork e → Reported k t d
    → Reported k t (moved d n f e)
move_reports_none k t d n f e of h = (h.0, length_held d.trials n _ ∙ h.1)

work_reports_none : (p : Profile) (d : Desk) (k : DeskWork)
    → Reported (length d.modules) (length d.trials) (unwrap_or (worker_step p d k) d)
work_reports_none p d k = by (worker_step p d k) refl
  where
    by : (o : Option Desk) → worker_step p d k ≡ o → Reported (length d.modules) (length d.trials) (unwrap_or o d)
    by (Some d') e = moves p (Reported (length d.modules) (length d.trials))
        (move_reports_none (length d.modules) (length d.trials)) d d' k e (refl, refl)
    by None e = (refl, refl)

-- numbers that count up go on after one that is given
count_on : (k k' : ℕ) (o : Option ℕ) (ns : List ℕ) → Reports k o k' → CountUp (k' + 1) ns
    → CountUp (k + 1) (cons_option o ns)
count_on k k' None ns h rest = subst (λ n. CountUp (n + 1) ns) h rest
count_on k k' (Some n) ns h rest = (h.0, subst (λ x. CountUp (x + 1) ns) h.1 rest)

module _ (p : Profile) where
  pub numbers_along : (d : Desk) (ss : List DeskStep)
      → CountUp (length d.modules + 1) (filter_map replied_number (replies_along p d ss))
  numbers_along d [] = tt
  numbers_along d (client q c ∷ ss) =
      count_on (length d.modules) (length (after_call p d c).modules) (replied_number (reply_to p d c))
      (filter_map replied_number (replies_along p (after_call p d c) ss))
      (call_reports p d c).0 (numbers_along (after_call p d c) ss)
  numbers_along d (worker q k ∷ ss) =
      let d' : Desk = unwrap_or (worker_step p d k) d in
      subst (λ n. CountUp (n + 1) (filter_map replied_number (replies_along p d' ss))) (work_reports_none p d k).0
      (numbers_along d' ss)

  pub tickets_along : (d : Desk) (ss : List DeskStep)
      → CountUp (length d.trials + 1) (filter_map ticket_in (replies_along p d ss))
  tickets_along d [] = tt
  tickets_along d (client q c ∷ ss) =
      count_on (length d.trials) (length (after_call p d c).trials) (ticket_in (reply_to p d c))
      (filter_map ticket_in (replies_along p (after_call p d c) ss))
      (call_reports p d c).1 (tickets_along (after_call p d c) ss)
  tickets_along d (worker q k ∷ ss) =
      let d' : Desk = unwrap_or (worker_step p d k) d in
      subst (λ n. CountUp (n + 1) (filter_map ticket_in (replies_along p d' ss))) (work_reports_none p d k).1
      (tickets_along d' ss)

  -- which numbers each note gives
  note_reports : (d k : Desk) (c : Call) (r : Reply) → EntryFollows p d (called c r) k
      → Reports (length d.modules) (replied_number r) (length k.modules) × Reports (length d.trials) (ticket_in r)
      (length k.trials)
  note_reports d k c r h = subst (ReportsNext d) (λ i. (sym h.2 i, sym h.1 i)) (call_reports p d c)

  none_reported : (d k : Desk) (w : DeskWork) → worker_step p d w ≡ Some k
      → Reported (length d.modules) (length d.trials) k
  none_reported d k w h = moves p (Reported (length d.modules) (length d.trials))
      (move_reports_none (length d.modules) (length d.trials)) d k w h (refl, refl)

  abbrev ReportsOn : ℕ → ℕ → List Entry → Type 0
  ReportsOn n t es = CountUp (n + 1) (filter_map replied_number (replies_noted es))
      × CountUp (t + 1) (filter_map ticket_in (replies_noted es))

  reported_on : (d k : Desk) (w : DeskWork) (es : List Entry) → worker_step p d w ≡ Some k
      → ReportsOn (length k.modules) (length k.trials) es → ReportsOn (length d.modules) (length d.trials) es
  reported_on d k w es h rest = let same = none_reported d k w h in
      subst (λ (x : ℕ × ℕ). ReportsOn x.0 x.1 es) (λ i. (same.0 i, same.1 i)) rest

  pub history_reports : (d : Desk) (es : List Entry) (d' : Desk) → IsLegal p d es d'
      → ReportsOn (length d.modules) (length d.trials) es
  history_reports d [] d' h = (tt, tt)
  history_reports d (called c r ∷ es) d' h =
      let reports = note_reports d h.0 c r h.1 in
      let rest = history_reports h.0 es d' h.2 in (
        count_on (length d.modules) (length h.0.modules) (replied_number r)
            (filter_map replied_number (replies_noted es)) reports.0 rest.0,
        count_on (length d.trials) (length h.0.trials) (ticket_in r) (filter_map ticket_in (replies_noted es))
            reports.1 rest.1,
      )
  history_reports d (claimed t ∷ es) d' h = reported_on d h.0 (claim t) es h.1 (history_reports h.0 es d' h.2)
  history_reports d (filed t m ∷ es) d' h = reported_on d h.0 (file t m) es h.1 (history_reports h.0 es d' h.2)
  history_reports d (handed_back t ∷ es) d' h = reported_on d h.0 (hand_back t) es h.1 (history_reports h.0 es d' h.2)

pub legal_counted : LegalHistoriesReportEachOnce
legal_counted p d h = history_reports p no_desk d.history d h

pub counted : NoNumberTwice
counted p q ss =
    let own = own_steps q ss (all_answers p ss) in
    subst ReportEachOnce (sym (isolated p q ss)) (numbers_along p no_desk own, tickets_along p no_desk own)
