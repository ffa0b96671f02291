-- What a desk keeps is kept where a worker claims a trial, files its result or hands it back.
use Rattle.std.proofs.Common.{◌≡◌, ◌≤◌, ◌+◌, ℕ, zero, suc, Bool, true, false, cond, List, [], ◌∷◌, ◌++◌, map, Option}
use Rattle.std.proofs.Common.{Some, None, refl, sym, ap, ◌∙◌, subst, arith}
use Rattle.std.specs.Prelude.{if◌then◌else◌, IfSome, slice_get, slice_set, sum_by}
use Rattle.std.specs.Option.{option_map, option_flatten}
use Rattle.std.specs.Vec.{vec_len, vec_capacity}
use Rattle.pf_quota.specs.Usage.{usage_of}
use Rattle.pf_model.specs.Limits.{IsEdition}
use Rattle.pf_model.specs.Shrinking.{Result}
use Rattle.pf_request.specs.Job.{Job}
use Rattle.pf_check.specs.Module.{ReadModule}
use Rattle.pf_desks.specs.Desk as desk
use Rattle.pf_desks.specs.Desk.{Profile, TrialState, queued, running, done, Trial, Desk, claimed, filed, handed_back}
use Rattle.pf_desks.specs.Desk.{held_at, with_held, all_held}
use Rattle.pf_desks.specs.declared.mark.FileMark.{FileMark}
use Rattle.pf_desks.specs.Calls.{calls_in, usage_in, with_entry}
use Rattle.pf_desks.specs.History.{IsLegalDesk}
use Rattle.pf_desks.specs.Work.{is_queued_state, is_queued, is_running_state, is_running, in_state, with_state}
use Rattle.pf_desks.specs.Work.{result_marked, after_claim, after_file, after_hand_back, claim_step, file_step}
use Rattle.pf_desks.specs.Work.{hand_back_step}
use Rattle.pf_book.specs.Kept.{desk_in, IsValid}
use Rattle.pf_book.specs.Profile.{ForRight}
use Rattle.pf_book.specs.Queued.{job_in_state, job_of_trial, job_at, is_undone}
use Rattle.pf_book.specs.Running.{running_among}
use Rattle.pf_book.specs.Trials.{JobAt}
use Rattle.pf_book.specs.Users.{CountUsers}
use Rattle.pf_book.specs.View.{view_of_entry}
use Rattle.pf_book.specs.declared.desk.Desk.TheInside.{Inside}
use Rattle.pf_book.proofs.Counted.{trial_again, sum_around}
use Rattle.pf_desks.proofs.Always.{OfWork}
use Rattle.pf_desks.proofs.Held.{Around, around}
use Rattle.pf_desks.proofs.Sums.{calls_worked, held_module, held_trial, trial_same}

-- ---- what is written under a number

set_found : {X : Type 0} (xs : List X) (i : ℕ) (x y : X) → slice_get xs i ≡ Some x
    → slice_get (slice_set xs i y) i ≡ Some y
set_found [] i x y h = absurd (cc)
set_found (z ∷ xs) zero x y h = refl
set_found (z ∷ xs) (suc i) x y h = set_found xs i x y h

pub held_found : (ts : List (Option Trial)) (t : ℕ) (x y : Trial) → held_at ts t ≡ Some x
    → held_at (with_held ts t (Some y)) t ≡ Some y
held_found ts zero x y h = absurd (cc)
held_found ts (suc i) x y h = by (slice_get ts i) refl
  where
    by : (o : Option (Option Trial)) → slice_get ts i ≡ o
        → option_flatten (slice_get (slice_set ts i (Some y)) i) ≡ Some y
    by None e = let no : None ≡ Some x = sym (ap (λ (o : Option (Option Trial)). option_flatten o) e) ∙ h in absurd (cc)
    by (Some o) e = ap (λ (o : Option (Option Trial)). option_flatten o) (set_found ts i o (Some y) e)

none_index : (ts : List (Option Trial)) (i : ℕ) → option_flatten (slice_get (slice_set ts i None) i) ≡ None
none_index [] i = refl
none_index (x ∷ ts) zero = refl
none_index (x ∷ ts) (suc i) = none_index ts i

pub held_none : (ts : List (Option Trial)) (t : ℕ) → held_at (with_held ts t None) t ≡ None
held_none ts zero = refl
held_none ts (suc i) = none_index ts i

-- ---- how far a trial is

-- a trial is held there in this state
pub record IsAt (o : Option Trial) (s : TrialState) : Type 0 where
  pub trial : Trial
  pub is : o ≡ Some trial
  pub state : trial.state ≡ s

pub queued_at : (o : Option Trial) → is_queued o ≡ true → IsAt o queued
queued_at None h = absurd (cc)
queued_at (Some x) h = by x.state refl h
  where
    by : (s : TrialState) → x.state ≡ s → is_queued_state s ≡ true → IsAt (Some x) queued
    by queued e h = record { trial = x; is = refl; state = e }
    by running e h = absurd (cc)
    by (done r) e h = absurd (cc)

pub running_at : (o : Option Trial) → is_running o ≡ true → IsAt o running
running_at None h = absurd (cc)
running_at (Some x) h = by x.state refl h
  where
    by : (s : TrialState) → x.state ≡ s → is_running_state s ≡ true → IsAt (Some x) running
    by queued e h = absurd (cc)
    by running e h = record { trial = x; is = refl; state = e }
    by (done r) e h = absurd (cc)

-- a trial that waits for a worker is queued, and of its job
job_queued : (x : Trial) (s : TrialState) (j : Job) → job_in_state x.job s ≡ Some j
    → (is_queued_state s ≡ true) × (x.job ≡ j)
job_queued x queued j h = (refl, cc)
job_queued x running j h = absurd (cc)
job_queued x (done r) j h = absurd (cc)

queued_so : (o : Option Trial) (j : Job) → job_of_trial o ≡ Some j → is_queued o ≡ true
queued_so None j h = absurd (cc)
queued_so (Some x) j h = (job_queued x x.state j h).0

-- a trial that has a job that waits is queued
pub is_waiting : (ts : List (Option Trial)) (t : ℕ) (j : Job) → job_at ts t ≡ Some j → is_queued (held_at ts t) ≡ true
is_waiting ts t j h = queued_so (held_at ts t) j h

-- a trial stays of a job, however the trials and the job are written
pub same_job_at : (ts us : List (Option Trial)) (t : ℕ) (j k : Job) → ts ≡ us → j ≡ k → JobAt ts t j → JobAt us t k
same_job_at ts us t j k trials job h = subst (JobAt us t) job
    (subst (λ (l : List (Option Trial)). JobAt l t j) trials h)

not_queued : (x : Trial) (s : TrialState) → job_in_state x.job s ≡ None → is_queued_state s ≡ false
not_queued x queued h = absurd (cc)
not_queued x running h = refl
not_queued x (done r) h = refl

unqueued_so : (o : Option Trial) → job_of_trial o ≡ None → is_queued o ≡ false
unqueued_so None h = refl
unqueued_so (Some x) h = not_queued x x.state h

-- a trial that has none isn't queued
pub none_waiting : (ts : List (Option Trial)) (t : ℕ) → job_at ts t ≡ None → is_queued (held_at ts t) ≡ false
none_waiting ts t h = unqueued_so (held_at ts t) h

pub undone_at : (o : Option Trial) (s : TrialState) → is_undone s ≡ true → IsAt o s
    → IfSome o (λ x. is_undone x.state ≡ true)
undone_at o s h a = subst (λ (o : Option Trial). IfSome o (λ x. is_undone x.state ≡ true)) (sym a.is)
    (ap is_undone a.state ∙ h)

-- ---- a trial whose state is set

state_set : (ts : List (Option Trial)) (t : ℕ) (x : Trial) (f : Job → TrialState) → held_at ts t ≡ Some x
    → with_state ts t f ≡ with_held ts t (Some (in_state f x))
state_set ts t x f h = ap (λ (o : Option Trial). with_held ts t (option_map (in_state f) o)) h

-- ---- how many run

abbrev pub ran : TrialState → ℕ
ran s = cond (is_running_state s) 1 0

abbrev pub runs : Trial → ℕ
runs x = ran x.state

running_written : (ts : List (Option Trial)) (t : ℕ) (x y : Trial) → held_at ts t ≡ Some x
    → running_among (with_held ts t (Some y)) + runs x ≡ running_among ts + runs y
running_written ts t x y h =
    let a : Around ts t x = around ts t x h in
    omega (
      arith,
      ap (λ (l : List Trial). sum_by runs l) (a.other y),
      ap (λ (l : List Trial). sum_by runs l) a.is,
      sum_around runs a.before a.after y,
      sum_around runs a.before a.after x,
    )

pub running_set : (ts : List (Option Trial)) (t : ℕ) (s s' : TrialState) → IsAt (held_at ts t) s
    → running_among (with_state ts t (λ j. s')) + ran s ≡ running_among ts + ran s'
running_set ts t s s' a =
    ap (λ (l : List (Option Trial)). running_among l + ran s) (state_set ts t a.trial (λ j. s') a.is)
    ∙ ap (λ (k : TrialState). running_among (with_held ts t (Some (in_state (λ j. s') a.trial))) + ran k) (sym a.state)
    ∙ running_written ts t a.trial (in_state (λ j. s') a.trial) a.is

-- a trial that runs is one of those
pub some_run : (ts : List (Option Trial)) (t : ℕ) → is_running (held_at ts t) ≡ true → 1 ≤ running_among ts
some_run ts t h =
    let e : running_among (with_state ts t (λ j. queued)) + 1 ≡ running_among ts + 0 =
    running_set ts t running queued (running_at (held_at ts t) h) in
    omega (arith, e)

-- ---- what a desk keeps, where the trial of a ticket was given a state, and that is noted

module _ (b b' : Inside) (t : ℕ) (s s' : TrialState) (e : desk.Entry) (a : IsAt (held_at b.trials.items t) s)
    (of : OfWork e)
    (edition : b'.edition ≡ b.edition) (modules : b'.modules.items ≡ b.modules.items)
    (trials : b'.trials.items ≡ with_state b.trials.items t (λ j. s'))
    (history : map view_of_entry b'.history.items ≡ map view_of_entry b.history.items ++ e ∷ [])
    (users : b'.users.items ≡ b.users.items) (usage : b'.usage ≡ b.usage) where
  abbrev now : Trial
  now = in_state (λ j. s') a.trial

  set : b'.trials.items ≡ with_held b.trials.items t (Some now)
  set = trials ∙ state_set b.trials.items t a.trial (λ j. s') a.is

  same_sums : usage_in (desk_in b') ≡ usage_in (desk_in b)
  same_sums =
      let held = ap (λ (l : List (Option Trial)). map held_trial (all_held l)) set ∙ trial_same (desk_in b) t a.trial
      a.is now refl in
      let calls = ap calls_in history ∙ calls_worked (map view_of_entry b.history.items) e of in
      λ k. usage_of (map held_module (all_held (modules k)) ++ held k) (calls k)

  same_users : IsValid b → CountUsers b'.users.items b'.modules.items b'.trials.items
  same_users h =
      let counts : CountUsers b.users.items b.modules.items b.trials.items =
      record { counted = h.counted; exact = h.users; used = h.used } in
      let one = trial_again b.users.items b.modules.items b.trials.items t a.trial now a.is refl counts in
      subst (λ (l : List ℕ). CountUsers l b'.modules.items b'.trials.items) (sym users)
      (subst (λ (l : List (Option ReadModule)). CountUsers b.users.items l b'.trials.items) (sym modules)
      (subst (λ (l : List (Option Trial)). CountUsers b.users.items b.modules.items l) (sym set) one))

  pub worked_valid : b'.running + ran s ≡ b.running + ran s' → vec_len b'.history + b'.running ≤ vec_capacity b'.history
      → ForRight (λ p. IsLegalDesk p (desk_in b')) → IsValid b → IsValid b'
  worked_valid as_many room legal h =
      let counts = same_users h in
      let was : b.running ≡ running_among b.trials.items = h.running in
      let set_so : running_among b'.trials.items ≡ running_among (with_state b.trials.items t (λ j. s')) =
      ap running_among trials in
      let all : b'.running ≡ running_among b'.trials.items =
      omega (arith, as_many, was, running_set b.trials.items t s s' a, set_so) in
      record {
        legal = legal;
        edition = subst IsEdition (sym edition) h.edition;
        sums = usage ∙ h.sums ∙ sym same_sums;
        counted = counts.counted;
        users = counts.exact;
        used = counts.used;
        running = all;
        room = room;
      }

-- ---- the steps of workers at a desk

module _ (d d' : Desk) (t : ℕ) where
  pub claim_is : is_queued (held_at d.trials t) ≡ true → d' ≡ after_claim d t → claim_step d t ≡ Some d'
  claim_is waits is = ap (λ (b : Bool). if b then Some (after_claim d t) else None) waits ∙ ap Some (sym is)

  pub back_is : is_running (held_at d.trials t) ≡ true → d' ≡ after_hand_back d t → hand_back_step d t ≡ Some d'
  back_is runs is = ap (λ (b : Bool). if b then Some (after_hand_back d t) else None) runs ∙ ap Some (sym is)

  -- only what is running is handed back
  pub taken_runs : hand_back_step d t ≡ Some d' → (is_running (held_at d.trials t) ≡ true) × (d' ≡ after_hand_back d t)
  taken_runs h = by (is_running (held_at d.trials t)) refl h
    where
      by : (b : Bool) → is_running (held_at d.trials t) ≡ b → (if b then Some (after_hand_back d t) else None) ≡ Some d'
          → (b ≡ true) × (d' ≡ after_hand_back d t)
      by true e h = (refl, cc)
      by false e h = absurd (cc)

  -- what is filed is what the mark puts, for the trial's own job
  pub file_is : (p : Profile) (m : FileMark) (r : Result) (j : Job) → is_running (held_at d.trials t) ≡ true
      → JobAt d.trials t j → result_marked p m j ≡ r
      → d' ≡ with_entry (record d { trials = with_state d.trials t (λ j. done r) }) (filed t m)
      → file_step p d t m ≡ Some d'
  file_is p m r j runs own puts is =
      let a = running_at (held_at d.trials t) runs in
      let same : j ≡ a.trial.job = subst (λ (o : Option Trial). IfSome o (λ x. j ≡ x.job)) a.is own in
      let put : result_marked p m a.trial.job ≡ r = ap (result_marked p m) (sym same) ∙ puts in
      let trials : with_state d.trials t (λ k. done (result_marked p m k)) ≡ with_state d.trials t (λ k. done r) =
      state_set d.trials t a.trial (λ k. done (result_marked p m k)) a.is
      ∙ ap (λ (x : Result). with_held d.trials t (Some (record a.trial { state = done x }))) put
      ∙ sym (state_set d.trials t a.trial (λ k. done r) a.is) in
      ap (λ (b : Bool). if b then Some (after_file p d t m) else None) runs
      ∙ ap (λ (l : List (Option Trial)). Some (with_entry (record d { trials = l }) (filed t m))) trials
      ∙ ap Some (sym is)
