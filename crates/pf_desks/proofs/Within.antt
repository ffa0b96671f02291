-- Desks stay within their limits.
use Rattle.std.proofs.Common.{◌≡◌, ℕ, zero, suc, ◌+◌, ◌-◌, ◌≤◌, Bool, true, false, cond, List, [], ◌∷◌, ◌++◌, length}
use Rattle.std.proofs.Common.{map, Option, Some, None, refl, sym, ap, subst, ◌∙◌, arith}
use Rattle.std.specs.Prelude.{nat_lt, Result, Ok, Err, if◌then◌else◌}
use Rattle.std.specs.List.{find}
use Rattle.std.specs.Option.{option_map}
use Rattle.std.proofs.lemmas.Bool.Decides.{nat_tests}
use Rattle.pf_errors.specs.declared.code.Code.{Code}
use Rattle.pf_errors.specs.declared.code.Code.TheVariants as code
use Rattle.pf_quota.specs.Charges.{steps_of_trial}
use Rattle.pf_quota.specs.Checks.{LimitCheck, check, most_modules, refusal_of, IsWithinLimits}
use Rattle.pf_quota.specs.Refusals.{code_of}
use Rattle.pf_quota.specs.Usage.{usage_of, charged, refunded}
use Rattle.pf_quota.specs.declared.charges.Charge.{Charge}
use Rattle.pf_quota.specs.declared.charges.Charge.TheVariants as charge
use Rattle.pf_quota.specs.declared.charges.Holding.{Holding}
use Rattle.pf_quota.specs.declared.charges.Holding.TheVariants as held
use Rattle.pf_quota.specs.declared.refusals.LimitRefusal.{LimitRefusal}
use Rattle.pf_quota.specs.declared.refusals.LimitRefusal.TheVariants.{Modules, Bytes, Trials, Steps, Calls}
use Rattle.pf_quota.specs.declared.refusals.TheConstants.{MOST_CALLS, MOST_MODULE_BYTES, MOST_TRIALS, MOST_TRIAL_STEPS}
use Rattle.pf_quota.specs.declared.usage.Usage.{Usage}
use Rattle.pf_request.specs.Calls.{Call, submit, order, fetch, status, drop_trial, withdraw, usage, log, edition}
use Rattle.pf_request.specs.Job.{Job}
use Rattle.pf_check.specs.Module.{ReadModule}
use Rattle.pf_desks.specs.Desk.{Profile, Desk, no_desk, Entry, called, TrialState, queued, Trial, SourceReading}
use Rattle.pf_desks.specs.Desk.{readable, faulty, Reply, has_edition, refused, job_ordered, held_at, with_held}
use Rattle.pf_desks.specs.Desk.{all_held}
use Rattle.pf_desks.specs.Calls.{calls_in, usage_in, within_limits, passed_by, submitted, with_job, ordered, dropped}
use Rattle.pf_desks.specs.Calls.{users_of, withdrawn, is_edition, in_edition, answer_of_call, noted, after_call}
use Rattle.pf_desks.specs.Work.{in_state, with_state}
use Rattle.pf_desks.specs.Desks.{DeskStep, desk_at}
use Rattle.pf_desks.specs.History.{IsLegalDesk}
use Rattle.pf_desks.specs.Legality.{after_steps}
use Rattle.pf_desks.specs.Limits.{IsInLimits}
use Rattle.pf_desks.proofs.Held.{gap}
use Rattle.pf_desks.proofs.Histories.{call_notes, legal}
use Rattle.pf_desks.proofs.Sums.{calls_more, calls_worked, module_charged, module_refunded, trial_charged}
use Rattle.pf_desks.proofs.Sums.{trial_refunded, trial_same, held_trial}
use Rattle.pf_desks.proofs.Always.{OfWork, moved, moves, along}

-- ---- charges that aren't refused

abbrev is_past : LimitCheck → Bool
is_past k = nat_lt k.limit k.total

abbrev first_past : List LimitCheck → Option LimitRefusal
first_past ks = option_map (λ k. k.refusal) (find is_past ks)

none_mapped : {A B : Type 0} (f : A → B) (o : Option A) → option_map f o ≡ None → o ≡ None
none_mapped f None h = refl
none_mapped f (Some x) h = absurd (cc)

-- where no check is passed, the first isn't, and none of the others is
fits : (k : LimitCheck) (ks : List LimitCheck) → first_past (k ∷ ks) ≡ None
    → (k.total ≤ k.limit) × (first_past ks ≡ None)
fits k ks h = by (is_past k) refl h
  where
    by : (b : Bool) → is_past k ≡ b → option_map (λ (x : LimitCheck). x.refusal) (cond b (Some k) (find is_past ks))
        ≡ None → (k.total ≤ k.limit) × (first_past ks ≡ None)
    by true e h = absurd (cc)
    by false e h = (grind (arith, nat_tests), h)

charge_fits : (e : ℕ) (u : Usage) (c : Charge) → IsWithinLimits e u → refusal_of e u c ≡ None
    → IsWithinLimits e (charged u c)
charge_fits e u charge.Call h fit =
    let a = fits (check (u.calls + 1) MOST_CALLS Calls) [] fit in
    record { modules = h.modules; bytes = h.bytes; trials = h.trials; steps = h.steps; calls = a.0 }
charge_fits e u (charge.Module n) h fit =
    let bytes : LimitCheck = check (u.bytes + n) MOST_MODULE_BYTES Bytes in
    let a = fits (check (u.modules + 1) (most_modules e) Modules) (bytes ∷ []) fit in
    let b = fits bytes [] a.1 in
    record { modules = a.0; bytes = b.0; trials = h.trials; steps = h.steps; calls = h.calls }
charge_fits e u (charge.Trial n) h fit =
    let steps : LimitCheck = check (u.steps + n) MOST_TRIAL_STEPS Steps in
    let a = fits (check (u.trials + 1) MOST_TRIALS Trials) (steps ∷ []) fit in
    let b = fits steps [] a.1 in
    record { modules = h.modules; bytes = h.bytes; trials = a.0; steps = b.0; calls = h.calls }

less : (a b m : ℕ) → a ≤ m → a - b ≤ m
less a b m h = omega arith

refund_fits : (e : ℕ) (u : Usage) (x : Holding) → IsWithinLimits e u → IsWithinLimits e (refunded u x)
refund_fits e u (held.Module n) h =
    record {
      modules = less u.modules 1 _ h.modules;
      bytes = less u.bytes n _ h.bytes;
      trials = h.trials;
      steps =
          h.steps;
      calls = h.calls;
    }
refund_fits e u (held.Trial n) h =
    record {
      modules = h.modules;
      bytes = h.bytes;
      trials = less u.trials 1 _ h.trials;
      steps =
          less u.steps n _ h.steps;
      calls = h.calls;
    }

more_modules : (low high : ℕ) → 1 ≤ low → low ≤ high → most_modules low ≤ most_modules high
more_modules low high one up = grind (arith, nat_tests)

edition_fits : (low high : ℕ) (u : Usage) → 1 ≤ low → low ≤ high → IsWithinLimits low u → IsWithinLimits high u
edition_fits low high u one up h =
    let m = more_modules low high one up in
    let a = h.modules in
    record { modules = omega arith; bytes = h.bytes; trials = h.trials; steps = h.steps; calls = h.calls }

-- ---- what each call and each step of a worker keeps

abbrev Keeps : Desk → Type 0
Keeps d = (1 ≤ d.edition) × IsInLimits d

at_usage : (e : ℕ) (u v : Usage) → u ≡ v → IsWithinLimits e u → IsWithinLimits e v
at_usage e u v same h = subst (IsWithinLimits e) same h

module _ (p : Profile) (d : Desk) (k : Keeps d) where
  unless_past : (o : Option Code) (x : Desk × Reply) → (o ≡ None → Keeps x.0) → Keeps (within_limits d o x).0
  unless_past None x h = h refl
  unless_past (Some e) x h = k

  submission_keeps : (text : List ℕ) (r : SourceReading) → passed_by d (charge.Module (length text)) ≡ None
      → Keeps (submitted d text r).0
  submission_keeps text (readable m) fit = (
    k.0,
    at_usage d.edition (charged (usage_in d) (charge.Module (length text))) _
        (module_charged d (record { source = text; code = m }))
        (charge_fits d.edition (usage_in d) (charge.Module (length text)) k.1
        (none_mapped code_of (refusal_of d.edition (usage_in d) (charge.Module (length text))) fit)),
  )
  submission_keeps text (faulty n) fit = k

  order_keeps : (n : ℕ) (r : Result Job Code) → Keeps (ordered d n r).0
  order_keeps n (Ok j) =
      let c : Charge = charge.Trial (steps_of_trial j.asked.limit j.asked.runs) in
      unless_past (passed_by d c) (with_job d n j, _)
      (λ fit. (
        k.0,
        at_usage d.edition (charged (usage_in d) c) _
            (trial_charged d (record { module_number = n; job = j; state = queued }))
            (charge_fits d.edition (usage_in d) c k.1 (none_mapped code_of (refusal_of d.edition (usage_in d) c) fit)),
      ))
  order_keeps n (Err e) = k

  drop_keeps : (t : ℕ) (o : Option Trial) → held_at d.trials t ≡ o → Keeps (dropped d t o).0
  drop_keeps t None h = k
  drop_keeps t (Some x) h = (
    k.0,
    at_usage d.edition (refunded (usage_in d) (held_trial x)) _ (trial_refunded d t x h)
        (refund_fits d.edition (usage_in d) (held_trial x) k.1),
  )

  withdrawal_keeps : (n : ℕ) (o : Option ReadModule) (users : ℕ) → held_at d.modules n ≡ o
      → Keeps (withdrawn d n o users).0
  withdrawal_keeps n None users h = k
  withdrawal_keeps n (Some m) zero h = (
    k.0,
    at_usage d.edition (refunded (usage_in d) (held.Module (length m.source))) _ (module_refunded d n m h)
        (refund_fits d.edition (usage_in d) (held.Module (length m.source)) k.1),
  )
  withdrawal_keeps n (Some m) (suc users) h = k

  edition_keeps : (e : ℕ) → Keeps (in_edition d e).0
  edition_keeps e = by (is_edition e) (nat_lt e d.edition) refl
    where
      by : (b f : Bool) → nat_lt e d.edition ≡ f
          → Keeps (if◌then◌else◌ {A = Desk × Reply} b (if f then (d, refused code.EditionTooLow)
          else (record d { edition = e }, has_edition)) (d, refused code.NoEdition)).0
      by true true h = k
      by true false h =
          let one = k.0 in
          let up : d.edition ≤ e = grind (arith, nat_tests) in
          (omega arith, edition_fits d.edition e (usage_in d) k.0 up k.1)
      by false f h = k

  answer_keeps : (c : Call) → Keeps (answer_of_call p d c).0
  answer_keeps (submit text) =
      unless_past _ (submitted d text (p.reading text)) (submission_keeps text (p.reading text))
  answer_keeps (order n r) = order_keeps n (job_ordered p d.edition (held_at d.modules n) r)
  answer_keeps (fetch t) = k
  answer_keeps (status t) = k
  answer_keeps (drop_trial t) = drop_keeps t (held_at d.trials t) refl
  answer_keeps (withdraw n) = withdrawal_keeps n (held_at d.modules n) (users_of d n) refl
  answer_keeps usage = k
  answer_keeps log = k
  answer_keeps (edition e) = edition_keeps e

  -- a call that the log has room for is one more within its limit
  noted_keeps : (c : Call) → passed_by d charge.Call ≡ None → Keeps (noted c (answer_of_call p d c)).0
  noted_keeps c fit =
      let x : Desk × Reply = answer_of_call p d c in
      let a : Keeps x.0 = answer_keeps c in
      let room = (charge_fits d.edition (usage_in d) charge.Call k.1
      (none_mapped code_of (refusal_of d.edition (usage_in d) charge.Call) fit)).calls in
      let counts : calls_in (x.0.history ++ called c x.1 ∷ []) ≡ calls_in d.history + 1 =
      calls_more x.0.history c x.1 ∙ ap (λ (es : List Entry). calls_in es + 1) (call_notes p d c) in (
        a.0,
        record {
          modules = a.1.modules;
          bytes = a.1.bytes;
          trials = a.1.trials;
          steps = a.1.steps;
          calls =
              subst (λ n. n ≤ MOST_CALLS) (sym counts) room;
        },
      )

  call_keeps : (c : Call) → Keeps (after_call p d c)
  call_keeps c = unless_past (passed_by d charge.Call) (noted c (answer_of_call p d c)) (noted_keeps c)

-- a trial in another state uses what it used
same_trials : (d : Desk) (t : ℕ) (f : Job → TrialState)
    → map held_trial (all_held (with_state d.trials t f)) ≡ map held_trial (all_held d.trials)
same_trials d t f = by (held_at d.trials t) refl
  where
    by : (o : Option Trial) → held_at d.trials t ≡ o
        → map held_trial (all_held (with_held d.trials t (option_map (in_state f) o))) ≡ map held_trial
        (all_held d.trials)
    by None h = ap (map held_trial) (gap d.trials t h)
    by (Some x) h = trial_same d t x h (in_state f x) refl

move_keeps : (d : Desk) (t : ℕ) (f : Job → TrialState) (e : Entry) → OfWork e → Keeps d → Keeps (moved d t f e)
move_keeps d t f e of k = (
  k.0,
  at_usage d.edition (usage_in d) (usage_in (moved d t f e))
      (λ i. usage_of (map (λ m. held.Module (length m.source)) (all_held d.modules) ++ sym (same_trials d t f) i)
      (sym (calls_worked d.history e of) i)) k.1,
)

no_desk_keeps : Keeps no_desk
no_desk_keeps = (
  omega arith,
  record {
    modules = omega arith;
    bytes = omega arith;
    trials = omega arith;
    steps =
        omega arith;
    calls = omega arith;
  },
)

pub legal_within : (p : Profile) (d : Desk) → IsLegalDesk p d → IsInLimits d
legal_within p d h = (along p Keeps (λ k c x. call_keeps p k x c) (moves p Keeps move_keeps) no_desk d.history d h
    no_desk_keeps).1

pub within : (p : Profile) (q : ℕ) (ss : List DeskStep) → IsInLimits (desk_at q (after_steps p [] ss))
within p q ss = legal_within p (desk_at q (after_steps p [] ss)) (legal p q ss)
