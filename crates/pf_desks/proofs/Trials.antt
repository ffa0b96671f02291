-- What is true of a trial is true of it whatever happens at its desk, where a change of its state keeps it.
use Rattle.std.proofs.Common.{◌≡◌, ◌≤◌, ◌+◌, ℕ, zero, suc, Bool, true, false, List, [], ◌∷◌, ◌++◌, length, Option, Some}
use Rattle.std.proofs.Common.{None, refl, sym, ap, subst, arith}
use Rattle.std.specs.Prelude.{Result, Ok, Err, if◌then◌else◌, IfSome, slice_get, slice_set}
use Rattle.std.specs.Option.{option_flatten, option_map}
use Rattle.std.proofs.lemmas.List.{length-set}
use Rattle.pf_errors.specs.declared.code.Code.{Code}
use Rattle.pf_errors.specs.declared.code.Code.TheVariants as code
use Rattle.pf_quota.specs.declared.charges.Charge.TheVariants as charge
use Rattle.pf_request.specs.Calls.{Call, submit, order, fetch, status, drop_trial, withdraw, usage, log, edition}
use Rattle.pf_request.specs.Job.{Job}
use Rattle.pf_check.specs.Module.{ReadModule}
use Rattle.pf_desks.specs.Desk.{Profile, Desk, TrialState, queued, Trial, SourceReading, readable, faulty, Reply}
use Rattle.pf_desks.specs.Desk.{has_edition, refused, job_ordered, held_at, with_held}
use Rattle.pf_desks.specs.Calls.{within_limits, passed_by, submitted, with_job, ordered, dropped, users_of, withdrawn}
use Rattle.pf_desks.specs.Calls.{in_edition, answer_of_call, noted, after_call}
use Rattle.pf_desks.specs.Work.{in_state, with_state}

length_written : (ts : List (Option Trial)) (t : ℕ) (o : Option Trial) → length (with_held ts t o) ≡ length ts
length_written ts zero o = refl
length_written ts (suc i) o = length-set ts i o

length_pushed : (ts : List (Option Trial)) (y : Option Trial) → length (ts ++ y ∷ []) ≡ length ts + 1
length_pushed [] y = refl
length_pushed (x ∷ ts) y = omega (arith, length_pushed ts y)

module _ (P : Trial → Type 0) where
  -- ---- lists of trials

  abbrev IsSo : Option Trial → Type 0
  IsSo o = IfSome o P

  written_index : (ts : List (Option Trial)) (i k : ℕ) (o : Option Trial) → (i ≡ k → IsSo o)
      → IsSo (option_flatten (slice_get ts k)) → IsSo (option_flatten (slice_get (slice_set ts i o) k))
  written_index [] i k o f h = h
  written_index (x ∷ ts) zero zero o f h = f refl
  written_index (x ∷ ts) zero (suc k) o f h = h
  written_index (x ∷ ts) (suc i) zero o f h = h
  written_index (x ∷ ts) (suc i) (suc k) o f h = written_index ts i k o (λ e. f (ap suc e)) h

  written : (ts : List (Option Trial)) (t k : ℕ) (o : Option Trial) → (t ≡ k → IsSo o) → IsSo (held_at ts k)
      → IsSo (held_at (with_held ts t o) k)
  written ts zero k o f h = h
  written ts (suc i) zero o f h = h
  written ts (suc i) (suc k) o f h = written_index ts i k o (λ e. f (ap suc e)) h

  mapped : (f : Job → TrialState) (o : Option Trial) → ((x : Trial) → P x → P (in_state f x)) → IsSo o
      → IsSo (option_map (in_state f) o)
  mapped f None by h = tt
  mapped f (Some x) by h = by x h

  state_written : (ts : List (Option Trial)) (u t : ℕ) (f : Job → TrialState)
      → (u ≡ t → (x : Trial) → P x → P (in_state f x))
      → IsSo (held_at ts t) → IsSo (held_at (with_state ts u f) t)
  state_written ts u t f by h =
      written ts u t (option_map (in_state f) (held_at ts u))
      (λ e. mapped f (held_at ts u) (by e) (subst (λ (n : ℕ). IsSo (held_at ts n)) (sym e) h)) h

  pushed_index : (ts : List (Option Trial)) (y : Option Trial) (i : ℕ) → suc i ≤ length ts
      → IsSo (option_flatten (slice_get ts i)) → IsSo (option_flatten (slice_get (ts ++ y ∷ []) i))
  pushed_index [] y i within h = absurd (omega arith)
  pushed_index (x ∷ ts) y zero within h = h
  pushed_index (x ∷ ts) y (suc i) within h = pushed_index ts y i (omega arith) h

  pushed : (ts : List (Option Trial)) (y : Option Trial) (t : ℕ) → t ≤ length ts → IsSo (held_at ts t)
      → IsSo (held_at (ts ++ y ∷ []) t)
  pushed ts y zero within h = h
  pushed ts y (suc i) within h = pushed_index ts y i within h

  -- ---- a trial more, one that is dropped, and one in another state

  -- a ticket was given, and its trial, if it is held yet, is so
  abbrev pub IsGiven : Desk → ℕ → Type 0
  IsGiven d t = (t ≤ length d.trials) × IfSome (held_at d.trials t) P

  last_so : (ts : List (Option Trial)) (x : Trial) → P x → IsSo (held_at (ts ++ Some x ∷ []) (suc (length ts)))
  last_so [] x h = h
  last_so (y ∷ ts) x h = last_so ts x h

  -- the newest trial
  pub given_last : (d : Desk) (n : ℕ) (j : Job) → P (record { module_number = n; job = j; state = queued })
      → IsGiven (with_job d n j) (length d.trials + 1)
  given_last d n j h =
      let new : Trial = record { module_number = n; job = j; state = queued } in
      let last : suc (length d.trials) ≡ length d.trials + 1 = omega arith in (
        omega (arith, length_pushed d.trials (Some new)),
        subst (λ (t : ℕ). IsSo (held_at (d.trials ++ Some new ∷ []) t))
            last (last_so d.trials new h),
      )

  module _ (d : Desk) (t : ℕ) (k : IsGiven d t) where
    pub given_pushed : (n : ℕ) (j : Job) → IsGiven (with_job d n j) t
    given_pushed n j =
        let new : Trial = record { module_number = n; job = j; state = queued } in
        (omega (arith, k.0, length_pushed d.trials (Some new)), pushed d.trials (Some new) t k.0 k.1)

    pub given_dropped : (n : ℕ) → IsGiven (record d { trials = with_held d.trials n None }) t
    given_dropped n = (omega (arith, k.0, length_written d.trials n None), written d.trials n t None (λ e. tt) k.1)

    pub given_in_state : (u : ℕ) (f : Job → TrialState) → (u ≡ t → (x : Trial) → P x → P (in_state f x))
        → IsGiven (record d { trials = with_state d.trials u f }) t
    given_in_state u f by = (
      omega (arith, k.0, length_written d.trials u (option_map (in_state f) (held_at d.trials u))),
      state_written d.trials u t f by k.1,
    )

    -- ---- calls

    given_with : (o : Option Code) (x : Desk × Reply) → IsGiven x.0 t → IsGiven (within_limits d o x).0 t
    given_with None x h = h
    given_with (Some e) x h = k

    given_submitted : (text : List ℕ) (r : SourceReading) → IsGiven (submitted d text r).0 t
    given_submitted text (readable m) = k
    given_submitted text (faulty c) = k

    given_ordered : (n : ℕ) (r : Result Job Code) → IsGiven (ordered d n r).0 t
    given_ordered n (Ok i) = given_with _ (with_job d n i, _) (given_pushed n i)
    given_ordered n (Err e) = k

    given_after_drop : (n : ℕ) (o : Option Trial) → IsGiven (dropped d n o).0 t
    given_after_drop n None = k
    given_after_drop n (Some x) = given_dropped n

    given_withdrawn : (n : ℕ) (o : Option ReadModule) (users : ℕ) → IsGiven (withdrawn d n o users).0 t
    given_withdrawn n None users = k
    given_withdrawn n (Some m) zero = k
    given_withdrawn n (Some m) (suc users) = k

    given_moved : (e : ℕ) → IsGiven (in_edition d e).0 t
    given_moved e = by _ _
      where
        by : (b low : Bool)
            → IsGiven (if◌then◌else◌ {A = Desk × Reply} b (if low then (d, refused code.EditionTooLow)
            else (record d { edition = e }, has_edition)) (d, refused code.NoEdition)).0 t
        by true true = k
        by true false = k
        by false low = k

    given_answered : (p : Profile) (c : Call) → IsGiven (answer_of_call p d c).0 t
    given_answered p (submit text) = given_with _ (submitted d text (p.reading text))
        (given_submitted text (p.reading text))
    given_answered p (order n r) = given_ordered n (job_ordered p d.edition (held_at d.modules n) r)
    given_answered p (fetch u) = k
    given_answered p (status u) = k
    given_answered p (drop_trial u) = given_after_drop u (held_at d.trials u)
    given_answered p (withdraw n) = given_withdrawn n (held_at d.modules n) (users_of d n)
    given_answered p usage = k
    given_answered p log = k
    given_answered p (edition e) = given_moved e

    pub given_called : (p : Profile) (c : Call) → IsGiven (after_call p d c) t
    given_called p c = given_with (passed_by d charge.Call) (noted c (answer_of_call p d c)) (given_answered p c)
