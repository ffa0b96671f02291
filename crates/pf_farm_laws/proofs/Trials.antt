-- Trials that are running, and trials that are gone, whatever happens at their desk.
use Rattle.std.proofs.Common.{◌≡◌, ◌≢◌, ◌⊎◌, ℕ, zero, suc, ◌≤◌, ◌==◌, Bool, true, false, true≢false, List, [], ◌∷◌}
use Rattle.std.proofs.Common.{◌++◌, length, Option, Some, None, inl, inr, refl, sym, ap, ◌∙◌, subst, arith}
use Rattle.std.specs.Prelude.{Result, Ok, Err, if◌then◌else◌, slice_get}
use Rattle.std.specs.Option.{option_flatten, option_map}
use Rattle.pf_errors.specs.declared.code.Code.{Code}
use Rattle.pf_errors.specs.declared.code.Code.TheVariants as code
use Rattle.pf_quota.specs.declared.charges.Charge.TheVariants as charge
use Rattle.pf_request.specs.Calls.{Call, submit, order, fetch, status, drop_trial, withdraw, usage, log, edition}
use Rattle.pf_request.specs.Job.{Job}
use Rattle.pf_check.specs.Module.{ReadModule}
use Rattle.pf_desks.specs.Desk.{Profile, Desk, TrialState, queued, Trial, SourceReading, readable, faulty, Reply}
use Rattle.pf_desks.specs.Desk.{given_up, has_edition, refused, job_ordered, held_at, with_held}
use Rattle.pf_desks.specs.Calls.{within_limits, passed_by, submitted, with_job, ordered, dropped, users_of, withdrawn}
use Rattle.pf_desks.specs.Calls.{in_edition, answer_of_call, noted, after_call, reply_to}
use Rattle.pf_desks.specs.Work.{is_running, in_state, with_state}
use Rattle.pf_farm_laws.proofs.Lists.{apart_by, same_by, held_other, held_same, length_held, length_more, held_before}
use Rattle.pf_farm_laws.proofs.Lists.{held_last}

-- as `IsGone`, of the trials of a desk
abbrev pub Gone : List (Option Trial) → ℕ → Type 0
Gone ts t = (1 ≤ t) × (t ≤ length ts) × (held_at ts t ≡ None)

-- what a call with a reply makes of the trials: they stay, one more is ordered, or one is dropped
pub data Turns (ts : List (Option Trial)) (c : Call) (r : Reply) (ts' : List (Option Trial)) : Type 0 where
  stay : ts' ≡ ts → Turns ts c r ts'
  more : (x : Trial) → ts' ≡ ts ++ Some x ∷ [] → Turns ts c r ts'
  less : (u : ℕ) → c ≡ drop_trial u → r ≡ given_up → ts' ≡ with_held ts u None → Turns ts c r ts'

none_some : {T : Type 0} (x : T) → Some x ≡ None → ⊥
none_some x e = absurd (cc)

module _ (p : Profile) (d : Desk) where
  turns_with : (c : Call) (o : Option Code) (x : Desk × Reply) → Turns d.trials c x.1 x.0.trials
      → Turns d.trials c (within_limits d o x).1 (within_limits d o x).0.trials
  turns_with c None x h = h
  turns_with c (Some e) x h = stay refl

  turns_submitted : (c : Call) (text : List ℕ) (r : SourceReading)
      → Turns d.trials c (submitted d text r).1 (submitted d text r).0.trials
  turns_submitted c text (readable m) = stay refl
  turns_submitted c text (faulty e) = stay refl

  turns_ordered : (c : Call) (n : ℕ) (r : Result Job Code) → Turns d.trials c (ordered d n r).1 (ordered d n r).0.trials
  turns_ordered c n (Ok j) = turns_with c _ (with_job d n j, _)
      (more (record { module_number = n; job = j; state = queued }) refl)
  turns_ordered c n (Err e) = stay refl

  turns_dropped : (t : ℕ) (o : Option Trial) → Turns d.trials (drop_trial t) (dropped d t o).1 (dropped d t o).0.trials
  turns_dropped t None = stay refl
  turns_dropped t (Some x) = less t refl refl refl

  turns_withdrawn : (c : Call) (n : ℕ) (o : Option ReadModule) (k : ℕ)
      → Turns d.trials c (withdrawn d n o k).1 (withdrawn d n o k).0.trials
  turns_withdrawn c n None k = stay refl
  turns_withdrawn c n (Some m) zero = stay refl
  turns_withdrawn c n (Some m) (suc k) = stay refl

  turns_moved : (c : Call) (e : ℕ) → Turns d.trials c (in_edition d e).1 (in_edition d e).0.trials
  turns_moved c e = by _ _
    where
      x : Bool → Bool → Desk × Reply
      x b low = if◌then◌else◌ {A = Desk × Reply} b (if low then (d, refused code.EditionTooLow)
          else (record d { edition = e }, has_edition)) (d, refused code.NoEdition)

      by : (b low : Bool) → Turns d.trials c (x b low).1 (x b low).0.trials
      by true true = stay refl
      by true false = stay refl
      by false low = stay refl

  turns_answered : (c : Call) → Turns d.trials c (answer_of_call p d c).1 (answer_of_call p d c).0.trials
  turns_answered (submit text) = turns_with (submit text) _ (submitted d text (p.reading text))
      (turns_submitted (submit text) text (p.reading text))
  turns_answered (order n r) = turns_ordered (order n r) n (job_ordered p d.edition (held_at d.modules n) r)
  turns_answered (fetch t) = stay refl
  turns_answered (status t) = stay refl
  turns_answered (drop_trial t) = turns_dropped t (held_at d.trials t)
  turns_answered (withdraw n) = turns_withdrawn (withdraw n) n (held_at d.modules n) (users_of d n)
  turns_answered usage = stay refl
  turns_answered log = stay refl
  turns_answered (edition e) = turns_moved (edition e) e

  pub turns_called : (c : Call) → Turns d.trials c (reply_to p d c) (after_call p d c).trials
  turns_called c = turns_with c (passed_by d charge.Call) (noted c (answer_of_call p d c)) (turns_answered c)

-- ---- by calls

module _ (ts : List (Option Trial)) where
  pub gone_stays : (c : Call) (r : Reply) (ts' : List (Option Trial)) (t : ℕ) → Turns ts c r ts'
      → Gone ts t → Gone ts' t
  gone_stays c r ts' t (stay e) g = subst (λ l. Gone l t) (sym e) g
  gone_stays c r ts' t (more x e) g = subst (λ l. Gone l t) (sym e) (
    g.0,
    omega (arith, g.1, length_more ts (Some x)),
    held_before ts t (Some x) g.1 ∙ g.2,
  )
  gone_stays c r ts' t (less u a b e) g = subst (λ l. Gone l t) (sym e) (
    g.0,
    omega (arith, g.1, length_held ts u None),
    by (u == t) refl,
  )
    where
      by : (b : Bool) → (u == t) ≡ b → held_at (with_held ts u None) t ≡ None
      by true is = let same : u ≡ t = same_by u t is in subst (λ n. held_at (with_held ts n None) t ≡ None) (sym same)
          (held_same ts t None g.0 g.1)
      by false not = held_other ts u t None (apart_by u t not) ∙ g.2

  -- what is gone after a call was gone before, or was dropped by it
  pub gone_before : (c : Call) (r : Reply) (ts' : List (Option Trial)) (t : ℕ) → Turns ts c r ts' → Gone ts' t
      → Gone ts t ⊎ ((c ≡ drop_trial t) × (r ≡ given_up))
  gone_before c r ts' t (stay e) g = inl (subst (λ l. Gone l t) e g)
  gone_before c r ts' t (more x e) g = by (suc (length ts) == t) refl
    where
      now : Gone (ts ++ Some x ∷ []) t
      now = subst (λ l. Gone l t) e g

      by : (b : Bool) → (suc (length ts) == t) ≡ b → Gone ts t ⊎ ((c ≡ drop_trial t) × (r ≡ given_up))
      by true is = let same : suc (length ts) ≡ t = same_by _ _ is in
          absurd (none_some x (sym (held_last ts (Some x)) ∙ ap (held_at (ts ++ Some x ∷ [])) same ∙ now.2))
      by false not = let apart = apart_by _ _ not in
          let less' : t ≤ length ts = omega (arith, now.1, length_more ts (Some x), apart) in
          inl (now.0, less', sym (held_before ts t (Some x) less') ∙ now.2)
  gone_before c r ts' t (less u a b e) g = by (u == t) refl
    where
      now : Gone (with_held ts u None) t
      now = subst (λ l. Gone l t) e g

      by : (b : Bool) → (u == t) ≡ b → Gone ts t ⊎ ((c ≡ drop_trial t) × (r ≡ given_up))
      by true is = inr (a ∙ ap drop_trial (same_by u t is), b)
      by false not = inl (
        now.0,
        omega (arith, now.1, length_held ts u None),
        sym (held_other ts u t None (apart_by u t not)) ∙ now.2,
      )

  held_index : (i : ℕ) (xs : List (Option Trial)) → is_running (option_flatten (slice_get xs i)) ≡ true
      → suc i ≤ length xs
  held_index i [] h = absurd (true≢false (sym h))
  held_index zero (x ∷ xs) h = omega arith
  held_index (suc i) (x ∷ xs) h = omega (arith, held_index i xs h)

  pub running_within : (t : ℕ) → is_running (held_at ts t) ≡ true → (1 ≤ t) × (t ≤ length ts)
  running_within zero h = absurd (true≢false (sym h))
  running_within (suc i) h = (omega arith, held_index i ts h)

  pub running_stays : (c : Call) (r : Reply) (ts' : List (Option Trial)) (t : ℕ) → Turns ts c r ts'
      → is_running (held_at ts t) ≡ true → (is_running (held_at ts' t) ≡ true) ⊎ Gone ts' t
  running_stays c r ts' t (stay e) h = inl (subst (λ l. is_running (held_at l t) ≡ true) (sym e) h)
  running_stays c r ts' t (more x e) h = inl (subst (λ l. is_running (held_at l t) ≡ true) (sym e)
      (ap is_running (held_before ts t (Some x) (running_within t h).1) ∙ h))
  running_stays c r ts' t (less u a b e) h = subst (λ l. (is_running (held_at l t) ≡ true) ⊎ Gone l t) (sym e)
      (by (u == t) refl)
    where
      by : (b : Bool) → (u == t) ≡ b → (is_running (held_at (with_held ts u None) t) ≡ true)
          ⊎ Gone (with_held ts u None) t
      by true is =
          let same : u ≡ t = same_by u t is in
          let here = running_within t h in
          inr (
            here.0,
            omega (arith, here.1, length_held ts u None),
            subst (λ n. held_at (with_held ts n None) t ≡ None)
                (sym same) (held_same ts t None here.0 here.1),
          )
      by false not = inl (ap is_running (held_other ts u t None (apart_by u t not)) ∙ h)

some_index : (ts : List (Option Trial)) (i : ℕ) (x : Trial) → option_flatten (slice_get ts i) ≡ Some x
    → suc i ≤ length ts
some_index [] i x h = absurd (cc)
some_index (o ∷ ts) zero x h = omega arith
some_index (o ∷ ts) (suc i) x h = omega (arith, some_index ts i x h)

pub some_within : (ts : List (Option Trial)) (t : ℕ) (x : Trial) → held_at ts t ≡ Some x → (1 ≤ t) × (t ≤ length ts)
some_within ts zero x h = absurd (cc)
some_within ts (suc i) x h = (omega arith, some_index ts i x h)

-- ---- by workers

module _ (ts : List (Option Trial)) (u : ℕ) (f : Job → TrialState) where
  abbrev new : Option Trial
  new = option_map (in_state f) (held_at ts u)

  nothing : (o : Option Trial) → option_map (in_state f) o ≡ None → o ≡ None
  nothing None h = refl
  nothing (Some x) h = absurd (none_some _ h)

  pub state_other : (t : ℕ) → u ≢ t → held_at (with_state ts u f) t ≡ held_at ts t
  state_other t apart = held_other ts u t new apart

  pub gone_with_state : (t : ℕ) → Gone ts t → Gone (with_state ts u f) t
  gone_with_state t g = (g.0, omega (arith, g.1, length_held ts u new), by (u == t) refl)
    where
      by : (b : Bool) → (u == t) ≡ b → held_at (with_held ts u new) t ≡ None
      by true is =
          let same : u ≡ t = same_by u t is in
          subst (λ n. held_at (with_held ts u new) n ≡ None) same
          (held_same ts u new (subst (λ n. 1 ≤ n) (sym same) g.0) (subst (λ n. n ≤ length ts) (sym same) g.1)
          ∙ ap (λ o. option_map (in_state f) o) (subst (λ n. held_at ts n ≡ None) (sym same) g.2))
      by false not = held_other ts u t new (apart_by u t not) ∙ g.2

  pub gone_without_state : (t : ℕ) → Gone (with_state ts u f) t → Gone ts t
  gone_without_state t g = (g.0, within, by (u == t) refl)
    where
      within : t ≤ length ts
      within = omega (arith, g.1, length_held ts u new)

      by : (b : Bool) → (u == t) ≡ b → held_at ts t ≡ None
      by true is =
          let same : t ≡ u = sym (same_by u t is) in
          let here : held_at (with_held ts u new) u ≡ None =
          subst (λ n. held_at (with_held ts u new) n ≡ None) same g.2 in
          subst (λ n. held_at ts n ≡ None) (sym same)
          (nothing (held_at ts u) (sym (held_same ts u new (subst (λ n. 1 ≤ n) same g.0)
          (subst (λ n. n ≤ length ts) same within)) ∙ here))
      by false not = sym (held_other ts u t new (apart_by u t not)) ∙ g.2
