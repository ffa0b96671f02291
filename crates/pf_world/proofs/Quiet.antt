-- Desks of which nobody knows how far their trials are: their limits are as those of the desks that workers changed.
use Rattle.std.proofs.Common.{◌≡◌, ℕ, zero, suc, ◌+◌, ◌==◌, List, [], ◌∷◌, ◌++◌, length, map, Option, Some, None, refl}
use Rattle.std.proofs.Common.{sym, ap}
use Rattle.std.specs.Prelude.{count_by, fold, cond}
use Rattle.std.specs.Option.{option_map}
use Rattle.std.proofs.lemmas.List.{map-set}
use Rattle.pf_quota.specs.Usage.{usage_of}
use Rattle.pf_quota.specs.Checks.{refusal_of}
use Rattle.pf_quota.specs.Refusals.{code_of}
use Rattle.pf_quota.specs.declared.usage.Usage.{Usage}
use Rattle.pf_quota.specs.declared.charges.Charge.{Charge}
use Rattle.pf_quota.specs.declared.charges.Holding.{Holding}
use Rattle.pf_request.specs.Job.{Job}
use Rattle.pf_desks.specs.Desk.{TrialState, queued, Trial, Desk, Entry, held_at, with_held, all_held}
use Rattle.pf_desks.specs.Calls.{calls_in, usage_in, passed_by}
use Rattle.pf_desks.specs.Work.{with_state}
use Rattle.pf_desks.proofs.Sums.{held_module, held_trial}

-- a trial of which nobody knows how far it is
abbrev pub forgot : Trial → Trial
forgot t = record t { state = queued }

abbrev pub bare : List (Option Trial) → List (Option Trial)
bare ts = map (option_map forgot) ts

pub bare_held : (ts : List (Option Trial)) (i : ℕ) → held_at (bare ts) i ≡ option_map forgot (held_at ts i)
bare_held ts zero = refl
bare_held ts (suc i) = at ts i
  where
    at : (ts : List (Option Trial)) (i : ℕ) → held_at (bare ts) (suc i) ≡ option_map forgot (held_at ts (suc i))
    at [] i = refl
    at (None ∷ ts) zero = refl
    at (Some x ∷ ts) zero = refl
    at (x ∷ ts) (suc i) = at ts i

pub bare_with : (ts : List (Option Trial)) (i : ℕ) (x : Option Trial)
    → with_held (bare ts) i (option_map forgot x) ≡ bare (with_held ts i x)
bare_with ts zero x = refl
bare_with ts (suc i) x = sym (map-set (option_map forgot) ts i x)

pub bare_more : (ts : List (Option Trial)) (x : Option Trial)
    → bare ts ++ option_map forgot x ∷ [] ≡ bare (ts ++ x ∷ [])
bare_more [] x = refl
bare_more (y ∷ ts) x = ap (λ (zs : List (Option Trial)). option_map forgot y ∷ zs) (bare_more ts x)

pub bare_length : (ts : List (Option Trial)) → length (bare ts) ≡ length ts
bare_length [] = refl
bare_length (x ∷ ts) = ap suc (bare_length ts)

pub bare_state : (ts : List (Option Trial)) (i : ℕ) (f : Job → TrialState) → bare (with_state ts i f) ≡ bare ts
bare_state ts zero f = refl
bare_state ts (suc i) f = at ts i
  where
    at : (ts : List (Option Trial)) (i : ℕ) → bare (with_state ts (suc i) f) ≡ bare ts
    at [] i = refl
    at (None ∷ ts) zero = refl
    at (Some x ∷ ts) zero = refl
    at (x ∷ ts) (suc i) = ap (λ (zs : List (Option Trial)). option_map forgot x ∷ zs) (at ts i)

bare_charges : (ts : List (Option Trial)) → map held_trial (all_held (bare ts)) ≡ map held_trial (all_held ts)
bare_charges [] = refl
bare_charges (None ∷ ts) = bare_charges ts
bare_charges (Some x ∷ ts) = ap (λ (hs : List Holding). held_trial x ∷ hs) (bare_charges ts)

pub bare_users : (n : ℕ) (ts : List (Option Trial))
    → count_by (λ t. t.module_number == n) (all_held (bare ts)) ≡ count_by (λ t. t.module_number == n) (all_held ts)
bare_users n ts = from 0 ts
  where
    from : (k : ℕ) (ts : List (Option Trial)) → fold (λ a t. a + cond (t.module_number == n) 1 0) k (all_held (bare ts))
        ≡ fold (λ a t. a + cond (t.module_number == n) 1 0) k (all_held ts)
    from k [] = refl
    from k (None ∷ ts) = from k ts
    from k (Some x ∷ ts) = from (k + cond (x.module_number == n) 1 0) ts

-- a desk of which nobody knows how far its trials are, with a history
abbrev pub quiet : Desk → List Entry → Desk
quiet d h = record { edition = d.edition; modules = d.modules; trials = bare d.trials; history = h }

module _ (d : Desk) (h : List Entry) (same : calls_in h ≡ calls_in d.history) where
  pub quiet_usage : usage_in (quiet d h) ≡ usage_in d
  quiet_usage = (λ i. usage_of (map held_module (all_held d.modules) ++ bare_charges d.trials i) (same i))

  pub quiet_passed : (k : Charge) → passed_by (quiet d h) k ≡ passed_by d k
  quiet_passed k = ap (λ (u : Usage). option_map code_of (refusal_of d.edition u k)) quiet_usage
