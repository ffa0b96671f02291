-- The least seed that leaks, part by part, and what is known of two parts of the seeds.
use Rattle.std.proofs.Common.{◌≡◌, ◌⊎◌, ◌+◌, ◌<◌, ◌≤◌, ℕ, true, false, Option, Some, None, refl, sym, ap, ◌∙◌, arith}
use Rattle.std.specs.Prelude.{is_some, option_map}
use Rattle.std.proofs.lemmas.Bool.{le-ltb, lt-ltb}
use Rattle.pf_model.specs.Meaning.{Job, Report}
use Rattle.pf_sched.specs.Waiting.{waiting_in}
use Rattle.pf_strategy.specs.Strategies.{MeansBySeed}
use Rattle.pf_strategy.specs.declared.strategy.Strategy.{Strategy}
use Rattle.pf_hunt.specs.Hunts.{FirstLeaking, NoneIs, fails, first, is_leak, looked_to, none_is}
use Rattle.pf_hunt.specs.Known.{FindsFailure}
use Rattle.pf_hunt.specs.Views.{failure_of, failures_of, leak_of}
use Rattle.pf_hunt.specs.declared.failure.FailingSeed.{FailingSeed}
use Rattle.pf_hunt.specs.declared.failure.Searched.{Searched}
use Rattle.pf_hunt.specs.declared.leak.Leak.{Leak}
use Rattle.pf_hunt.specs.declared.seeded.Hunt.{Hunt}
use Rattle.pf_hunt.proofs.Firsts.{first_there, in_first, in_second, looks_past, no_seeds, none_at, none_of, one_first}

-- a seed of a leak, with how many wait
abbrev pub reported_leak : ℕ × Report → ℕ × ℕ
reported_leak p = (p.0, waiting_in p.1)

module _ (w : Strategy) (j : Job) where
  -- ---- one seed

  pub leaks_at : (s n : ℕ) (r : Report) → MeansBySeed w j s r → n ≡ waiting_in r → 0 < n
      → FirstLeaking w j s (s + 1) (Some (s, n))
  leaks_at s n r m e some = (
    Some (s, r),
    first s r (omega arith) (omega arith) m (lt-ltb 0 (waiting_in r) (omega arith))
        (no_seeds is_leak w j s s (omega arith)),
    ap (λ k. Some (s, k)) e,
  )

  pub leaks_not : (s n : ℕ) (r : Report) → MeansBySeed w j s r → n ≡ waiting_in r → n ≤ 0
      → FirstLeaking w j s (s + 1) None
  leaks_not s n r m e none = (None, none_is (none_at is_leak w j s r m (le-ltb 0 (waiting_in r) (omega arith))), refl)

  pub no_leak : (a b : ℕ) → b ≤ a → FirstLeaking w j a b None
  no_leak a b l = (None, none_is (no_seeds is_leak w j a b l), refl)

  -- ---- two parts

  pub leaks_in_first : (a c b : ℕ) (l : ℕ × ℕ) → c ≤ b → FirstLeaking w j a c (Some l) → FirstLeaking w j a b (Some l)
  leaks_in_first a c b l k (None, h, e) = absurd (cc)
  leaks_in_first a c b l k (Some p, h, e) = (Some p, in_first is_leak w j a c b p k h, e)

  pub leaks_in_second : (a c b : ℕ) (o : Option (ℕ × ℕ)) → a ≤ c → FirstLeaking w j a c None → FirstLeaking w j c b o
      → FirstLeaking w j a b o
  leaks_in_second a c b o k (Some p, h, e) after = absurd (cc)
  leaks_in_second a c b o k (None, h, e) after =
      (after.0, in_second is_leak w j a c b after.0 k (none_of is_leak w j a c h) after.1, after.2)

  -- to where the seeds end
  pub leaks_there : (a b s : ℕ) (o : Option (ℕ × ℕ)) → FirstLeaking w j a s o → (s ≡ a) ⊎ (s ≤ b) → b ≤ s
      → FirstLeaking w j a b o
  leaks_there a b s o h at l = (h.0, first_there is_leak w j a b s h.0 h.1 at l, h.2)

  pub one_leak : (a b : ℕ) (x y : Option (ℕ × ℕ)) → FirstLeaking w j a b x → FirstLeaking w j a b y → x ≡ y
  one_leak a b x y h k = h.2 ∙ ap (option_map reported_leak) (one_first is_leak w j a b h.0 k.0 h.1 k.1) ∙ sym k.2

-- ---- what is known of seeds

abbrev pub searched : Option FailingSeed → Option Leak → ℕ → Searched
searched x l b = record { failure = x; leak = l; end = b }

module _ (h : Hunt) where
  -- of two parts, of which none fails in the first
  pub finds_both : (a c b : ℕ) (x : Option FailingSeed) (m n : Option Leak) (e : ℕ) → a ≤ c → c ≤ b
      → NoneIs (fails (failures_of h)) h.strategy h.job.asked a c
      → ((d : ℕ) → c ≤ d → FirstLeaking h.strategy h.job.asked c d (option_map leak_of m)
      → FirstLeaking h.strategy h.job.asked a d (option_map leak_of n))
      → FindsFailure h c b (searched x m e) → FindsFailure h a b (searched x n b)
  finds_both a c b x m n e le le' none on found =
      record {
        failure = in_second (fails (failures_of h)) h.strategy h.job.asked a c b (option_map failure_of x) le
            none found.failure;
        leak =
            on (looked_to b (option_map failure_of x))
            (looks_past (fails (failures_of h)) h.strategy h.job.asked c b (option_map failure_of x) le' found.failure)
            found.leak;
        end = refl;
      }

  -- what fails in the first part is the first of all
  pub finds_further : (a c b : ℕ) (x : Option FailingSeed) (l : Option Leak) (e : ℕ) → c ≤ b → is_some x ≡ true
      → FindsFailure h a c (searched x l e)
      → FindsFailure h a b (searched x l b)
  finds_further a c b None l e le some found = absurd (cc)
  finds_further a c b (Some f) l e le some found =
      record {
        failure = in_first (fails (failures_of h)) h.strategy h.job.asked a c b (failure_of f) le found.failure;
        leak =
            found.leak;
        end = refl;
      }

  -- where none fails
  pub none_fails_in : (a b : ℕ) (x : Option FailingSeed) (l : Option Leak) (e : ℕ) → is_some x ≡ false
      → FindsFailure h a b (searched x l e)
      → NoneIs (fails (failures_of h)) h.strategy h.job.asked a b × FirstLeaking h.strategy h.job.asked a b
      (option_map leak_of l)
  none_fails_in a b None l e none found = (
    none_of (fails (failures_of h)) h.strategy h.job.asked a b
        found.failure,
    found.leak,
  )
  none_fails_in a b (Some f) l e none found = absurd (cc)
