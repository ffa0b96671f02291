-- A job has one result and one number of events: a run since it means one report, a shrinking since one function says
-- which schedules fail.
use Rattle.std.proofs.Common.{◌≡◌, ◌⊎◌, inl, inr, ℕ, zero, suc, Bool, List, Option, Some, None, length, refl, sym, ap}
use Rattle.std.proofs.Common.{◌∙◌}
use Rattle.pf_choice.specs.Chosen.{IsProfile}
use Rattle.pf_model.specs.Meaning as model
use Rattle.pf_model.specs.Meaning.{Choices, Means, seed, schedule, weighted_seed, profile_of}
use Rattle.pf_model.specs.Evaluation.{evaluated}
use Rattle.pf_model.specs.Shrinking.{Found, Result, report, shrunk_to, nothing_fails, IsResult, plain, smaller}
use Rattle.pf_model.specs.Shrinking.{no_failure, by_schedule, shrunk}
use Rattle.pf_model.proofs.Meanings.{one_meaning, only_evaluated}
use Rattle.pf_shrink.specs.Tried.{tried}
use Rattle.pf_sched.specs.Events.{RunsHave, HasEvents, of_run, of_shrinking}
use Rattle.pf_sched.specs.One.{OneResult, OneCount, SomeResult, SomeCount}
use Rattle.pf_sched.proofs.Asking.{is_profile}
use Rattle.pf_sched.proofs.Hunted.{has_events}
use Rattle.pf_sched.proofs.Tries.{fails_in, reports_failures, only_fails, only_so_many, so_many}

-- ---- results

-- the result of a shrinking that ends so
abbrev shrunk_so : model.Job → Option Found → Result
shrunk_so j None = nothing_fails
shrunk_so j (Some f) = shrunk_to f (evaluated (by_schedule j f.schedule))

-- the result of a job that has one; of what isn't shrunk it is left open
abbrev leads_to : model.Job → (runs : ℕ) → Choices → Result
leads_to j zero cs = report (evaluated j)
leads_to j (suc k) (schedule ns) = shrunk_so j (shrunk (fails_in j) (suc k) ns)
leads_to j (suc k) (seed n) = nothing_fails
leads_to j (suc k) (weighted_seed n process channel) = nothing_fails

comes_so : (j : model.Job) (r : Result) → IsResult j r → leads_to j j.runs j.choices ≡ r
comes_so j _ (plain r one_run means) =
    ap (λ (n : ℕ). leads_to j n j.choices) one_run ∙ ap report (sym (only_evaluated j r means))
comes_so j _ (smaller k ns fails f r runs choices reports found means) =
    (λ i. leads_to j (runs i) (choices i))
    ∙ ap (λ (g : List ℕ → Bool). shrunk_so j (shrunk g (suc k) ns))
    (only_fails j (fails_in j) fails (reports_failures j) reports)
    ∙ ap (shrunk_so j) found
    ∙ ap (shrunk_to f) (sym (only_evaluated (by_schedule j f.schedule) r means))
comes_so j _ (no_failure k ns fails runs choices reports none) =
    (λ i. leads_to j (runs i) (choices i))
    ∙ ap (λ (g : List ℕ → Bool). shrunk_so j (shrunk g (suc k) ns))
    (only_fails j (fails_in j) fails (reports_failures j) reports)
    ∙ ap (shrunk_so j) none

pub one_result : OneResult
one_result j r s h k = sym (comes_so j r h) ∙ comes_so j s k

module _ (j : model.Job) where
  plainly : IsProfile (profile_of j.choices) → j.runs ≡ zero → (r : Result) × IsResult j r
  plainly weighs one_run = let m = one_meaning j weighs in (report m.0, plain m.0 one_run m.1)

  shrinking : (k : ℕ) (ns : List ℕ) → j.runs ≡ suc k → j.choices ≡ schedule ns → (f : Option Found)
      → shrunk (fails_in j) (suc k) ns ≡ f
      → (r : Result) × IsResult j r
  shrinking k ns runs choices None none = (
    nothing_fails,
    no_failure k ns (fails_in j) runs choices (reports_failures j) none,
  )
  shrinking k ns runs choices (Some f) found =
      let m = one_meaning (by_schedule j f.schedule) tt in
      (shrunk_to f m.0, smaller k ns (fails_in j) f m.0 runs choices (reports_failures j) found m.1)

  some_of : IsProfile (profile_of j.choices) → (j.runs ≡ zero) ⊎ ((ns : List ℕ) × (j.choices ≡ schedule ns))
      → (k : ℕ) → j.runs ≡ k
      → (r : Result) × IsResult j r
  some_of weighs kept zero runs = plainly weighs runs
  some_of weighs (inl one_run) (suc k) runs = plainly weighs one_run
  some_of weighs (inr s) (suc k) runs = shrinking k s.0 runs s.1 (shrunk (fails_in j) (suc k) s.0) refl

pub some_result : SomeResult
some_result j valid = some_of j.asked (is_profile j.asked.choices valid.weighs) valid.shrinks j.asked.runs refl

-- ---- numbers of events

-- how many events a job has that has some number of them
abbrev counts_to : model.Job → (runs : ℕ) → Choices → ℕ
counts_to j zero cs = length (evaluated j).events
counts_to j (suc k) (schedule ns) = (so_many j (tried (fails_in j) (suc k) ns)).0
counts_to j (suc k) (seed n) = zero
counts_to j (suc k) (weighted_seed n process channel) = zero

runs_count : (j : model.Job) (nss : List (List ℕ)) (n : ℕ) → RunsHave j nss n → (so_many j nss).0 ≡ n
runs_count j nss n h = let m = so_many j nss in only_so_many j nss m.0 n m.1 h

counts_so : (j : model.Job) (n : ℕ) → HasEvents j n → counts_to j j.runs j.choices ≡ n
counts_so j _ (of_run r one_run means) =
    ap (λ (k : ℕ). counts_to j k j.choices) one_run ∙ ap (λ (s : model.Report). length s.events)
    (sym (only_evaluated j r means))
counts_so j _ (of_shrinking k ns fails n runs choices reports have) =
    (λ i. counts_to j (runs i) (choices i))
    ∙ ap (λ (g : List ℕ → Bool). (so_many j (tried g (suc k) ns)).0)
    (only_fails j (fails_in j) fails (reports_failures j) reports)
    ∙ runs_count j (tried fails (suc k) ns) n have

pub one_count : OneCount
one_count j n m h k = sym (counts_so j n h) ∙ counts_so j m k

pub some_count : SomeCount
some_count j valid = has_events j valid
