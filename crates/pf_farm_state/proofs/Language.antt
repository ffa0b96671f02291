-- The language has a profile that is right.
use Rattle.std.proofs.Common.{◌≡◌, ℕ, zero, suc, Bool, List, Option, Some, None, refl, sym, ap, ◌∙◌}
use Rattle.pf_check.specs.Reads.{ReadOutcome, accepted, refused, SameOutcome}
use Rattle.pf_check.proofs.AnyOutcome.{any_outcome}
use Rattle.pf_check.proofs.Same.{same_outcome}
use Rattle.pf_model.specs.Evaluation.{evaluated}
use Rattle.pf_model.specs.Meaning.{Job, Choices, seed, schedule, weighted_seed}
use Rattle.pf_model.specs.Properties.{Property}
use Rattle.pf_model.specs.Shrinking.{Found, Result, report, shrunk_to, IsResult, plain, smaller, no_failure}
use Rattle.pf_model.specs.Shrinking.{nothing_fails, ReportsFailures, by_schedule, is_failure, shrunk}
use Rattle.pf_model.proofs.Meanings.{evaluation_is_the_meaning, only_evaluated}
use Rattle.pf_property.specs.Texts.{IsPropertyOf}
use Rattle.pf_property.proofs.AnyProperty.{any_property}
use Rattle.pf_property.proofs.One.{at_most_one}
use Rattle.pf_desks.specs.Desk.{Profile, readable, faulty}
use Rattle.pf_book.specs.Profile.{reading_from, IsRight, ForRight}

-- ---- sources and properties

same_reading : (o p : ReadOutcome) → SameOutcome o p → reading_from o ≡ reading_from p
same_reading (accepted n a f) (accepted m b g) h =
    λ i. readable (record { name = h.0 i; atoms = h.1 i; functions = h.2 i })
same_reading (accepted n a f) (refused m y) h = absurd h
same_reading (refused n x) (accepted m b g) h = absurd h
same_reading (refused n x) (refused m y) h = ap faulty h.0

same_property : (names : List (List ℕ)) (bytes : List ℕ) (o p : Option Property) → IsPropertyOf names bytes o
    → IsPropertyOf names bytes p → o ≡ p
same_property names bytes (Some q) (Some r) h k = ap Some (at_most_one names bytes q r h k)
same_property names bytes (Some q) None h k = absurd (k q h)
same_property names bytes None (Some r) h k = absurd (h r k)
same_property names bytes None None h k = refl

-- ---- jobs

abbrev fails_by : Job → List ℕ → Bool
fails_by j ns = is_failure (evaluated (by_schedule j ns)).verdict

abbrev shrunk_so : Job → Option Found → Result
shrunk_so j None = nothing_fails
shrunk_so j (Some f) = shrunk_to f (evaluated (by_schedule j f.schedule))

abbrev leads_to : Job → (runs : ℕ) → Choices → Result
leads_to j zero cs = report (evaluated j)
leads_to j (suc k) (schedule ns) = shrunk_so j (shrunk (fails_by j) (suc k) ns)
leads_to j (suc k) (seed n) = nothing_fails
leads_to j (suc k) (weighted_seed n process channel) = nothing_fails

-- a function that says which schedules fail says what the one report of each does
same_failures : (j : Job) (fails : List ℕ → Bool) → ReportsFailures j fails → fails_by j ≡ fails
same_failures j fails reports = λ i ns. sym (reports ns (evaluated (by_schedule j ns))
    (evaluation_is_the_meaning (by_schedule j ns) tt)) i

meaning_is : (j : Job) (r : Result) → IsResult j r → leads_to j j.runs j.choices ≡ r
meaning_is j _ (plain r one_run means) =
    ap (λ (n : ℕ). leads_to j n j.choices) one_run ∙ ap report (sym (only_evaluated j r means))
meaning_is j _ (smaller k ns fails f r runs choices reports found means) =
    (λ i. leads_to j (runs i) (choices i))
    ∙ ap (λ (g : List ℕ → Bool). shrunk_so j (shrunk g (suc k) ns)) (same_failures j fails reports)
    ∙ ap (shrunk_so j) found
    ∙ ap (shrunk_to f) (sym (only_evaluated (by_schedule j f.schedule) r means))
meaning_is j _ (no_failure k ns fails runs choices reports none) =
    (λ i. leads_to j (runs i) (choices i))
    ∙ ap (λ (g : List ℕ → Bool). shrunk_so j (shrunk g (suc k) ns)) (same_failures j fails reports)
    ∙ ap (shrunk_so j) none

-- ---- the profile

unfoldable language : Profile
language = record {
  reading = λ bytes. reading_from (any_outcome bytes).0;
  property = λ names bytes. (any_property names bytes).0;
  meaning = λ j. leads_to j j.runs j.choices;
}

language_is_right : IsRight language
unfolding language
language_is_right = record {
  reads = λ bytes o h. let any = any_outcome bytes in same_reading any.0 o (same_outcome bytes any.0 o any.1 h);
  properties = λ names bytes o h. let any = any_property names bytes in same_property names bytes any.0 o any.1 h;
  means = meaning_is;
}

-- what holds for each profile that is right holds, where it isn't about a profile
pub for_one : {T : Type 0} → ForRight (λ _. T) → T
for_one h = h language language_is_right
