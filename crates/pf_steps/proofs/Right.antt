-- The profile of the language is right.
use Rattle.std.proofs.Common.{◌≡◌, ℕ, suc, ◌+◌, Bool, List, length, Option, Some, None, refl, sym, ap, ◌∙◌}
use Rattle.pf_check.specs.Reads.{ReadOutcome, accepted, refused, Reads, SameOutcome}
use Rattle.pf_check.proofs.AnyOutcome.{any_outcome}
use Rattle.pf_check.proofs.Same.{same_outcome}
use Rattle.pf_model.specs.Meaning.{Job, Report}
use Rattle.pf_model.specs.Shrinking.{Result, report, shrunk_to, IsResult, plain, smaller, no_failure, ReportsFailures}
use Rattle.pf_model.specs.Shrinking.{by_schedule, shrunk}
use Rattle.pf_desks.specs.Desk.{readable, faulty}
use Rattle.pf_model.specs.Evaluation.{evaluated}
use Rattle.pf_model.proofs.Meanings.{evaluation_is_the_meaning, only_evaluated}
use Rattle.pf_model.specs.Properties.{Property}
use Rattle.pf_property.specs.Texts.{IsPropertyOf}
use Rattle.pf_property.proofs.AnyProperty.{any_property}
use Rattle.pf_property.proofs.One.{at_most_one}
use Rattle.pf_shrink.specs.Tried.{tried}
use Rattle.pf_sched.specs.Events.{RunsHave, no_runs, and_run, HasEvents, of_run, of_shrinking}
use Rattle.pf_book.specs.Profile as book
use Rattle.pf_book.specs.Profile.{reading_from}
use Rattle.pf_pool.specs.Profile.{IsRight}
use Rattle.pf_steps.specs.Profile.{profile, run_profile, fails_by, shrunk_so, job_result, events_by, event_count}

same_reading : (o p : ReadOutcome) → SameOutcome o p → reading_from o ≡ reading_from p
same_reading (accepted n a f) (accepted m b g) h =
    λ i. readable (record { name = h.0 i; atoms = h.1 i; functions = h.2 i })
same_reading (accepted n a f) (refused m y) h = absurd h
same_reading (refused n x) (accepted m b g) h = absurd h
same_reading (refused n x) (refused m y) h = ap faulty h.0

reading_is : (bytes : List ℕ) (o : ReadOutcome) → Reads bytes o → profile.reading bytes ≡ reading_from o
unfolding profile
reading_is bytes o h = let any = any_outcome bytes in same_reading any.0 o (same_outcome bytes any.0 o any.1 h)

same_property : (names : List (List ℕ)) (bytes : List ℕ) (o p : Option Property) → IsPropertyOf names bytes o
    → IsPropertyOf names bytes p → o ≡ p
same_property names bytes (Some q) (Some r) h k = ap Some (at_most_one names bytes q r h k)
same_property names bytes (Some q) None h k = absurd (k q h)
same_property names bytes None (Some r) h k = absurd (h r k)
same_property names bytes None None h k = refl

property_is : (names : List (List ℕ)) (bytes : List ℕ) (o : Option Property) → IsPropertyOf names bytes o
    → profile.property names bytes ≡ o
unfolding profile
property_is names bytes o h = let any = any_property names bytes in same_property names bytes any.0 o any.1 h

-- a function that says which schedules fail says what the one report of each does
same_failures : (j : Job) (fails : List ℕ → Bool) → ReportsFailures j fails → fails_by j ≡ fails
same_failures j fails reports = λ i ns. sym (reports ns (evaluated (by_schedule j ns))
    (evaluation_is_the_meaning (by_schedule j ns) tt)) i

meaning_is : (j : Job) (r : Result) → IsResult j r → profile.meaning j ≡ r
unfolding profile
meaning_is j _ (plain r one_run means) =
    ap (λ (n : ℕ). job_result j n j.choices) one_run ∙ ap report (sym (only_evaluated j r means))
meaning_is j _ (smaller k ns fails f r runs choices reports found means) =
    (λ i. job_result j (runs i) (choices i))
    ∙ ap (λ (g : List ℕ → Bool). shrunk_so j (shrunk g (suc k) ns)) (same_failures j fails reports)
    ∙ ap (shrunk_so j) found
    ∙ ap (shrunk_to f) (sym (only_evaluated (by_schedule j f.schedule) r means))
meaning_is j _ (no_failure k ns fails runs choices reports none) =
    (λ i. job_result j (runs i) (choices i))
    ∙ ap (λ (g : List ℕ → Bool). shrunk_so j (shrunk g (suc k) ns)) (same_failures j fails reports)
    ∙ ap (shrunk_so j) none

desks_are : book.IsRight profile
desks_are = record { reads = reading_is; properties = property_is; means = meaning_is }

-- ---- events

runs_have : (j : Job) (nss : List (List ℕ)) (n : ℕ) → RunsHave j nss n → events_by j nss ≡ n
runs_have j _ _ no_runs = refl
runs_have j _ _ (and_run ns nss r n means rest) =
    ap (λ (s : Report). length s.events + events_by j nss) (sym (only_evaluated (by_schedule j ns) r means))
    ∙ ap (λ (m : ℕ). length r.events + m) (runs_have j nss n rest)

job_has : (j : Job) (n : ℕ) → HasEvents j n → event_count j j.runs j.choices ≡ n
job_has j _ (of_run r one_run means) =
    ap (λ (k : ℕ). event_count j k j.choices) one_run ∙ ap (λ (s : Report). length s.events)
    (sym (only_evaluated j r means))
job_has j _ (of_shrinking k ns fails n runs choices reports have) =
    (λ i. event_count j (runs i) (choices i))
    ∙ ap (λ (g : List ℕ → Bool). events_by j (tried g (suc k) ns)) (same_failures j fails reports)
    ∙ runs_have j (tried fails (suc k) ns) n have

pub right : IsRight run_profile
unfolding run_profile
right = record { desks = desks_are; events = job_has }
