-- Runs that deviate seldom stay within what is closed.
use Rattle.std.proofs.Common.{◌≡◌, ◌∙◌, refl, ap, subst, ℕ, zero, suc, ◌+◌, ◌-◌, ◌≤◌, ◌==◌, Bool, true, false}
use Rattle.std.proofs.Common.{if◌then◌else◌, List, ◌∷◌, Some, slice_get, Contains, map, arith}
use Rattle.std.proofs.Math.Nat.{sub-zero}
use Rattle.pf_model.specs.Choosers.{Chooser, choose_by_picks}
use Rattle.pf_model.specs.Module.{Module}
use Rattle.pf_model.specs.Configuration.{Configuration}
use Rattle.pf_model.specs.Labels.{Label}
use Rattle.pf_model.specs.Properties.{Property, holds}
use Rattle.pf_model.specs.Runs.{Passed, Passes, Transition, Goes, stays, more, Stops, enabled, next_choice, next_state}
use Rattle.pf_model.specs.Runs.{start}
use Rattle.pf_model.specs.Meaning.{outcome_of, event_of_transition, picks_of}
use Rattle.pf_model.specs.Shrinking.{by_schedule}
use Rattle.pf_model.specs.declared.report.Actor.{Actor}
use Rattle.pf_explore_laws.specs.Schedules.{deviations}
use Rattle.pf_explore_laws.specs.Within.{IsClosedWithin, ClosedPlacesHoldWithin, ClosedPlacesHoldWithinOfJobs}
use Rattle.pf_explore_laws.proofs.Closed.{holds_after, judged}

module _ (m : Module) (p : Property) (N : ℕ → ℕ → Configuration → Type 0) (closed : IsClosedWithin m p N) where
  -- a transition by choice i, and of what follows e deviations
  step : (k n i e : ℕ) (c : Configuration) (x : Actor) (q : Passed) (ls : List Label) (d : Configuration)
      → N k (suc n) c → slice_get (enabled c) i ≡ Some x
      → Passes m (suc n) c x q
      → ((k : ℕ) → N k (suc n - q.used) q.after → e ≤ k → holds p ls (outcome_of d) ≡ true)
      → (b : Bool) → (i == 0) ≡ b → (if b then e else suc e) ≤ k → holds p (q.label ∷ ls) (outcome_of d) ≡ true
  step k n i e c x q ls d here at pass rest true is few =
      let next = closed.first k n i c x q here is at pass in
      holds_after p q.label ls (outcome_of d) next.0 (rest k next.1 few)
  step zero n i e c x q ls d here at pass rest false is few = absurd (omega arith)
  step (suc k) n i e c x q ls d here at pass rest false is few =
      let next = closed.other k n i c x q here is at pass in
      holds_after p q.label ls (outcome_of d) next.0 (rest k next.1 (omega arith))

  within : {S : Type 0} (choose : Chooser S) (k : ℕ) (s : S) (n : ℕ) (c : Configuration) (ts : List Transition)
      (d : Configuration) (j : ℕ) (t : S)
      → Goes m choose s n c ts d j t → N k n c → Stops (n - j) d → deviations (map event_of_transition ts) ≤ k
      → holds p (map (λ t. t.label) ts) (outcome_of d) ≡ true
  within choose k _ _ _ _ _ _ _ (stays s n c) here stop few =
      closed.stops k n c here (subst (λ j. Stops j c) (sub-zero n) stop)
  within choose k _ _ _ _ _ _ _ (more s n c x q ts d j t chosen pass rest) here stop few =
      let left : suc n - (q.used + j) ≡ suc n - q.used - j = omega arith in
      step k n (next_choice choose s c) (deviations (map event_of_transition ts)) c x q (map (λ t. t.label) ts) d here
      chosen pass
      (λ l there less. within choose l (next_state choose s c) (suc n - q.used) q.after ts d j t rest there
      (subst (λ y. Stops y d) left stop) less) (next_choice choose s c == 0) refl few

pub closed_places_hold_within : (S : Type 0) → ClosedPlacesHoldWithin S
closed_places_hold_within S m p places closed k n c here choose s ts d j t run few =
    within m p (λ k n c. Contains places (k, (n, c))) closed choose k s n c ts d j t run.goes here run.stops few

pub closed_places_hold_within_of_jobs : ClosedPlacesHoldWithinOfJobs
closed_places_hold_within_of_jobs j k places closed first ns r means few =
    let less = subst (λ es. deviations es ≤ k) (ap (λ x. x.events) means.report) few in
    let good = closed_places_hold_within ℕ j.code j.property places closed k j.limit (start j.root j.edition) first
    (choose_by_picks (picks_of (by_schedule j ns).choices)) zero means.transitions means.last r.steps
    means.state means.run less in
    ap (λ x. x.verdict) means.report ∙ judged j.property means.transitions means.last good
