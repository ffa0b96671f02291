-- Runs stay within what is closed.
use Rattle.std.proofs.Common.{◌≡◌, ◌∙◌, refl, ap, subst, ℕ, zero, suc, ◌+◌, ◌-◌, ◌≤◌, true, false, not, ◌||◌}
use Rattle.std.proofs.Common.{List, [], ◌∷◌, Some, slice_get, Contains, map, arith}
use Rattle.std.proofs.Math.Nat.{sub-zero}
use Rattle.std.proofs.lemmas.Option.{slice_get_within, get_or_from_slice_get}
use Rattle.pf_model.specs.Choosers.{Chooser, choose_by_picks}
use Rattle.pf_model.specs.Module.{Module}
use Rattle.pf_model.specs.Context.{ProcessState, running, waiting, ending, ended, returned, failed}
use Rattle.pf_model.specs.Configuration.{Core, Configuration, of}
use Rattle.pf_model.specs.Labels.{Label}
use Rattle.pf_model.specs.Properties.{Outcome, Property, returns, returns_true, no_crash, no_deadlock, within_limit}
use Rattle.pf_model.specs.Properties.{never, holds, verdict, is_crash, is_sent_as, some_label}
use Rattle.pf_model.specs.Runs.{Transition, Goes, stays, more, Stops, enabled, next_choice, next_state, start}
use Rattle.pf_model.specs.Meaning.{outcome_of, outcome_of_root, outcome_with, picks_of}
use Rattle.pf_model.specs.Shrinking.{by_schedule}
use Rattle.pf_model.specs.declared.report.Actor.{Actor}
use Rattle.pf_explore_laws.specs.Places.{breaks, HoldsByAll, IsClosed, ClosedPlacesHold}
use Rattle.pf_explore_laws.specs.Places.{BoundedConfigurationsHold, ClosedPlacesHoldOfJobs}

-- a label that doesn't break a property makes no difference to it
pub holds_after : (p : Property) (l : Label) (ls : List Label) (o : Outcome) → breaks p l ≡ false
    → holds p ls o ≡ true → holds p (l ∷ ls) o ≡ true
holds_after returns l ls o e h = h
holds_after returns_true l ls o e h = h
holds_after no_crash l ls o e h = ap (λ b. not (b || some_label is_crash ls)) e ∙ h
holds_after no_deadlock l ls o e h = h
holds_after within_limit l ls o e h = h
holds_after (never p) l ls o e h = ap (λ b. not (b || some_label (is_sent_as p) ls)) e ∙ h

chosen_is_enabled : (xs : List Actor) (i : ℕ) (x : Actor) → slice_get xs i ≡ Some x → Contains xs x
chosen_is_enabled xs i x e = (i, slice_get_within xs i x e, get_or_from_slice_get xs i x x e)

module _ (m : Module) (p : Property) (N : ℕ → Configuration → Type 0) (closed : IsClosed m p N) where
  within : {S : Type 0} (choose : Chooser S) (s : S) (n : ℕ) (c : Configuration) (ts : List Transition)
      (d : Configuration) (k : ℕ) (t : S)
      → Goes m choose s n c ts d k t → N n c → Stops (n - k) d → holds p (map (λ t. t.label) ts) (outcome_of d) ≡ true
  within choose _ _ _ _ _ _ _ (stays s n c) here stop = closed.stops n c here (subst (λ k. Stops k c) (sub-zero n) stop)
  within choose _ _ _ _ _ _ _ (more s n c x q ts d k t chosen pass rest) here stop =
      let next = closed.goes n c x q here (chosen_is_enabled (enabled c) (next_choice choose s c) x chosen) pass in
      let left : suc n - (q.used + k) ≡ suc n - q.used - k = omega arith in
      holds_after p q.label (map (λ t. t.label) ts) (outcome_of d) next.0
      (within choose (next_state choose s c) (suc n - q.used) q.after ts d k t rest next.1
      (subst (λ j. Stops j d) left stop))

  pub all_hold : (S : Type 0) (n : ℕ) (c : Configuration) → N n c → HoldsByAll S m p n c
  all_hold S n c here choose s ts d k t run = within choose s n c ts d k t run.goes here run.stops

pub closed_places_hold : (S : Type 0) → ClosedPlacesHold S
closed_places_hold S m p places closed n c here = all_hold m p (λ j d. Contains places (j, d)) closed S n c here

-- there, with as many steps left as all runs from there may take
abbrev Fits : List (Configuration × ℕ) → ℕ → Configuration → Type 0
Fits bounds n c = (b : ℕ) × (b ≤ n) × Contains bounds (c, b)

pub bounded_configurations_hold : (S : Type 0) → BoundedConfigurationsHold S
bounded_configurations_hold S m p bounds bounded n c b there few =
    all_hold m p (Fits bounds) closed S n c (b, few, there)
  where
    closed : IsClosed m p (Fits bounds)
    closed =
        record {
          goes = λ k d x q here may pass.
              let next = bounded.goes k d here.0 x q here.2 here.1 may pass in
              let fits = next.1.1 in
              let bound = here.1 in
              (next.0, (next.1.0, omega arith, next.1.2));
          stops = λ k d here stop. bounded.stops k d here.0 here.2 here.1 stop;
        }

-- ---- jobs

-- there is a verdict of each outcome that a run has
judged_root : (p : Property) (ls : List Label) (s : ProcessState) (ws : List ℕ)
    → verdict p ls (outcome_of_root s ws) ≡ Some (holds p ls (outcome_of_root s ws))
judged_root p ls (running t) ws = refl
judged_root p ls (waiting t) ws = refl
judged_root p ls (ending r) ws = refl
judged_root p ls (ended (returned v)) ws = refl
judged_root p ls (ended (failed r)) ws = refl

judged_with : (p : Property) (ls : List Label) (xs : List Actor) (c : Core)
    → verdict p ls (outcome_with xs c) ≡ Some (holds p ls (outcome_with xs c))
judged_with p ls [] c = judged_root p ls (of c zero).state _
judged_with p ls (x ∷ xs) c = refl

pub judged : (p : Property) (ts : List Transition) (d : Configuration)
    → holds p (map (λ t. t.label) ts) (outcome_of d) ≡ true
    → verdict p (map (λ t. t.label) ts) (outcome_of d) ≡ Some true
judged p ts d good = judged_with p (map (λ t. t.label) ts) (enabled d) d.core ∙ ap (λ b. Some b) good

pub closed_places_hold_of_jobs : ClosedPlacesHoldOfJobs
closed_places_hold_of_jobs j places closed first ns r means =
    let good = closed_places_hold ℕ j.code j.property places closed j.limit (start j.root j.edition) first
    (choose_by_picks (picks_of (by_schedule j ns).choices)) zero means.transitions means.last r.steps
    means.state means.run in
    ap (λ x. x.verdict) means.report ∙ judged j.property means.transitions means.last good
