-- A run that fails by a further property is that of the job with this property by the same seed.
use Rattle.std.proofs.Common.{◌≡◌, ℕ, Bool, true, false, List, Option, Some, None, get_or, refl, sym, ap, ◌∙◌, subst}
use Rattle.std.specs.Prelude.{if◌then◌else◌, map, slice_get}
use Rattle.std.proofs.lemmas.Option.{slice_get-get_or}
use Rattle.std.proofs.lemmas.List.Quantifiers.{position-Some}
use Rattle.pf_model.specs.Choosers.{Chooser, choose_by_picks}
use Rattle.pf_model.specs.Labels.{Label}
use Rattle.pf_model.specs.Meaning.{Job, MeansBy, Report, event_of_transition, outcome_of, picks_of}
use Rattle.pf_model.specs.Properties.{Property, verdict}
use Rattle.pf_model.specs.Shrinking.{is_failure}
use Rattle.pf_property.specs.Views.{labels_in}
use Rattle.pf_property.proofs.Shown.{labels_of_run}
use Rattle.pf_request.specs.Job.{reseeded}
use Rattle.pf_strategy.specs.Last.{keep_named}
use Rattle.pf_strategy.specs.Priorities.{first}
use Rattle.pf_strategy.specs.Runs.{choose_by_priorities}
use Rattle.pf_strategy.specs.Strategies.{MeansBySampling, MeansBySeed}
use Rattle.pf_strategy.specs.declared.strategy.Sampling.{Sampling}
use Rattle.pf_strategy.specs.declared.strategy.Sampling.TheVariants.{Uniform, Priorities}
use Rattle.pf_strategy.specs.declared.strategy.Strategy.{Strategy}
use Rattle.pf_verdicts.specs.Causes.{first_failed, further_cause}
use Rattle.pf_verdicts.specs.Causes.{fails_by}
use Rattle.pf_verdicts.specs.Laws.{FailureRepeats}
use Rattle.pf_verdicts.specs.declared.cause.FailureCause.TheVariants as cause

-- ---- the same run is judged by another property

abbrev with_property : Job → Property → Job
with_property j p = record j { property = p }

abbrev pub judged_with : Property → Report → Report
judged_with p r = record r { verdict = verdict p (labels_in r.events) r.outcome }

means_with : {S : Type 0} (choose : Chooser S) (s : S) (j : Job) (p : Property) (r : Report) → MeansBy choose s j r
    → MeansBy choose s (with_property j p) (judged_with p r)
means_with choose s j p r h =
    let ls = labels_of_run (map event_of_transition h.transitions) h.transitions refl in
    record {
      transitions = h.transitions;
      last = h.last;
      state = h.state;
      run = h.run;
      report =
          ap (judged_with p) h.report
          ∙ ap (λ (xs : List Label). record {
            events = map event_of_transition h.transitions;
            outcome = outcome_of h.last;
            steps = r.steps;
            verdict = verdict p xs (outcome_of h.last);
          }) ls;
    }

means_by_sampling : (w : Sampling) (l : Option ℕ) (j : Job) (p : Property) (s : ℕ) (r : Report)
    → MeansBySampling w l j s r → MeansBySampling w l (with_property j p) s (judged_with p r)
means_by_sampling Uniform l j p s r h =
    means_with (keep_named l (choose_by_picks (picks_of (reseeded j.choices s)))) 0 j p r h
means_by_sampling Priorities l j p s r h = means_with (keep_named l choose_by_priorities) (first s) j p r h

-- a job by another property means the same run
pub of_watched : (w : Strategy) (j k : Job) (p : Property) (s : ℕ) (r : Report) → k ≡ with_property j p
    → MeansBySeed w k s r → MeansBySeed w j s (judged_with j.property r)
of_watched w j k p s r same h =
    let back : with_property k j.property ≡ j = ap (λ (x : Job). with_property x j.property) same in
    subst (λ (x : Job). MeansBySeed w x s (judged_with j.property r)) back
    (means_by_sampling w.sampling w.last k j.property s r h)

own_verdict : {S : Type 0} (choose : Chooser S) (s : S) (j : Job) (r : Report) → MeansBy choose s j r
    → r.verdict ≡ verdict j.property (labels_in r.events) r.outcome
own_verdict choose s j r h =
    let ls = labels_of_run (map event_of_transition h.transitions) h.transitions refl in
    ap (λ (x : Report). x.verdict) h.report
    ∙ (ap (λ (xs : List Label). verdict j.property xs (outcome_of h.last)) (sym ls)
    ∙ sym (ap (λ (x : Report). verdict j.property (labels_in x.events) x.outcome) h.report))

verdict_by_sampling : (w : Sampling) (l : Option ℕ) (j : Job) (s : ℕ) (r : Report) → MeansBySampling w l j s r
    → r.verdict ≡ verdict j.property (labels_in r.events) r.outcome
verdict_by_sampling Uniform l j s r h =
    own_verdict (keep_named l (choose_by_picks (picks_of (reseeded j.choices s)))) 0 j r h
verdict_by_sampling Priorities l j s r h = own_verdict (keep_named l choose_by_priorities) (first s) j r h

-- the verdict of a run by a seed is what its job's property says of its report
pub verdict_by_seed : (w : Strategy) (j : Job) (s : ℕ) (r : Report) → MeansBySeed w j s r
    → r.verdict ≡ verdict j.property (labels_in r.events) r.outcome
verdict_by_seed w j s r h = verdict_by_sampling w.sampling w.last j s r h

-- ---- what fails

failed_is : (v : Option Bool) → is_failure v ≡ true → v ≡ Some false
failed_is None e = absurd cc
failed_is (Some true) e = absurd cc
failed_is (Some false) e = refl

which : (o : Option ℕ) (i : ℕ) → further_cause o ≡ cause.Further i → o ≡ Some i
which None i e = absurd cc
which (Some k) i e = cc

further_failed : (b : Bool) (o : Option ℕ) (i : ℕ)
    → (if b then cause.Property else further_cause o) ≡ cause.Further i → o ≡ Some i
further_failed true o i e = absurd cc
further_failed false o i e = which o i e

fails_there : (ps : List Property) (r : Report) (i : ℕ) (p : Property) → first_failed ps r ≡ Some i
    → slice_get ps i ≡ Some p → fails_by r p ≡ true
fails_there ps r i p first at =
    let found = position-Some (fails_by r) ps i p first in
    let read = slice_get-get_or ps i p found.0 in
    let same : get_or ps i p ≡ p = cc in
    ap (fails_by r) (sym same) ∙ found.1

pub failure_repeats : FailureRepeats
failure_repeats w j s r ps i p means because at =
    let first = further_failed (is_failure r.verdict) (first_failed ps r) i because in
    let fails = failed_is (verdict p (labels_in r.events) r.outcome) (fails_there ps r i p first at) in
    subst (λ v. MeansBySampling w.sampling w.last (with_property j p) s (record r { verdict = v })) fails
    (means_by_sampling w.sampling w.last j p s r means)
