-- What holds by each schedule holds by each chooser, since the choices of a run are a schedule of it.
use Rattle.std.proofs.Common.{◌≡◌, refl, sym, ap, subst, ℕ, zero, suc, ◌≤◌, ◌==◌, Bool, true, false}
use Rattle.std.proofs.Common.{if◌then◌else◌, List, ◌∷◌, map, arith}
use Rattle.pf_model.specs.Choosers.{Chooser, choose_by_picks}
use Rattle.pf_model.specs.Module.{Module}
use Rattle.pf_model.specs.Configuration.{Configuration}
use Rattle.pf_model.specs.Runs.{Transition, transition, Goes, stays, more, start, enabled, next_choice}
use Rattle.pf_model.specs.Meaning.{Event, event_of_transition, picks_of}
use Rattle.pf_model.specs.Shrinking.{by_schedule}
use Rattle.pf_model.proofs.Meanings.{replay_of_choosers}
use Rattle.pf_model.proofs.Turned.{pass_uses}
use Rattle.pf_explore_laws.specs.Schedules.{deviations, NoChooserFails, NoSeedFails, NoChooserFailsWithin}
use Rattle.pf_explore_laws.specs.Schedules.{AllIsWithinTheLimit}

pub no_chooser_fails : (S : Type 0) → NoChooserFails S
no_chooser_fails S j each choose s r means =
    each (map (λ e. e.choice) r.events) r (replay_of_choosers S choose s j r means)

pub no_seed_fails : NoSeedFails
no_seed_fails j each cs r means =
    each (map (λ e. e.choice) r.events) r
    (replay_of_choosers ℕ (choose_by_picks (picks_of cs)) zero (record j { choices = cs }) r means)

pub no_chooser_fails_within : (S : Type 0) → NoChooserFailsWithin S
no_chooser_fails_within S k j within choose s r means few =
    within (map (λ e. e.choice) r.events) r (replay_of_choosers S choose s j r means) few

-- ---- runs are no longer than their limits

deviations_by : (e : Event) (es : List Event) (b : Bool) → (e.choice == 0) ≡ b
    → deviations (e ∷ es) ≤ suc (deviations es)
deviations_by e es true q =
    subst (λ b. (if b then deviations es else suc (deviations es)) ≤ suc (deviations es)) (sym q) (omega arith)
deviations_by e es false q =
    subst (λ b. (if b then deviations es else suc (deviations es)) ≤ suc (deviations es)) (sym q) (omega arith)

few_deviations : {S : Type 0} (m : Module) (choose : Chooser S) (s : S) (n : ℕ) (c : Configuration)
    (ts : List Transition) (d : Configuration) (k : ℕ) (t : S)
    → Goes m choose s n c ts d k t → deviations (map event_of_transition ts) ≤ n
few_deviations m choose _ _ _ _ _ _ _ (stays s n c) = omega arith
few_deviations m choose _ _ _ _ _ _ _ (more s n c x p ts d k t e pass r) =
    let u = pass_uses m n c x p pass in
    let rest = few_deviations m choose _ _ _ ts d k t r in
    let e = event_of_transition (transition (next_choice choose s c) (enabled c) x p) in
    let one = deviations_by e (map event_of_transition ts) (e.choice == 0) refl in
    omega arith

pub all_is_within_the_limit : AllIsWithinTheLimit
all_is_within_the_limit j within ns r means =
    let few = few_deviations j.code (choose_by_picks (picks_of (by_schedule j ns).choices)) zero j.limit
    (start j.root j.edition) means.transitions means.last r.steps means.state means.run.goes in
    within ns r means (subst (λ es. deviations es ≤ j.limit) (sym (ap (λ x. x.events) means.report)) few)
