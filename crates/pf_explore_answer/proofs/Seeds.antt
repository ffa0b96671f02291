-- What a hunt says of schedules.
use Rattle.std.proofs.Common.{◌≡◌, ℕ, zero, List, Bool, true, false, ◌||◌, ◌&&◌, Option, Some, None, refl, subst}
use Rattle.std.specs.Prelude.{IfSome, option_map}
use Rattle.pf_model.specs.Meaning.{Job, Report}
use Rattle.pf_model.specs.Shrinking.{is_failure}
use Rattle.pf_model.specs.Choosers.{choose_by_picks}
use Rattle.pf_model.specs.Meaning.{picks_of}
use Rattle.pf_request.specs.Job.{reseeded}
use Rattle.pf_strategy.proofs.Meant.{replay_of_seeds}
use Rattle.pf_strategy.specs.Noted.{MeansBySchedule}
use Rattle.pf_strategy.specs.Priorities as priorities
use Rattle.pf_strategy.specs.Runs.{choose_by_priorities}
use Rattle.pf_strategy.specs.Strategies.{MeansBySampling}
use Rattle.pf_strategy.specs.declared.strategy.Sampling.{Sampling}
use Rattle.pf_strategy.specs.declared.strategy.Sampling.TheVariants.{Uniform, Priorities}
use Rattle.pf_explore_laws.proofs.Last.{some_schedule}
use Rattle.pf_explore_laws.proofs.Parting.{some_choices}
use Rattle.pf_strategy.specs.declared.strategy.Strategy.{Strategy}
use Rattle.pf_hunt.specs.Hunts.{Failures, FirstFailing, first, is_leak, none_is, property_alone}
use Rattle.pf_hunt.specs.Views.{failure_of}
use Rattle.pf_hunt.specs.declared.failure.FailingSeed.{FailingSeed}
use Rattle.pf_explore.specs.Failing.{IsFailingLast}

-- where leaks are no failures a run fails by its property
verdict_fails : (v : Option Bool) (leaks : Bool) → (is_failure v || (false && leaks)) ≡ true → v ≡ Some false
verdict_fails (Some false) leaks e = refl
verdict_fails (Some true) leaks e = absurd cc
verdict_fails None leaks e = absurd cc

-- what a job means by a seed it means by a schedule, and by the same last process
scheduled : (w : Sampling) (p : Option ℕ) (j : Job) (s : ℕ) (r : Report) → MeansBySampling w p j s r
    → (ns : List ℕ) × MeansBySchedule p j ns r
scheduled Uniform p j s r means = some_schedule _ p j (choose_by_picks (picks_of (reseeded j.choices s))) zero r means
scheduled Priorities p j s r means = some_schedule _ p j choose_by_priorities (priorities.first s) r means

-- the least seed that fails, fails by the choices of its run as a schedule
failing_by : (w : Strategy) (j : Job) (a b : ℕ) (x : Option (ℕ × Report)) → FirstFailing property_alone w j a b x
    → IfSome x (λ p. IsFailingLast w.last j p.1)
failing_by w j a b _ (none_is h) = tt
failing_by w j a b _ (first s r above below means so least) =
    let h = scheduled w.sampling w.last j s r means in
    let makes = some_choices w.last j h.0 r h.1 in
    ((replay_of_seeds w j s r means, verdict_fails r.verdict (is_leak r) so), (h.0, makes.0, makes.1))

pub failing_seed : (j : Job) (a b : ℕ) (f : Failures) (w : Strategy) (x : Option (ℕ × Report)) → f ≡ property_alone
    → FirstFailing f w j a b x → IfSome x (λ p. IsFailingLast w.last j p.1)
failing_seed j a b f w x alone h = failing_by w j a b x (subst (λ g. FirstFailing g w j a b x) alone h)

-- of the code's own
pub of_found : (p : Option ℕ) (j : Job) (o : Option FailingSeed)
    → IfSome (option_map failure_of o) (λ f. IsFailingLast p j f.1)
    → IfSome o (λ f. IsFailingLast p j (failure_of f).1)
of_found p j None h = tt
of_found p j (Some f) h = h
