-- More steps that are left make no difference to a transition that they didn't cut.
use Rattle.std.specs.Prelude.{◌≡◌, ℕ, ◌≤◌}
use Rattle.pf_model.specs.Module.{Module}
use Rattle.pf_model.specs.Configuration.{Configuration}
use Rattle.pf_model.specs.Labels.{cut}
use Rattle.pf_model.specs.Runs.{Passed, Passes}
use Rattle.pf_model.specs.declared.report.Actor.{Actor}

-- with n steps left or with more, an actor does the same, if its label isn't `cut`
abbrev pub MoreStepsChangeNothing : Type 0
MoreStepsChangeNothing = (m : Module) (n more : ℕ) (c : Configuration) (x : Actor) (q : Passed) → n ≤ more
    → (q.label ≡ cut → ⊥) → Passes m n c x q → Passes m more c x q
