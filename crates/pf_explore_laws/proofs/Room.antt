-- More steps that are left make no difference to a transition that they didn't cut.
use Rattle.std.proofs.Common.{◌≡◌, refl, ℕ, zero, suc, ◌≤◌, arith}
use Rattle.pf_model.specs.Module.{Module}
use Rattle.pf_model.specs.Context.{ProcessState}
use Rattle.pf_model.specs.Configuration.{Core, of}
use Rattle.pf_model.specs.Labels.{cut}
use Rattle.pf_model.specs.Deliveries.{Deed}
use Rattle.pf_model.specs.Turns.{Turn, cut_running, cut_ending, end, contraction, act}
use Rattle.pf_model.specs.Runs.{turn, delivery}
use Rattle.pf_explore_laws.specs.Room.{MoreStepsChangeNothing}

module _ (m : Module) (a : ℕ) (c : Core) where
  longer : (n : ℕ) (s : ProcessState) (d : Deed) (k more : ℕ) → Turn m a c n s d k → n ≤ more → (d.label ≡ cut → ⊥)
      → Turn m a c more s d k
  longer _ _ _ _ more (cut_running t) le whole = absurd (whole refl)
  longer _ _ _ _ more (cut_ending r) le whole = absurd (whole refl)
  longer _ _ _ _ zero (end n r) le whole = absurd (omega arith)
  longer _ _ _ _ (suc j) (end n r) le whole = end j r
  longer _ _ _ _ zero (contraction n k t s d step rest) le whole = absurd (omega arith)
  longer _ _ _ _ (suc j) (contraction n k t s d step rest) le whole =
      contraction j k t s d step (longer n s d k j rest (omega arith) whole)
  longer _ _ _ _ zero (act n t x d step e) le whole = absurd (omega arith)
  longer _ _ _ _ (suc j) (act n t x d step e) le whole = act j t x d step e

pub more_steps_change_nothing : MoreStepsChangeNothing
more_steps_change_nothing m n more c _ _ le whole (turn a k d t) =
    turn a k d (longer m a c.core n (of c.core a).state d k more t le whole)
more_steps_change_nothing m n more c _ _ le whole (delivery a b s cs e) = delivery a b s cs e
