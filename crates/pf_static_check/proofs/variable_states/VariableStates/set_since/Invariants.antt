use Rattle.std.proofs.Common.{◌≡◌, ℕ, drop}
use Rattle.std.specs.Prelude.{if◌then◌else◌}
use Rattle.pf_syntax.specs.Scope.{has}
use Rattle.pf_static_check.specs.Marks.{trail_of, status_of}
use Rattle.pf_static_check.proofs.variable_states.VariableStates.set_since.Given as goal

-- the names that are left are set over those that were
abbrev pub invariant-loop-index : goal.invariant-loop-index
invariant-loop-index l = record {
  trail : trail_of l.self ≡ trail_of l.fn.self;
  states : (x : ℕ) → (if has (drop l.index (trail_of l.self)) x then l.status else status_of l.self x)
      ≡ (if has (drop l.fn.start (trail_of l.fn.self)) x then l.status else status_of l.fn.self x);
}
