-- What is known of variables while a clause is walked, against the sets of the rules.
use Rattle.std.specs.Prelude.{◌≡◌, ℕ, Bool, true, false, List, ◌++◌, map, slice_index_or}
use Rattle.pf_syntax.specs.Scope.{Scope, has, binding}
use Rattle.pf_static_check.specs.declared.variable_states.Status.{Status}
use Rattle.pf_static_check.specs.declared.variable_states.Status.TheVariants.{New, Bound, Unsafe}
use Rattle.pf_static_check.specs.declared.variable_states.VariableStates.{VariableStates}

-- what is known of a variable: nothing past the end
abbrev pub status_of : VariableStates → ℕ → Status
status_of s x = slice_index_or s.states.items x New

-- the names of the trail
abbrev pub trail_of : VariableStates → List ℕ
trail_of s = map (λ a. a.0) s.trail.items

abbrev pub is_bound : Status → Bool
is_bound Bound = true
is_bound _ = false

abbrev pub is_marked_unsafe : Status → Bool
is_marked_unsafe Unsafe = true
is_marked_unsafe _ = false

abbrev pub is_marked : Status → Bool
is_marked New = false
is_marked _ = true

-- what is known is what the rules see
pub record KnowsScope (s : VariableStates) (g : Scope) : Type 0 where
  pub bound : (x : ℕ) → has g.bound x ≡ is_bound (status_of s x)
  pub unsafe : (x : ℕ) → has g.unsafe x ≡ is_marked_unsafe (status_of s x)

-- one variable was new and is marked, or is as it was
abbrev pub StatusMoved : Bool → Status → Status → Type 0
StatusMoved true a b = (is_marked a ≡ false) × (is_marked b ≡ true)
StatusMoved false a b = b ≡ a

-- the trail grew by the names that are no longer new, and of no other variable something else is known
pub record Trails (old new : VariableStates) : Type 0 where
  pub names : List ℕ
  pub longer : trail_of new ≡ trail_of old ++ names
  pub moved : (x : ℕ) → StatusMoved (has names x) (status_of old x) (status_of new x)

-- a variable that was new is bound now, and nothing else is changed
pub record Binds (old new : VariableStates) (y : ℕ) : Type 0 where
  pub trails : Trails old new
  pub is_there : (g : Scope) → KnowsScope old g → KnowsScope new (binding g y)
