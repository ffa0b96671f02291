-- How many held trials use each module.
use Rattle.std.specs.Prelude.{◌≡◌, ◌==◌, ℕ, suc, List, [], length, Option, IfSome, IsSome, All, slice_get, count_by}
use Rattle.pf_check.specs.Module.{ReadModule}
use Rattle.pf_desks.specs.Desk.{Trial, Desk, held_at, all_held}

-- a desk of an edition that holds these and noted nothing
abbrev pub holding : (edition : ℕ) → List (Option ReadModule) → List (Option Trial) → Desk
holding edition modules trials = record { edition = edition; modules = modules; trials = trials; history = [] }

-- a count for each module number: that of the held trials that use it, each of which uses a module that is held
pub record CountUsers (users : List ℕ) (modules : List (Option ReadModule))
    (trials : List (Option Trial)) : Type 0 where
  pub counted : length users ≡ length modules
  pub exact : (i : ℕ) → IfSome (slice_get users i) (λ k. k ≡ count_by (λ t. t.module_number == suc i) (all_held trials))
  pub used : All (λ t. IsSome (held_at modules t.module_number)) (all_held trials)
