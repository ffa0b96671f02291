-- Guards: what their tests are worth in the process of this pid. A guard takes no step, and an error in a test makes
-- its alternative fail.
use Rattle.std.specs.Prelude.{ℕ, Bool, true, false, ◌&&◌, ◌||◌, if◌then◌else◌, List, Option, Some, None, Result, Ok}
use Rattle.std.specs.Prelude.{Err, option_and_then}
use Rattle.pf_terms.specs.Value.{Value, Values, tuple, none, more, same}
use Rattle.pf_terms.specs.Fixed.{true_atom, false_atom}
use Rattle.pf_syntax.specs.Tree as tree
use Rattle.pf_syntax.specs.Tree.{Tree, Trees, Guard, lit, cons, op, neg, and_also, or_else, builtin, no_trees}
use Rattle.pf_syntax.specs.Tree.{no_alternatives, alternative}
use Rattle.pf_ops.specs.Arithmetic.{negated}
use Rattle.pf_ops.specs.Operations.{limited, operated, consed, computed}

-- the value, where there is one
abbrev pub value_in : Result Value Value → Option Value
value_in (Ok v) = Some v
value_in (Err e) = None

-- the truth that a value is
abbrev pub truth_of : Value → Option Bool
truth_of v = if same v true_atom then Some true else (if same v false_atom then Some false else None)

-- the value of the left side where it decides, and else that of the right side
abbrev pub unless_decided : Bool → Value → Option Bool → Option Value → Option Value
unless_decided b v None right = None
unless_decided true v (Some true) right = Some v
unless_decided true v (Some false) right = right
unless_decided false v (Some true) right = right
unless_decided false v (Some false) right = Some v

-- the value of a test, None where it is an error; what isn't allowed in a guard is one
abbrev mutual
  pub worth : (ℕ → List ℕ) → ℕ → Tree → Option Value
  worth name own (lit v) = Some v
  worth name own (tree.tuple ts) = option_and_then (λ vs. value_in (limited (tuple vs))) (all_worth name own ts)
  worth name own (cons a b) = option_and_then (λ v. option_and_then (λ w. value_in (consed v w)) (worth name own b))
      (worth name own a)
  worth name own (op o a b) = option_and_then
      (λ v. option_and_then (λ w. value_in (operated name o v w)) (worth name own b)) (worth name own a)
  worth name own (neg a) = option_and_then (λ v. value_in (negated v)) (worth name own a)
  worth name own (and_also a b) = option_and_then (λ v. unless_decided false v (truth_of v) (worth name own b))
      (worth name own a)
  worth name own (or_else a b) = option_and_then (λ v. unless_decided true v (truth_of v) (worth name own b))
      (worth name own a)
  worth name own (builtin f ts) = option_and_then (λ vs. option_and_then value_in (computed own f vs))
      (all_worth name own ts)
  worth name own t = None

  pub all_worth : (ℕ → List ℕ) → ℕ → Trees → Option Values
  all_worth name own no_trees = Some none
  all_worth name own (tree.tree t ts) = option_and_then
      (λ v. option_and_then (λ vs. Some (more v vs)) (all_worth name own ts)) (worth name own t)

-- whether every test gives `true`
abbrev pub is_true : Option Value → Bool
is_true None = false
is_true (Some v) = same v true_atom

abbrev pub all_true : (ℕ → List ℕ) → ℕ → Trees → Bool
all_true name own no_trees = true
all_true name own (tree.tree t ts) = is_true (worth name own t) && all_true name own ts

-- a guard holds where some alternative does
abbrev pub guard_holds : (ℕ → List ℕ) → ℕ → Guard → Bool
guard_holds name own no_alternatives = false
guard_holds name own (alternative ts g) = all_true name own ts || guard_holds name own g
