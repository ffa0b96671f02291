-- Code of guards: it leads to one place with the value of a test, or where the guard holds, and else to the other.
use Rattle.std.specs.Prelude.{ℕ, Bool, true, false, List, Option, Some, None, option_and_then, if◌then◌else◌}
use Rattle.pf_terms.specs.Value.{Value, Values, same}
use Rattle.pf_syntax.specs.Tree.{Tree, Trees, Guard}
use Rattle.pf_patterns.specs.Substitution.{sub, sub_trees, sub_guard}
use Rattle.pf_ops.specs.Guards.{worth, all_worth, is_true, all_true, guard_holds, unless_decided, truth_of}
use Rattle.pf_model.specs.Module.{Module, name_in}
use Rattle.pf_model.specs.Context.{Frame, Move}
use Rattle.pf_code.specs.Registers.{Registers, reg, row, scope_in, DependsBelow}
use Rattle.pf_code.specs.Points.{Point}
use Rattle.pf_code.specs.Sound.{Code, Carries, IsSoundAt}
use Rattle.pf_code.specs.declared.instruction.Operation.{Operation}
use Rattle.pf_compile_patterns.specs.declared.scope.Scope.{Scope}
use Rattle.pf_compile_patterns.specs.declared.scope.Exits.{Exits}
use Rattle.pf_compile_patterns.specs.Scopes.{model_in, slots_in}
use Rattle.pf_compile_patterns.specs.Tests.{chosen}

-- a value goes into a register, whatever goes on with it there
abbrev pub Loads : (Registers → Value) → ℕ → ℕ → ℕ → ℕ → List Frame → Code → Type 0
Loads value free next pc own outer later = (m : Module) (go : Value → Point) → ((v : Value) → DependsBelow free (go v))
    → IsSoundAt m own outer later next (λ r. go (reg r free) r)
    → IsSoundAt m own outer later pc (λ r. go (value r) r)

-- code at the first exit goes on with what is in registers, and that at the other without; here what is x leads to both
abbrev pub LeadsBy : {X : Type 0} → Module → Exits → ℕ → (ℕ → Registers → X) → (ℕ → Registers → Option X) → ℕ
    → List Frame → Code → Type 0
LeadsBy {X = X} m to pc got x own outer later = (go : X → Point) (o : Point) → ((v : X) → DependsBelow to.free (go v))
    → DependsBelow to.free o → IsSoundAt m own outer later to.next (λ r. go (got to.free r) r)
    → IsSoundAt m own outer later to.otherwise o
    → IsSoundAt m own outer later pc (λ r. chosen (x own r) (λ v. go v r) (o r))

-- the value of a tree as a test, and those of several
abbrev pub worth_at : Scope → Tree → ℕ → Registers → Option Value
worth_at s t own r = worth (name_in (model_in s)) own (sub (scope_in (slots_in s) r) t)

abbrev pub all_worth_at : Scope → Trees → ℕ → Registers → Option Values
all_worth_at s ts own r = all_worth (name_in (model_in s)) own (sub_trees (scope_in (slots_in s) r) ts)

-- code that gets the value of a test into the free register
abbrev pub Worths : Scope → Tree → Exits → ℕ → ℕ → List Frame → Code → Type 0
Worths s t to pc = LeadsBy (model_in s) to pc (λ d r. reg r d) (worth_at s t)

-- code that gets those of several into a row of n
abbrev pub WorthsAll : Scope → Trees → ℕ → Exits → ℕ → ℕ → List Frame → Code → Type 0
WorthsAll s ts n to pc = LeadsBy (model_in s) to pc (λ d r. row r d n) (all_worth_at s ts)

-- code that gets the values of several into a row of n, and then makes an operation, which has this result of the row
abbrev pub Applies : Scope → Trees → ℕ → Operation → Exits → ℕ → ℕ → List Frame → Code → Type 0
Applies s ts n operation to pc own outer later = (result : Values → Option Value) (go : Value → Point)
    (o : Point) → ((v : Value) → DependsBelow to.free (go v)) → DependsBelow to.free o
    → Carries (model_in s) own outer later.constants operation to.otherwise
    (λ r. chosen (result (row r to.free n)) (λ v. go v r) (o r)) (λ r. go (reg r to.free) r) o
    → IsSoundAt (model_in s) own outer later to.next (λ r. go (reg r to.free) r)
    → IsSoundAt (model_in s) own outer later to.otherwise o
    → IsSoundAt (model_in s) own outer later pc
    (λ r. chosen (option_and_then result (all_worth_at s ts own r)) (λ v. go v r) (o r))

-- the value of two trees of which the left one may decide
abbrev pub decided_at : Scope → Bool → Tree → Tree → ℕ → Registers → Option Value
decided_at s b t u own r =
    option_and_then (λ v. unless_decided b v (truth_of v) (worth_at s u own r)) (worth_at s t own r)

abbrev pub Decides : Scope → Bool → Tree → Tree → Exits → ℕ → ℕ → List Frame → Code → Type 0
Decides s b t u to pc = LeadsBy (model_in s) to pc (λ d r. reg r d) (decided_at s b t u)

-- where the left side decides, where it doesn't, and where it is no truth
abbrev pub by_truth : Bool → Option Bool → Move → Move → Move → Move
by_truth b None left right o = o
by_truth true (Some true) left right o = left
by_truth true (Some false) left right o = right
by_truth false (Some true) left right o = right
by_truth false (Some false) left right o = left

-- one test leads to one exit or the other
abbrev pub Tests : Operation → Exits → ℕ → ℕ → List Frame → Code → Type 0
Tests operation to pc own outer later = (m : Module) (p n o : Point)
    → Carries m own outer later.constants operation to.otherwise p n o → IsSoundAt m own outer later to.next n
    → IsSoundAt m own outer later to.otherwise o → IsSoundAt m own outer later pc p

-- code that leads on where this is true
abbrev pub Asks : Exits → ℕ → (Module → ℕ → Registers → Bool) → ℕ → List Frame → Code → Type 0
Asks to pc holds own outer later = (m : Module) (n o : Point) → IsSoundAt m own outer later to.next n
    → IsSoundAt m own outer later to.otherwise o
    → IsSoundAt m own outer later pc (λ r. if holds m own r then n r else o r)

-- the same, where both exits depend only on registers that aren't free
abbrev pub AsksBelow : Module → Exits → ℕ → (ℕ → Registers → Bool) → ℕ → List Frame → Code → Type 0
AsksBelow m to pc holds own outer later = (n o : Point) → DependsBelow to.free n → DependsBelow to.free o
    → IsSoundAt m own outer later to.next n → IsSoundAt m own outer later to.otherwise o
    → IsSoundAt m own outer later pc (λ r. if holds own r then n r else o r)

abbrev pub holds_at : Scope → Guard → ℕ → Registers → Bool
holds_at s g own r = guard_holds (name_in (model_in s)) own (sub_guard (scope_in (slots_in s) r) g)

abbrev pub is_true_at : Scope → Tree → ℕ → Registers → Bool
is_true_at s t own r = is_true (worth_at s t own r)

abbrev pub all_true_at : Scope → Trees → ℕ → Registers → Bool
all_true_at s ts own r = all_true (name_in (model_in s)) own (sub_trees (scope_in (slots_in s) r) ts)

-- whether a register has this value
abbrev pub has_at : ℕ → Value → Module → ℕ → Registers → Bool
has_at register v m own r = same (reg r register) v

-- the truth in the free register leads to one of three places
abbrev pub TellsTruth : Bool → ℕ → Exits → ℕ → ℕ → List Frame → Code → Type 0
TellsTruth decides other to pc own outer later = (m : Module) (left right o : Point)
    → IsSoundAt m own outer later to.next left → IsSoundAt m own outer later other right
    → IsSoundAt m own outer later to.otherwise o
    → IsSoundAt m own outer later pc (λ r. by_truth decides (truth_of (reg r to.free)) (left r) (right r) (o r))
