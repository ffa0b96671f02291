-- Code of expressions: it evaluates a tree in any frames, and its value goes on.
use Rattle.std.specs.Prelude.{◌≡◌, ◌+◌, ℕ, Bool, true, false, List, [], Some, None}
use Rattle.pf_terms.specs.Value.{Value, Values, atom, count}
use Rattle.pf_syntax.specs.Pattern.{Patterns}
use Rattle.pf_syntax.specs.Tree.{Tree, Trees, Clauses, lit, and_also, or_else, match, bind, call, no_trees, tree}
use Rattle.pf_patterns.specs.Substitution.{sub, sub_trees, sub_clauses, sub_patterns}
use Rattle.pf_ops.specs.Operations.{values_before}
use Rattle.pf_ops.specs.Reasons.{tagged}
use Rattle.pf_model.specs.Module.{Module}
use Rattle.pf_model.specs.Contraction.{Change, Becomes, Raises, contract, picked, matches_left}
use Rattle.pf_model.specs.Context.{Frame, around, after_values, literals, goes_on, running}
use Rattle.pf_code.specs.Registers.{Registers, reg, row, scope_in, DependsBelow}
use Rattle.pf_code.specs.Points.{Point, inside, plug, testing}
use Rattle.pf_code.specs.Sound.{Code, Carries, IsSoundAt, Takes}
use Rattle.pf_code.specs.declared.instruction.Instruction.{Instruction}
use Rattle.pf_code.specs.declared.instruction.Operation.{Operation}
use Rattle.pf_compile.specs.declared.target.After.{After}
use Rattle.pf_compile.specs.declared.target.After.TheVariants as way
use Rattle.pf_compile_patterns.specs.declared.scope.Scope.{Scope}
use Rattle.pf_compile.specs.declared.target.Subject.{Subject}
use Rattle.pf_compile.specs.declared.target.Target.{Target}
use Rattle.pf_compile.specs.Scopes.{begun, register_of}
use Rattle.pf_compile_patterns.specs.Scopes.{model_in, slots_in}
use Rattle.pf_compile_patterns.specs.Tests.{chosen}

-- code goes on with the value of this register in these frames, or they are those of the activation
abbrev pub Continues : Module → ℕ → List Frame → Code → After → ℕ → (Registers → List Frame) → Type 0
Continues m own outer later (way.Place k) into frames =
    IsSoundAt m own outer later k (λ r. inside (frames r) (Becomes (lit (reg r into))))
Continues m own outer later way.Return into frames = (r : Registers) → frames r ≡ outer

-- in all frames whose value goes on from this register, code is sound for this change
abbrev pub Gives : Module → ℕ → After → (ℕ → Registers → Change) → ℕ → ℕ → List Frame → Code → Type 0
Gives m into after change pc own outer later = (frames : Registers → List Frame) → DependsBelow into frames
    → Continues m own outer later after into frames
    → IsSoundAt m own outer later pc (λ r. inside (frames r) (change own r))

-- a tree with the values of the variables in scope in their place
abbrev pub tree_in : Scope → Tree → ℕ → Registers → Change
tree_in s t own r = Becomes (sub (scope_in (slots_in s) r) t)

-- code that evaluates a tree
abbrev pub Evaluates : Scope → Tree → Target → ℕ → ℕ → List Frame → Code → Type 0
Evaluates s t to pc = Gives (model_in s) to.into to.after (tree_in s t) pc

-- a place that goes on with the value of a register, in every module
abbrev pub Lands : ℕ → After → ℕ → ℕ → List Frame → Code → Type 0
Lands into after pc own outer later = (m : Module) → Gives m into after (λ own r. Becomes (lit (reg r into))) pc own
    outer later

-- code that goes on with a value, in every module
abbrev pub GivesValue : ℕ → After → (Registers → Value) → ℕ → ℕ → List Frame → Code → Type 0
GivesValue into after value pc own outer later = (m : Module)
    → Gives m into after (λ own r. Becomes (lit (value r))) pc own outer later

-- code at which each tree that contracts to a raise of this atom is evaluated
abbrev pub StepsToRaise : ℕ → ℕ → ℕ → List Frame → Code → Type 0
StepsToRaise a pc own outer later = (m : Module) (frames : Registers → List Frame) (t : Registers → Tree)
    → ((r : Registers) → contract m own (t r) ≡ Some (Raises (atom a)))
    → IsSoundAt m own outer later pc (λ r. inside (frames r) (Becomes (t r)))

abbrev pub free_of : Operation → Instruction
free_of operation = record { operation = operation; contractions = 0; otherwise = 0 }

abbrev pub step_of : Operation → Instruction
step_of operation = record { operation = operation; contractions = 1; otherwise = 0 }

abbrev pub tree_count : Trees → ℕ
tree_count no_trees = 0
tree_count (tree t ts) = 1 + tree_count ts

-- a tree over so many trees, which are evaluated from left to right, each in its frame
pub record Holder : Type 0 where
  pub size : ℕ
  pub whole : Trees → Tree
  pub frame : Values → Trees → Frame
  pub holds : (vs : Values) (t : Tree) (ts : Trees) → count vs + (1 + tree_count ts) ≡ size
      → around (frame vs ts) t ≡ whole (after_values vs (tree t ts))

-- code that evaluates the n last trees of a holder into a row, after those whose values are done
abbrev pub EvaluatesAll : Scope → Trees → ℕ → ℕ → ℕ → ℕ → ℕ → List Frame → Code → Type 0
EvaluatesAll s ts n free next pc own outer later = (h : Holder) (frames : Registers → List Frame)
    (done : Registers → Values) → DependsBelow free frames → DependsBelow free done
    → ((r : Registers) → count (done r) + n ≡ h.size)
    → IsSoundAt (model_in s) own outer later next
    (λ r. inside (frames r) (Becomes (h.whole (literals (values_before (done r) (row r free n))))))
    → IsSoundAt (model_in s) own outer later pc
    (λ r. inside (frames r) (Becomes (h.whole (after_values (done r) (sub_trees (scope_in (slots_in s) r) ts)))))

-- code that evaluates the trees of a holder into a row, and then makes an operation, by which the holder contracts
abbrev pub Operates : Scope → Trees → ℕ → Operation → Target → ℕ → ℕ → List Frame → Code → Type 0
Operates s ts n operation to pc own outer later = (h : Holder) (change : Values → Change) → h.size ≡ n
    → ((vs : Values) → count vs ≡ n → contract (model_in s) own (h.whole (literals vs)) ≡ Some (change vs))
    → (frames : Registers → List Frame) → DependsBelow to.into frames
    → Continues (model_in s) own outer later to.after to.into frames
    → ((o : Point) → Carries (model_in s) own outer later.constants operation 0
    (λ r. inside (frames r) (change (row r to.free n))) (λ r. inside (frames r) (Becomes (lit (reg r to.into)))) o)
    → IsSoundAt (model_in s) own outer later pc
    (λ r. inside (frames r) (Becomes (h.whole (sub_trees (scope_in (slots_in s) r) ts))))

-- code of clauses on a value or a message: it goes on with the body of the first one that fits, or elsewhere
abbrev pub Picks : Scope → Clauses → Subject → Target → ℕ → ℕ → ℕ → List Frame → Code → Type 0
Picks s ks subject to otherwise pc own outer later = (frames : Registers → List Frame) (o : Point)
    → DependsBelow to.into frames → DependsBelow to.free o
    → Continues (model_in s) own outer later to.after to.into frames
    → IsSoundAt (model_in s) own outer later otherwise o
    → IsSoundAt (model_in s) own outer later pc (λ r. chosen
    (picked (model_in s) own (sub_clauses (scope_in (slots_in s) r) ks) (reg r (register_of subject)))
    (λ b. begun subject r (plug (frames r) b)) (o r))

-- code that leads into the body of a clause that was picked, by which the process becomes a tree
abbrev pub Begins : Subject → ℕ → ℕ → ℕ → List Frame → Code → Type 0
Begins subject body pc own outer later = (m : Module) (t : Registers → Tree)
    → IsSoundAt m own outer later body (λ r. goes_on (running (t r)))
    → IsSoundAt m own outer later pc (λ r. begun subject r (t r))

-- code that passes over the message in a register
abbrev pub Passes : ℕ → ℕ → ℕ → List Frame → Code → Type 0
Passes register pc own outer later = (m : Module)
    → IsSoundAt m own outer later pc (λ r. testing (row r 0 register) None)

-- code that goes on with a match of what is in a register, for the patterns that are left
abbrev pub Matches : Scope → Patterns → ℕ → Target → ℕ → ℕ → List Frame → Code → Type 0
Matches s ps subject to pc = Gives (model_in s) to.into to.after (λ own r. Becomes
    (matches_left (sub_patterns (scope_in (slots_in s) r) ps) (reg r subject))) pc

-- the same before the rest of a body
abbrev pub Binds : Scope → Patterns → Tree → ℕ → Target → ℕ → ℕ → List Frame → Code → Type 0
Binds s ps rest subject to pc = Gives (model_in s) to.into to.after (λ own r. Becomes
    (bind (sub_patterns (scope_in (slots_in s) r) ps) (lit (reg r subject)) (sub (scope_in (slots_in s) r) rest))) pc

-- code at which a call of this function contracts, whose arguments are in a row
abbrev pub Calls : ℕ → ℕ → Target → ℕ → ℕ → List Frame → Code → Type 0
Calls f n to pc own outer later = (m : Module) → Takes m f n
    → Gives m to.into to.after (λ own r. Becomes (call f (literals (row r to.free n)))) pc own outer later

-- code that raises an atom with the value of a register
abbrev pub RaisesWith : ℕ → ℕ → ℕ → ℕ → List Frame → Code → Type 0
RaisesWith a register pc own outer later = (m : Module)
    → IsSoundAt m own outer later pc (λ r. inside [] (Raises (tagged (atom a) (reg r register))))

-- code that raises an atom
abbrev pub RaisesAtom : ℕ → ℕ → ℕ → List Frame → Code → Type 0
RaisesAtom a pc own outer later = (m : Module) → IsSoundAt m own outer later pc (λ r. inside [] (Raises (atom a)))

-- a match of what is in the free register
abbrev pub MatchesFree : Scope → Patterns → Target → ℕ → ℕ → List Frame → Code → Type 0
MatchesFree s ps to pc = Gives (model_in s) to.into to.after (λ own r. Becomes
    (match (sub_patterns (scope_in (slots_in s) r) ps) (lit (reg r to.free)))) pc

-- `orelse` or `andalso`, by the truth that decides
abbrev pub deciding : Bool → Tree → Tree → Tree
deciding true a b = or_else a b
deciding false a b = and_also a b
