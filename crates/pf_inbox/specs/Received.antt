-- What a `receive` over code does with the messages of its process.
use Rattle.std.specs.Prelude.{◌≡◌, ℕ, List, Option, Some, None, MatchOption}
use Rattle.pf_terms.specs.Value.{Value}
use Rattle.pf_terms.specs.Term.{value_of}
use Rattle.pf_terms.specs.declared.term.Term.{Term}
use Rattle.pf_syntax.specs.Tree.{Tree, Clauses}
use Rattle.pf_heap.specs.Heap.{Cell}
use Rattle.pf_model.specs.Module.{Module}
use Rattle.pf_model.specs.Contraction.{Becomes}
use Rattle.pf_model.specs.Context.{Frame}
use Rattle.pf_model.specs.Receive.{selected, taking}
use Rattle.pf_code.specs.Points.{inside}
use Rattle.pf_code.specs.Sound.{Code}
use Rattle.pf_code.specs.Machine.{State}
use Rattle.pf_code.specs.Simulation.{IsAt, IsAtReceive, IsSoundFor}
use Rattle.pf_loop.specs.Run.{IsCode, IsIn}
use Rattle.pf_loop.specs.declared.machine.Machine.{Machine}
use Rattle.pf_loop.specs.declared.setting.Setting.{Setting}
use Rattle.pf_turns.specs.declared.process.Process.{Process}
use Rattle.pf_turns.specs.declared.status.Status.TheVariants as status
use Rattle.pf_inbox.specs.InboxView.{InboxView}
use Rattle.pf_inbox.specs.Tests.{FitsNoneBefore}

-- a process over sound code is at a `receive` of these clauses in these frames, whose message goes into a register
pub record IsReceiving (h : List Cell) (x : Setting) (k : Process) (m : Module) (code : Code) (entries : List ℕ) (d : ℕ)
    (s : State) (fs : List Frame) (ks : Clauses) : Type 0 where
  pub runs : IsCode h x m code entries
  pub sound : IsSoundFor m code entries
  pub waits : k.status ≡ status.Receives d
  pub is_in : IsIn h k.machine s
  pub at : IsAtReceive m x.own code d s fs ks

-- at whatever `receive` a process is, by sound code of whatever module
abbrev pub AtEachReceive : List Cell → Setting → Process → (Module → Code → ℕ → List Frame → Clauses → Type 0) → Type 0
AtEachReceive h x k P = (m : Module) (code : Code) (entries : List ℕ) (d : ℕ) (s : State) (fs : List Frame)
    (ks : Clauses) → IsReceiving h x k m code entries d s fs ks → P m code d fs ks

-- the oldest message that a clause picks is taken, and the process is in the body of that clause
pub record TakesOldest (m : Module) (own : ℕ) (code : Code) (fs : List Frame) (ks : Clauses) (b b' : InboxView)
    (h : List Cell) (k : Machine) (message : Value) : Type 0 where
  pub body : Tree
  pub taken : selected m own ks b.messages ≡ Some (taking body message b'.messages)
  pub state : State
  pub is_in : IsIn h k state
  pub at : IsAt m own code state (inside fs (Becomes body))

-- there is none, as each message was tested, and the process waits as before
pub record TakesNone (m : Module) (own : ℕ) (code : Code) (d : ℕ) (fs : List Frame) (ks : Clauses) (b b' : InboxView)
    (h : List Cell) (k : Machine) : Type 0 where
  pub none : selected m own ks b.messages ≡ None
  pub kept : b'.messages ≡ b.messages
  pub passed : FitsNoneBefore m own ks b'
  pub state : State
  pub is_in : IsIn h k state
  pub at : IsAtReceive m own code d state fs ks

abbrev pub Receives : Module → ℕ → Code → ℕ → List Frame → Clauses → InboxView → InboxView → List Cell → Machine
    → Option Term → Type 0
Receives m own code d fs ks b b' h k o = MatchOption o (TakesNone m own code d fs ks b b' h k)
    (λ t. TakesOldest m own code fs ks b b' h k (value_of t))
