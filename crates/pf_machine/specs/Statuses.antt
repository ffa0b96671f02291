-- Which status a process over code has, and what a turn of it is.
use Rattle.std.specs.Prelude.{◌≡◌, ℕ, List}
use Rattle.pf_terms.specs.Term.{value_of}
use Rattle.pf_syntax.specs.Tree.{Clauses, receive}
use Rattle.pf_heap.specs.Heap.{Cell}
use Rattle.pf_model.specs.Module.{Module}
use Rattle.pf_model.specs.Contraction.{Act, Becomes}
use Rattle.pf_model.specs.Context.{Frame, ProcessState, goes_on, asks}
use Rattle.pf_code.specs.Points.{inside}
use Rattle.pf_code.specs.Sound.{Code}
use Rattle.pf_code.specs.Machine.{State}
use Rattle.pf_code.specs.Simulation.{IsAtReceive}
use Rattle.pf_loop.specs.View.{AreWords}
use Rattle.pf_loop.specs.Run.{IsIn}
use Rattle.pf_loop.specs.declared.machine.Machine.{Machine}
use Rattle.pf_stepper.specs.MachineView.{MachineStatus, spent, goes, asking, over}
use Rattle.pf_stepper.specs.Turns.{MachineRan}
use Rattle.pf_stepper.specs.declared.machine.Move.{Move}
use Rattle.pf_stepper.specs.declared.machine.Move.TheVariants as v
use Rattle.pf_turns.specs.Turns.{IsStatusOf, Represents}
use Rattle.pf_turns.specs.declared.process.Process.{Process}
use Rattle.pf_turns.specs.declared.status.Status.{Status}
use Rattle.pf_turns.specs.declared.status.Status.TheVariants as status
use Rattle.pf_turns.specs.declared.status.Stop.{Stop}
use Rattle.pf_turns.specs.declared.status.Stop.TheVariants as stop
use Rattle.pf_inbox.specs.InboxView.{InboxView}
use Rattle.pf_inbox.specs.Received.{TakesNone, TakesOldest}
use Rattle.pf_inbox.specs.Tests.{FitsNoneBefore}

-- the words of a process are of this heap
abbrev pub IsOver : List Cell → Process → Type 0
IsOver h k = AreWords h k.machine.stack.words.items × IsStatusOf h k.status

-- a process with this inbox goes on from a state: no clause of the `receive` at which it waits picks a message before
-- the mark, and where it waits at none the mark is at the front
abbrev pub GoesOnWith : Module → ℕ → Code → List Cell → Machine → Status → InboxView → ProcessState → Type 0
GoesOnWith m own code h k (status.Receives d) b u = (s : State) × (fs : List Frame) × (ks : Clauses) × IsIn h k s
    × IsAtReceive m own code d s fs ks × (goes_on u ≡ inside fs (Becomes (receive ks))) × FitsNoneBefore m own ks b
GoesOnWith m own code h k x b u = Represents m own code h k x (goes_on u) × (b.mark ≡ 0)

-- a process with this inbox has this status
abbrev pub IsAtStatus : Module → ℕ → Code → List Cell → Process → InboxView → MachineStatus → Type 0
IsAtStatus m own code h k b spent = ⊥
IsAtStatus m own code h k b (goes u) = GoesOnWith m own code h k.machine k.status b u
IsAtStatus m own code h k b (asking fs) = (a : Act) × Represents m own code h k.machine k.status (asks fs a)
    × (b.mark ≡ 0)
IsAtStatus m own code h k b over = Unit {0}

-- a process with this inbox went on from a state, up to this move
pub record Ran (m : Module) (own : ℕ) (code : Code) (left : ℕ) (u : ProcessState) (b : InboxView) (did : Move)
    (used : ℕ) (h : List Cell) (k : Process) (b' : InboxView) : Type 0 where
  pub standing : MachineStatus
  pub ran : MachineRan m own left u b.messages did standing used b'.messages
  pub is_at : IsAtStatus m own code h k b' standing

-- ---- parts of a turn

-- what a process does with its messages at a `receive`: it takes one, or waits
abbrev pub TakesOrWaits : Module → ℕ → Code → ℕ → List Frame → Clauses → InboxView → InboxView → List Cell → Process
    → Move → Type 0
TakesOrWaits m own code d fs ks b b' h k (v.Take t) =
    TakesOldest m own code fs ks b b' h k.machine (value_of t) × (k.status ≡ status.Goes) × (b'.mark ≡ 0)
TakesOrWaits m own code d fs ks b b' h k v.Wait =
    TakesNone m own code d fs ks b b' h k.machine × (k.status ≡ status.Receives d)
TakesOrWaits m own code d fs ks b b' h k x = ⊥

-- a process waits at no `receive`
abbrev pub IsElsewhere : Status → Type 0
IsElsewhere (status.Receives d) = ⊥
IsElsewhere x = Unit {0}

-- a stop at which no message is looked for
abbrev pub LooksForNone : Stop → Type 0
LooksForNone (stop.Receives d) = ⊥
LooksForNone x = Unit {0}
