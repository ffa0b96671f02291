-- What stays as it is while other processes run, and where a message arrives.
use Rattle.std.specs.Prelude.{◌≡◌, ◌+◌, ℕ, List}
use Rattle.pf_heap.specs.Heap.{Cell, Keeps}
use Rattle.pf_syntax.specs.Tree.{Clauses}
use Rattle.pf_model.specs.Module.{Module}
use Rattle.pf_code.specs.Sound.{Code}
use Rattle.pf_model.specs.Context.{ProcessState}
use Rattle.pf_stepper.specs.MachineView.{MachineStatus, goes}
use Rattle.pf_stepper.specs.declared.machine.Move.{Move}
use Rattle.pf_stepper.specs.declared.machine.Move.TheVariants as v
use Rattle.pf_turns.specs.declared.process.Process.{Process}
use Rattle.pf_inbox.specs.InboxView.{InboxView}
use Rattle.pf_inbox.specs.Tests.{FitsNoneBefore}
use Rattle.pf_machine.specs.Statuses.{IsOver, IsAtStatus, Ran}

-- where every word of a heap keeps its value, a process has the status that it had
abbrev pub StatusStays : Type 0
StatusStays = (m : Module) (own : ℕ) (code : Code) (h g : List Cell) (k : Process) (b : InboxView) (x : MachineStatus)
    → Keeps h g → IsOver h k → IsAtStatus m own code h k b x → IsOver g k × IsAtStatus m own code g k b x

-- what was true of the messages before the mark of an inbox still is
pub record KeepsMark (b b' : InboxView) : Type 0 where
  pub mark : b'.mark ≡ b.mark
  pub before : (m : Module) (own : ℕ) (ks : Clauses) → FitsNoneBefore m own ks b → FitsNoneBefore m own ks b'

-- so it has where a message comes after the others
abbrev pub MessagesArrive : Type 0
MessagesArrive = (m : Module) (own : ℕ) (code : Code) (h : List Cell) (k : Process) (b b' : InboxView)
    (x : MachineStatus) → KeepsMark b b' → IsAtStatus m own code h k b x → IsAtStatus m own code h k b' x

-- where a process used up its steps and went on from where it was then, whatever happened to its heap between, that is
-- one turn
abbrev pub TurnsGoOn : Type 0
TurnsGoOn = (m : Module) (own : ℕ) (code : Code) (left more : ℕ) (u : ProcessState) (b : InboxView) (n : ℕ)
    (h : List Cell) (k : Process) (c : InboxView) (did : Move) (used : ℕ) (g : List Cell) (j : Process) (d : InboxView)
    → Ran m own code left u b v.Pure n h k c
    → ((w : ProcessState) → IsAtStatus m own code h k c (goes w) → Ran m own code more w c did used g j d)
    → Ran m own code (left + more) u b did (n + used) g j d
