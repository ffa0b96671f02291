-- What stays as it is while other processes run, and where a message arrives.
use Rattle.std.proofs.Common.{ℕ, List, ◌∙◌}
use Rattle.pf_heap.specs.Heap.{Cell, Keeps}
use Rattle.pf_model.specs.Module.{Module}
use Rattle.pf_model.specs.Context.{ProcessState, asks, goes_on}
use Rattle.pf_code.specs.Sound.{Code}
use Rattle.pf_loop.specs.View.{AreWords}
use Rattle.pf_loop.specs.declared.machine.Machine.{Machine}
use Rattle.pf_stepper.specs.MachineView.{MachineStatus, spent, goes, asking, over}
use Rattle.pf_turns.specs.Turns.{IsStatusOf}
use Rattle.pf_turns.specs.declared.process.Process.{Process}
use Rattle.pf_turns.specs.declared.status.Status.{Status}
use Rattle.pf_turns.specs.declared.status.Status.TheVariants as status
use Rattle.pf_turns.proofs.Stayed.{in_same, represents_same}
use Rattle.pf_inbox.specs.InboxView.{InboxView}
use Rattle.pf_machine.specs.Statuses.{GoesOnWith, IsOver, IsAtStatus}
use Rattle.pf_machine.specs.Stays.{KeepsMark, MessagesArrive, StatusStays}
use Rattle.pf_machine.proofs.Inboxes.{over_keeps}

module _ (m : Module) (own : ℕ) (code : Code) (b : InboxView) (u : ProcessState) where
  module _ (h g : List Cell) (keeps : Keeps h g) (k : Machine) (words : AreWords h k.stack.words.items) where
    goes_same : (x : Status) → IsStatusOf h x → GoesOnWith m own code h k x b u → GoesOnWith m own code g k x b u
    goes_same status.Begins s a =
        (represents_same h g keeps m own code k status.Begins (goes_on u) words s a.0, a.1)
    goes_same status.Goes s a = (represents_same h g keeps m own code k status.Goes (goes_on u) words s a.0, a.1)
    goes_same (status.Receives d) s a =
        (a.0, a.1, a.2, in_same h g keeps k a.0 words a.3, a.4, a.5, a.6)
    goes_same (status.Returns w) s a =
        (represents_same h g keeps m own code k (status.Returns w) (goes_on u) words s a.0, a.1)
    goes_same (status.Ends w) s a =
        (represents_same h g keeps m own code k (status.Ends w) (goes_on u) words s a.0, a.1)
    goes_same (status.Asks d) s a =
        (represents_same h g keeps m own code k (status.Asks d) (goes_on u) words s a.0, a.1)
    goes_same status.Cut s a = (represents_same h g keeps m own code k status.Cut (goes_on u) words s a.0, a.1)

  goes_marked : (h : List Cell) (k : Machine) (b' : InboxView) (x : Status) → KeepsMark b b'
      → GoesOnWith m own code h k x b u → GoesOnWith m own code h k x b' u
  goes_marked h k b' status.Begins e a = (a.0, e.mark ∙ a.1)
  goes_marked h k b' status.Goes e a = (a.0, e.mark ∙ a.1)
  goes_marked h k b' (status.Receives d) e a = (a.0, a.1, a.2, a.3, a.4, a.5, e.before m own a.2 a.6)
  goes_marked h k b' (status.Returns w) e a = (a.0, e.mark ∙ a.1)
  goes_marked h k b' (status.Ends w) e a = (a.0, e.mark ∙ a.1)
  goes_marked h k b' (status.Asks d) e a = (a.0, e.mark ∙ a.1)
  goes_marked h k b' status.Cut e a = (a.0, e.mark ∙ a.1)

stands_same : (m : Module) (own : ℕ) (code : Code) (h g : List Cell) (k : Process) (b : InboxView) (x : MachineStatus)
    → Keeps h g → IsOver h k → IsAtStatus m own code h k b x → IsAtStatus m own code g k b x
stands_same m own code h g k b spent keeps o a = absurd a
stands_same m own code h g k b (goes u) keeps o a =
    goes_same m own code b u h g keeps k.machine o.0 k.status o.1 a
stands_same m own code h g k b (asking fs) keeps o a =
    (a.0, represents_same h g keeps m own code k.machine k.status (asks fs a.0) o.0 o.1 a.1, a.2)
stands_same m own code h g k b over keeps o a = tt

pub stays : StatusStays
stays m own code h g k b x keeps o a = (over_keeps h g k keeps o, stands_same m own code h g k b x keeps o a)

pub arrives : MessagesArrive
arrives m own code h k b b' spent e a = absurd a
arrives m own code h k b b' (goes u) e a = goes_marked m own code b u h k.machine b' k.status e a
arrives m own code h k b b' (asking fs) e a = (a.0, a.1, e.mark ∙ a.2)
arrives m own code h k b b' over e a = tt
