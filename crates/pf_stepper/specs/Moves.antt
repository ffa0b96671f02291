-- What a call of a machine does, with the mailbox that it is lent.
use Rattle.std.specs.Prelude.{◌≡◌, ℕ, List, Some, None, Ok, Err}
use Rattle.pf_terms.specs.Value.{Value}
use Rattle.pf_terms.specs.Term.{value_of}
use Rattle.pf_syntax.specs.Tree.{Tree, Clauses, lit}
use Rattle.pf_model.specs.Module.{Module}
use Rattle.pf_model.specs.Context.{Frame, fill, ProcessState, running, ending, goes_on, asks, awaits}
use Rattle.pf_model.specs.Receive.{selected}
use Rattle.pf_stepper.specs.Acts.{act_of}
use Rattle.pf_stepper.specs.MachineView.{MachineStatus, goes, asking, over}
use Rattle.pf_stepper.specs.MicroSteps.{Contracts}
use Rattle.pf_stepper.specs.declared.act.Act.{Act}
use Rattle.pf_stepper.specs.declared.machine.Move.{Move}
use Rattle.pf_stepper.specs.declared.machine.Move.TheVariants as v

-- one step by itself, which leaves the mailbox as it is
pub record Stepped (m : Module) (own : ℕ) (s : ProcessState) (mail : List Value) (after : MachineStatus)
    (mail' : List Value) : Type 0 where
  pub next : ProcessState
  pub step : Contracts m own (goes_on s) (goes_on next)
  pub is_there : after ≡ goes next
  pub kept : mail' ≡ mail

-- an action that it asks for, and whose answer it waits for
pub record AskedFor (m : Module) (own : ℕ) (s : ProcessState) (mail : List Value) (act : Act) (after : MachineStatus)
    (mail' : List Value) : Type 0 where
  pub frames : List Frame
  pub step : Contracts m own (goes_on s) (asks frames (act_of act))
  pub is_there : after ≡ asking frames
  pub kept : mail' ≡ mail

-- a message that a `receive` takes: the process goes on in the body of its clause, and the other messages stay
pub record TookOne (m : Module) (own : ℕ) (s : ProcessState) (mail : List Value) (message : Value)
    (after : MachineStatus) (mail' : List Value) : Type 0 where
  pub frames : List Frame
  pub clauses : Clauses
  pub body : Tree
  pub step : Contracts m own (goes_on s) (awaits frames clauses)
  pub taken : selected m own clauses mail ≡ Some (record { body = body; message = message; others = mail' })
  pub is_there : after ≡ goes (running (fill frames body))

-- a `receive` that no message fits, at which it stays
pub record WaitsOn (m : Module) (own : ℕ) (s : ProcessState) (mail : List Value) (after : MachineStatus)
    (mail' : List Value) : Type 0 where
  pub frames : List Frame
  pub clauses : Clauses
  pub step : Contracts m own (goes_on s) (awaits frames clauses)
  pub none : selected m own clauses mail ≡ None
  pub is_there : after ≡ goes s
  pub kept : mail' ≡ mail

-- the end, which leaves the mailbox as it is: it returned a value, or was about to end with a reason
pub record EndsMachine (s : ProcessState) (mail : List Value) (last : ProcessState) (after : MachineStatus)
    (mail' : List Value) : Type 0 where
  pub was : s ≡ last
  pub is_there : after ≡ over
  pub kept : mail' ≡ mail

abbrev pub MachineMoved : Module → ℕ → ProcessState → List Value → Move → MachineStatus → List Value → Type 0
MachineMoved m own s mail v.Pure after mail' = Stepped m own s mail after mail'
MachineMoved m own s mail (v.Action act) after mail' = AskedFor m own s mail act after mail'
MachineMoved m own s mail (v.Take t) after mail' = TookOne m own s mail (value_of t) after mail'
MachineMoved m own s mail v.Wait after mail' = WaitsOn m own s mail after mail'
MachineMoved m own s mail (v.End (Ok t)) after mail' = EndsMachine s mail (running (lit (value_of t))) after mail'
MachineMoved m own s mail (v.End (Err r)) after mail' = EndsMachine s mail (ending (value_of r)) after mail'
