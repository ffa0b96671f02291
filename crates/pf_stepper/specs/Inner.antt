-- What the fields of a machine stand for, and what is true of them.
use Rattle.pf_syntax.specs.Module.{Checked}
use Rattle.pf_model.specs.Context.{Move, goes_on, asks, awaits, returns}
use Rattle.pf_stepper.specs.View.{holes_of}
use Rattle.pf_stepper.specs.MachineView.{MachineView, spent, goes, asking, over}
use Rattle.pf_stepper.specs.MachineView as view
use Rattle.pf_stepper.specs.Advanced.{stack_process, IsSound, IsHolding}
use Rattle.pf_stepper.specs.declared.stack.Stack.{Stack}
use Rattle.pf_stepper.specs.declared.machine.MachineStatus.{MachineStatus}
use Rattle.pf_stepper.specs.declared.machine.MachineStatus.TheVariants as s
use Rattle.pf_stepper.specs.declared.machine.Machine.TheInside.{Inside}

-- a process that goes on by itself is in its state
abbrev pub standing_by : Move → view.MachineStatus
standing_by (goes_on s) = goes s
standing_by (asks fs a) = asking fs
standing_by (awaits fs ks) = over
standing_by (returns v) = over

abbrev pub standing_in : Checked → Stack → MachineStatus → view.MachineStatus
standing_in m stack (s.Goes x) = standing_by (stack_process m stack x)
standing_in m stack s.Asking = asking (holes_of m.tables stack.env.items stack.operands.items stack.frames.items)
standing_in m stack s.Over = over
standing_in m stack s.Spent = spent

abbrev pub view_of_machine : Inside → MachineView
view_of_machine a = record {
  own = a.own;
  checked = a.module.value;
  standing =
      standing_in a.module.value a.stack a.standing;
}

abbrev pub SoundIn : Stack → MachineStatus → Type 0
SoundIn stack (s.Goes x) = IsSound stack x
SoundIn stack s.Asking = IsHolding stack
SoundIn stack s.Over = Unit {0}
SoundIn stack s.Spent = Unit {0}

abbrev pub IsValid : Inside → Type 0
IsValid a = SoundIn a.stack a.standing
