-- A machine as contracts see it.
use Rattle.std.specs.Prelude.{ℕ, List}
use Rattle.pf_terms.specs.Value.{Values}
use Rattle.pf_syntax.specs.Tree.{call, no_trees}
use Rattle.pf_syntax.specs.Module.{Checked}
use Rattle.pf_model.specs.Context.{ProcessState, running, Frame, after_values}

-- the status of a machine: memory ran out; its process goes on from a state, or waits for the answer to an action,
-- which goes into these frames; or its process has ended
pub data MachineStatus : Type 0 where
  spent : MachineStatus
  goes : ProcessState → MachineStatus
  asking : List Frame → MachineStatus
  over : MachineStatus

-- a machine: its pid, the checked module that it runs, and its status
pub record MachineView : Type 0 where
  pub own : ℕ
  pub checked : Checked
  pub standing : MachineStatus

abbrev pub standing_so : MachineView → MachineStatus → MachineView
standing_so s x = record { own = s.own; checked = s.checked; standing = x }

-- a machine at the call of a function with these arguments
abbrev pub at_call : ℕ → Checked → ℕ → Values → MachineView
at_call own m f vs = record { own = own; checked = m; standing = goes (running (call f (after_values vs no_trees))) }
