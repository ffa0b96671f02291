-- Whether an inbox is ready for the `receive` that a machine reaches next.
use Rattle.std.specs.Prelude.{◌≡◌, ℕ, List}
use Rattle.pf_terms.specs.declared.term.Term.{Term}
use Rattle.pf_syntax.specs.Tree.{Clauses}
use Rattle.pf_syntax.specs.Module.{Checked}
use Rattle.pf_syntax.specs.Over.{clauses_over}
use Rattle.pf_syntax.specs.declared.node.Clause.{Clause}
use Rattle.pf_patterns.specs.Slots.{activation}
use Rattle.pf_patterns.specs.Substitution.{sub_clauses}
use Rattle.pf_model.specs.Module.{Module, module_of}
use Rattle.pf_model.specs.Context.{Frame, ProcessState, goes_on, awaits}
use Rattle.pf_stepper.specs.MicroSteps.{Contracts}
use Rattle.pf_stepper.specs.MachineView.{MachineView, spent, goes}

-- a `receive` that a process of this pid reaches: its clauses, with the values of the variables in scope
pub record Receive : Type 0 where
  pub code : Module
  pub own : ℕ
  pub clauses : Clauses

abbrev pub receive_of : Module → ℕ → Clauses → Receive
receive_of m own ks = record { code = m; own = own; clauses = ks }

-- the `receive` of these clauses, in the activation that begins at `base`
abbrev pub receive_in : Checked → ℕ → ℕ → List Term → List Clause → Receive
receive_in m own base env l = receive_of (module_of m) own (sub_clauses (activation env base) (clauses_over m.tables l))

-- ready for whatever comes
abbrev pub IsReadyForAll : (Receive → Type 0) → Type 0
IsReadyForAll ready = (r : Receive) → ready r

-- the machine is at a `receive` of these clauses
pub record IsAtReceive (s : MachineView) (ks : Clauses) : Type 0 where
  pub state : ProcessState
  pub frames : List Frame
  pub stood : s.standing ≡ goes state
  pub next : Contracts (module_of s.checked) s.own (goes_on state) (awaits frames ks)

-- this may be the next `receive` of a machine that has memory: if it is at one, it is this
pub record MayComeTo (s : MachineView) (r : Receive) : Type 0 where
  pub lives : s.standing ≡ spent → ⊥
  pub only : (ks : Clauses) → IsAtReceive s ks → r ≡ receive_of (module_of s.checked) s.own ks

-- ready for the `receive` at which the machine is; where it is at none, for whatever comes; once memory ran out, for
-- nothing
abbrev pub IsReadyAhead : (Receive → Type 0) → MachineView → Type 0
IsReadyAhead ready s = (r : Receive) → MayComeTo s r → ready r
