-- The status of a machine after what its stack did.
use Rattle.std.specs.Prelude.{◌≡◌, ℕ, List}
use Rattle.pf_terms.specs.Value.{Value}
use Rattle.pf_syntax.specs.Module.{Checked}
use Rattle.pf_syntax.specs.declared.node.Operand.TheVariants as part
use Rattle.pf_model.specs.Module.{module_of}
use Rattle.pf_model.specs.Context.{ProcessState, goes_on}
use Rattle.pf_model.specs.Context.{Move as Next}
use Rattle.pf_stepper.specs.Advanced.{AdvancedFrom, IsSound, IsHolding, IsSending, stack_process}
use Rattle.pf_stepper.specs.Inner.{standing_by, standing_in, SoundIn}
use Rattle.pf_stepper.specs.MachineView.{MachineView}
use Rattle.pf_stepper.specs.Moves.{MachineMoved}
use Rattle.pf_stepper.specs.Readiness.{Receive, IsReadyAhead}
use Rattle.pf_stepper.specs.declared.frame.Focus.TheVariants as f
use Rattle.pf_stepper.specs.declared.stack.Stack.{Stack}
use Rattle.pf_stepper.specs.declared.advance.Advance.{Advance}
use Rattle.pf_stepper.specs.declared.advance.Advance.TheVariants as a
use Rattle.pf_stepper.specs.declared.machine.MachineStatus.{MachineStatus}
use Rattle.pf_stepper.specs.declared.machine.Move.{Move}
use Rattle.pf_stepper.specs.declared.machine.Move.TheVariants as v

-- the stacks are sound for what they did
abbrev pub AdvanceIsSound : Stack → Advance → Type 0
AdvanceIsSound s (a.Changed y) = IsSound s y
AdvanceIsSound s (a.Sends w) = IsSending s
AdvanceIsSound s (a.Asks act) = IsHolding s
AdvanceIsSound s (a.Awaits n) = IsSound s (f.Eval (part.Node n))
AdvanceIsSound s (a.Returned v) = Unit {0}
AdvanceIsSound s (a.Ended r) = Unit {0}

-- ---- the inbox

-- a machine of this process
abbrev pub going : Checked → ℕ → Next → MachineView
going m own p = record { own = own; checked = m; standing = standing_by p }

-- ready for what a machine with this status reaches next
abbrev pub IsReadyAfter : (Receive → Type 0) → Checked → ℕ → Stack → MachineStatus → Type 0
IsReadyAfter ready m own s x = IsReadyAhead ready (record { own = own; checked = m; standing = standing_in m s x })

-- ready for what comes after the contractions; or for what led to the last move
abbrev pub IsReadyToSettle : (Receive → Type 0) → Checked → ℕ → Stack → Advance → Type 0
IsReadyToSettle ready m own s (a.Changed y) = IsReadyAhead ready (going m own (stack_process m s y))
IsReadyToSettle ready m own s r = (x : ProcessState) × AdvancedFrom m own (goes_on x) s r × IsReadyAhead ready
    (going m own (goes_on x))

-- ---- the machine

-- a move that is no contraction
abbrev pub EndsTurn : Move → Type 0
EndsTurn v.Pure = ⊥
EndsTurn (v.Action act) = Unit {0}
EndsTurn (v.Take t) = Unit {0}
EndsTurn v.Wait = Unit {0}
EndsTurn (v.End r) = Unit {0}

-- contractions leave the machine where they led, and the mailbox; else it made another move
abbrev pub TurnGoesOn : Checked → Stack → Advance → List Value → Stack → MachineStatus → Move → List Value → Type 0
TurnGoesOn m s (a.Changed y) mail s' x did mail' =
    (did ≡ v.Pure) × (standing_in m s' x ≡ standing_by (stack_process m s y)) × (mail' ≡ mail)
TurnGoesOn m s r mail s' x did mail' = EndsTurn did

-- whatever state led to what the stack did, from there the machine made this move, and has this status
pub record Settled (m : Checked) (own : ℕ) (s : Stack) (r : Advance) (mail : List Value) (s' : Stack)
    (x : MachineStatus) (did : Move) (mail' : List Value) : Type 0 where
  pub sound : SoundIn s' x
  pub moved : (y : ProcessState) → AdvancedFrom m own (goes_on y) s r
      → MachineMoved (module_of m) own y mail did (standing_in m s' x) mail'
  pub turn : TurnGoesOn m s r mail s' x did mail'
