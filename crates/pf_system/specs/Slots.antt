-- What the slot of a process stands for.
use Rattle.std.specs.Prelude.{◌≡◌, ℕ, suc, Bool, true, false, List, [], ◌∷◌, Result, Ok, Err}
use Rattle.pf_terms.specs.Term.{value_of}
use Rattle.pf_terms.specs.declared.term.Term.{Term}
use Rattle.pf_syntax.specs.Tree.{Tree}
use Rattle.pf_syntax.specs.Module.{Checked}
use Rattle.pf_model.specs.Module.{module_of}
use Rattle.pf_model.specs.Context.{ProcessState, running, waiting, ending, ended, End, returned, failed}
use Rattle.pf_model.specs.Runs.{can_go}
use Rattle.pf_stepper.specs.MachineView.{MachineView, MachineStatus, goes, over}
use Rattle.pf_stepper.specs.Turns.{MachineRan, CanAnswer}
use Rattle.pf_stepper.specs.declared.machine.Move.{Move}
use Rattle.pf_mailbox.specs.MailView.{MailView}
use Rattle.pf_mailbox.specs.Tests.{IsAheadOf}
use Rattle.pf_system.specs.Bodies.{Body}
use Rattle.pf_system.specs.declared.slot.Life.{Life}
use Rattle.pf_system.specs.declared.slot.Life.TheVariants as life
use Rattle.pf_system.specs.declared.slot.Slot.{Slot}

abbrev pub end_of : Result Term Term → End
end_of (Ok t) = returned (value_of t)
end_of (Err e) = failed (value_of e)

-- ---- a machine

-- a machine is the process of this pid, runs this module, and has this status
abbrev pub IsMachineAt : Checked → ℕ → MachineStatus → MachineView → Type 0
IsMachineAt m own x k = (k.own ≡ own) × (k.checked ≡ m) × (k.standing ≡ x)

-- the process of a machine is in this state: where it waits, it is at the `receive`; else it can go
abbrev pub IsMachineIn : Checked → ℕ → (waits : Bool) → MachineView → ProcessState → Type 0
IsMachineIn m own true k s = (t : Tree) × IsMachineAt m own (goes (running t)) k × (s ≡ waiting t)
IsMachineIn m own false k s = IsMachineAt m own (goes s) k × (can_go s ≡ true)

-- ---- a slot

-- a process of this pid that runs this module is in this state, and its machine may go on over its mailbox
abbrev pub LifeRepresents : Checked → ℕ → Life → MailView → ProcessState → Type 0
LifeRepresents m own (life.Lives machine waits) mail s = IsMachineIn m own waits machine s × IsAheadOf machine mail
LifeRepresents m own (life.Ends r) mail s = s ≡ ending (value_of r)
LifeRepresents m own (life.Ended e) mail s = s ≡ ended (end_of e)

-- the slot of a process of this pid that runs this module stands for this body
pub record SlotRepresents (m : Checked) (own : ℕ) (s : Slot) (b : Body) : Type 0 where
  pub state : LifeRepresents m own s.life s.mailbox b.state
  pub mailbox : b.mailbox ≡ s.mailbox.messages

-- the slots from pid n on stand for these bodies, one by one
abbrev pub SlotsRepresent : Checked → ℕ → List Slot → List Body → Type 0
SlotsRepresent m n [] [] = Unit {0}
SlotsRepresent m n [] (b ∷ bs) = ⊥
SlotsRepresent m n (s ∷ ss) [] = ⊥
SlotsRepresent m n (s ∷ ss) (b ∷ bs) = SlotRepresents m n s b × SlotsRepresent m (suc n) ss bs

-- the process of a slot can go
pub record SlotCanGo (s : Slot) : Type 0 where
  pub code : Checked
  pub own : ℕ
  pub body : Body
  pub is_there : SlotRepresents code own s body
  pub can : can_go body.state ≡ true

-- ---- a slot in the middle of a turn

-- a machine ran and has this status; a process that had no machine is at its end
abbrev pub LifeIsLeft : Checked → ℕ → MachineStatus → Life → MailView → Type 0
LifeIsLeft m own x (life.Lives machine waits) mail = IsMachineAt m own x machine × (waits ≡ false)
    × IsAheadOf machine mail
LifeIsLeft m own x (life.Ends r) mail = x ≡ over
LifeIsLeft m own x (life.Ended e) mail = x ≡ over

abbrev pub SlotIsLeft : Checked → ℕ → MachineStatus → Slot → Type 0
SlotIsLeft m own x s = LifeIsLeft m own x s.life s.mailbox

-- the process of a slot ran from this body up to this move
pub record RanInSlot (m : Checked) (own left : ℕ) (b : Body) (move : Move) (used : ℕ) (s' : Slot) : Type 0 where
  pub standing : MachineStatus
  pub ran : MachineRan (module_of m) own left b.state b.mailbox move standing used s'.mailbox.messages
  pub leaves : SlotIsLeft m own standing s'

-- a machine of the slot waits for an answer
abbrev pub LifeAsks : Life → Type 0
LifeAsks (life.Lives machine waits) = CanAnswer machine.standing
LifeAsks (life.Ends r) = Unit {0}
LifeAsks (life.Ended e) = Unit {0}
