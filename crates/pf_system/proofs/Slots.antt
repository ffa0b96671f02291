-- What the calls of a slot do.
use Rattle.std.proofs.Common.{◌≡◌, ℕ, zero, ◌<◌, Bool, true, false, List, refl, sym, ap, ◌∙◌, subst, arith}
use Rattle.std.specs.Prelude.{Result, Ok, Err}
use Rattle.pf_terms.specs.Value.{Value}
use Rattle.pf_terms.specs.Term.{value_of}
use Rattle.pf_terms.specs.declared.term.Term.{Term}
use Rattle.pf_syntax.specs.Tree.{Tree}
use Rattle.pf_syntax.specs.Module.{Checked}
use Rattle.pf_model.specs.Module.{module_of}
use Rattle.pf_model.specs.Context.{Frame, ProcessState, running, waiting, ending, ended, goes_on}
use Rattle.pf_model.specs.Deliveries.{woken}
use Rattle.pf_model.specs.Runs.{can_go, is_waiting}
use Rattle.pf_model.specs.Turns.{with_answer}
use Rattle.pf_stepper.specs.Advanced.{no_step}
use Rattle.pf_stepper.specs.MachineView.{MachineView, spent, goes, asking, over}
use Rattle.pf_stepper.specs.Points.{IsPointAt, IsPointOf}
use Rattle.pf_stepper.specs.Turns.{CanMove, SimulatesTurn, MachineRan, AnsweredMachine, answered_in, answer_value}
use Rattle.pf_stepper.specs.declared.machine.Move.{Move}
use Rattle.pf_stepper.specs.declared.machine.Move.TheVariants as v
use Rattle.pf_stepper.specs.declared.point.Point.{Point}
use Rattle.pf_mailbox.specs.MailView.{MailView}
use Rattle.pf_mailbox.specs.Tests.{IsAheadOf}
use Rattle.pf_system.specs.Bodies.{Body, body_of}
use Rattle.pf_system.specs.Slots.{IsMachineAt, IsMachineIn, LifeRepresents, SlotRepresents, SlotIsLeft, RanInSlot}
use Rattle.pf_system.specs.declared.slot.Life.{Life}
use Rattle.pf_system.specs.declared.slot.Life.TheVariants as life
use Rattle.pf_system.specs.declared.slot.Slot.{Slot}

abbrev pub slot_with : Life → MailView → Slot
slot_with l mail = record { life = l; mailbox = mail }

-- ---- states

same_state : (s t : ProcessState) → goes s ≡ goes t → s ≡ t
same_state s t e = cc

cannot_go : (t : Tree) (s : ProcessState) → s ≡ waiting t → can_go s ≡ true → ⊥
cannot_go t s e g = let q : false ≡ true = sym (ap can_go e) ∙ g in absurd cc

-- a process that can go doesn't wait
goes_awake : (s : ProcessState) → can_go s ≡ true → (woken s ≡ s) × (is_waiting s ≡ false)
goes_awake (running t) e = (refl, refl)
goes_awake (waiting t) e = absurd cc
goes_awake (ending r) e = (refl, refl)
goes_awake (ended x) e = absurd cc

-- ---- a machine whose process is in a state

module _ (m : Checked) (own : ℕ) where
  -- where the process can go, the machine has that state and doesn't wait
  pub goes_at : (w : Bool) (k : MachineView) (s : ProcessState) → IsMachineIn m own w k s → can_go s ≡ true
      → IsMachineAt m own (goes s) k × (w ≡ false)
  goes_at true k s h e = absurd (cannot_go h.0 s h.2 e)
  goes_at false k s h e = (h.0, refl)

  pub can_move : (w : Bool) (k : MachineView) (s : ProcessState) → IsMachineIn m own w k s → CanMove k.standing
  can_move true k s h = subst CanMove (sym h.1.2) tt
  can_move false k s h = subst CanMove (sym h.0.2) tt

  pub runs_module : (w : Bool) (k : MachineView) (s : ProcessState) → IsMachineIn m own w k s → k.checked ≡ m
  runs_module true k s h = h.1.1
  runs_module false k s h = h.0.1

  pub waits_as : (w : Bool) (k : MachineView) (s : ProcessState) → IsMachineIn m own w k s → w ≡ is_waiting s
  waits_as true k s h = sym (ap is_waiting h.2)
  waits_as false k s h = sym (goes_awake s h.1).1

  -- a message comes
  pub woken_in : (w : Bool) (k : MachineView) (s : ProcessState) → IsMachineIn m own w k s
      → IsMachineIn m own false k (woken s)
  woken_in true k s h = subst (λ z. IsMachineIn m own false k (woken z)) (sym h.2) (h.1, refl)
  woken_in false k s h = subst (IsMachineIn m own false k) (sym (goes_awake s h.1).0) h

  pub point_in : (w : Bool) (k : MachineView) (s : ProcessState) (x : Point) → IsMachineIn m own w k s
      → IsPointAt k.checked.tables k.standing x → IsPointOf m.tables (woken s) x
  point_in true k s x h p =
      subst (λ z. IsPointOf m.tables (woken z) x) (sym h.2)
      (subst (λ z. IsPointAt z.tables (goes (running h.0)) x) h.1.1
      (subst (λ z. IsPointAt k.checked.tables z x) h.1.2 p))
  point_in false k s x h p =
      subst (λ z. IsPointOf m.tables z x) (sym (goes_awake s h.1).0)
      (subst (λ z. IsPointAt z.tables (goes s) x) h.0.1 (subst (λ z. IsPointAt k.checked.tables z x) h.0.2 p))

-- ---- a machine that runs

pub ran_machine : (m : Checked) (own left : ℕ) (k k' : MachineView) (w : Bool) (mail mail' : MailView)
    (move : Move) (used : ℕ) (b : Body) → SlotRepresents m own (slot_with (life.Lives k w) mail) b
    → can_go b.state ≡ true → SimulatesTurn left k mail.messages move k' used mail'.messages → IsAheadOf k' mail'
    → RanInSlot m own left b move used (slot_with (life.Lives k' w) mail')
ran_machine m own left k k' w mail mail' move used b h can r ahead =
    let at = goes_at m own w k b.state h.state.0 can in
    let e : r.state ≡ b.state = same_state r.state b.state (sym r.stood ∙ at.0.2) in
    record {
      standing = k'.standing;
      ran = subst (λ z. MachineRan (module_of m) own left b.state z move k'.standing used mail'.messages)
          (sym h.mailbox)
          (subst (λ z. MachineRan (module_of m) own left z mail.messages move k'.standing used mail'.messages) e
          (subst (λ z. MachineRan (module_of z) own left r.state mail.messages move k'.standing used mail'.messages)
          at.0.1
          (subst (λ z. MachineRan (module_of k.checked) z left r.state mail.messages move k'.standing used
          mail'.messages) at.0.0 r.ran)));
      leaves = ((ap (λ z. z.own) r.rest ∙ at.0.0, ap (λ z. z.checked) r.rest ∙ at.0.1, refl), at.1, ahead);
    }

pub ran_to_end : (m : Checked) (own left : ℕ) (b : Body) (r r' : Term) (mail : MailView) → 0 < left
    → value_of r' ≡ value_of r → SlotRepresents m own (slot_with (life.Ends r) mail) b
    → RanInSlot m own left b (v.End (Err r')) 1 (slot_with (life.Ends r) mail)
ran_to_end m own left b r r' mail l e h =
    record {
      standing = over;
      ran = subst (λ s. MachineRan (module_of m) own left s b.mailbox (v.End (Err r')) over 1 mail.messages)
          (sym h.state)
          (record {
            before = zero;
            middle = ending (value_of r);
            counted = refl;
            within = omega arith;
            steps = no_step (goes_on (ending (value_of r)));
            last = record { was = ap ending (sym e); is_there = refl; kept = sym h.mailbox };
          });
      leaves = refl;
    }

-- ---- an answer, and a wait

not_goes : (k : MachineView) (fs : List Frame) (s : ProcessState) → k.standing ≡ asking fs → k.standing ≡ goes s → ⊥
not_goes k fs s e f = let q : asking fs ≡ goes s = sym e ∙ f in absurd cc

not_spent : (k : MachineView) (fs : List Frame) → k.standing ≡ asking fs → k.standing ≡ spent → ⊥
not_spent k fs e f = let q : asking fs ≡ spent = sym e ∙ f in absurd cc

asking_not_over : (fs : List Frame) → asking fs ≡ over → ⊥
asking_not_over fs e = absurd cc

goes_not_over : (s : ProcessState) → goes s ≡ over → ⊥
goes_not_over s e = absurd cc

-- while an answer is waited for, the mailbox is ready for whatever comes
ahead_anyhow : (k k' : MachineView) (fs : List Frame) (mail : MailView) → k.standing ≡ asking fs → IsAheadOf k mail
    → IsAheadOf k' mail
ahead_anyhow k k' fs mail e h r c =
    h r (record { lives = not_spent k fs e; only = λ ks t. absurd (not_goes k fs t.state e t.stood) })

can_go_on : (fs : List Frame) (r : Result Value Value) → can_go (with_answer fs r) ≡ true
can_go_on fs (Ok x) = refl
can_go_on fs (Err x) = refl

pub answered_slot : (k k' : MachineView) (w : Bool) (mail : MailView) (r : Result Term Term) → AnsweredMachine k r k'
    → (m : Checked) (own : ℕ) (fs : List Frame) → SlotIsLeft m own (asking fs) (slot_with (life.Lives k w) mail)
    → SlotRepresents m own (slot_with (life.Lives k' w) mail)
    (body_of (with_answer fs (answer_value r)) mail.messages)
answered_slot k k' w mail r e m own fs h =
    let s = with_answer fs (answer_value r) in
    let at : IsMachineAt m own (goes s) k' = (
      ap (λ z. z.own) e ∙ h.0.0,
      ap (λ z. z.checked) e ∙ h.0.1,
      ap (λ z. z.standing) e ∙ ap (λ z. answered_in z (answer_value r)) h.0.2,
    ) in
    record {
      state = (
        subst (λ z. IsMachineIn m own z k' s) (sym h.1) (at, can_go_on fs (answer_value r)),
        ahead_anyhow k k' fs mail h.0.2 h.2,
      );
      mailbox = refl;
    }

pub waiting_slot : (k : MachineView) (w : Bool) (mail : MailView) (m : Checked) (own : ℕ) (t : Tree)
    → SlotIsLeft m own (goes (running t)) (slot_with (life.Lives k w) mail)
    → SlotRepresents m own (slot_with (life.Lives k true) mail) (body_of (waiting t) mail.messages)
waiting_slot k w mail m own t h = record { state = ((t, h.0, refl), h.2); mailbox = refl }

-- a process without a machine asks for nothing, and doesn't wait
pub asks_none : (l : Life) (mail : MailView) → ((k : MachineView) (w : Bool) → l ≡ life.Lives k w → ⊥)
    → (m : Checked) (own : ℕ) (fs : List Frame)
    → SlotIsLeft m own (asking fs) (slot_with l mail) → ⊥
asks_none (life.Lives k w) mail n m own fs h = n k w refl
asks_none (life.Ends r) mail n m own fs h = asking_not_over fs h
asks_none (life.Ended e) mail n m own fs h = asking_not_over fs h

pub waits_none : (l : Life) (mail : MailView) → ((k : MachineView) (w : Bool) → l ≡ life.Lives k w → ⊥)
    → (m : Checked) (own : ℕ) (s : ProcessState)
    → SlotIsLeft m own (goes s) (slot_with l mail) → ⊥
waits_none (life.Lives k w) mail n m own s h = n k w refl
waits_none (life.Ends r) mail n m own s h = goes_not_over s h
waits_none (life.Ended e) mail n m own s h = goes_not_over s h

-- ---- by the life of a slot

-- a slot whose process lives
pub lives_in : (m : Checked) (own : ℕ) (l : Life) (mail : MailView) (b : Body) (k : MachineView) (w : Bool)
    → l ≡ life.Lives k w → SlotRepresents m own (slot_with l mail) b
    → SlotRepresents m own (slot_with (life.Lives k w) mail) b
lives_in m own l mail b k w e h = subst (λ z. SlotRepresents m own (slot_with z mail) b) e h

-- a message comes for a process without a machine
pub woken_as : (m : Checked) (own : ℕ) (l : Life) (mail mail' : MailView) (s : ProcessState)
    → ((k : MachineView) (w : Bool) → l ≡ life.Lives k w → ⊥) → LifeRepresents m own l mail s
    → LifeRepresents m own l mail' (woken s) × (false ≡ is_waiting s)
woken_as m own (life.Lives k w) mail mail' s n h = absurd (n k w refl)
woken_as m own (life.Ends r) mail mail' s n h = (ap woken h, sym (ap is_waiting h))
woken_as m own (life.Ended e) mail mail' s n h = (ap woken h, sym (ap is_waiting h))
