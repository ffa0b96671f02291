-- What a collection keeps of a process.
use Rattle.std.proofs.Common.{◌≡◌, ℕ, List, [], sym, ap, ◌∙◌, subst}
use Rattle.pf_syntax.specs.Tree.{lit}
use Rattle.pf_heap.specs.Heap.{Cell, word_value, word_values, IsWordOf}
use Rattle.pf_heap.specs.declared.word.Word.{Word}
use Rattle.pf_model.specs.Module.{Module}
use Rattle.pf_model.specs.Contraction.{Becomes}
use Rattle.pf_model.specs.Context.{Move, ProcessState, asks, ending, goes_on}
use Rattle.pf_code.specs.Points.{inside}
use Rattle.pf_code.specs.Sound.{Code}
use Rattle.pf_code.specs.Machine.{State}
use Rattle.pf_loop.specs.View.{AreWords}
use Rattle.pf_loop.specs.Run.{IsIn}
use Rattle.pf_loop.specs.declared.machine.Machine.{Machine}
use Rattle.pf_stepper.specs.MachineView.{MachineStatus, spent, goes, asking, over}
use Rattle.pf_turns.specs.Turns.{IsStatusOf, Represents}
use Rattle.pf_turns.specs.declared.process.Process.{Process}
use Rattle.pf_turns.specs.declared.status.Status.{Status}
use Rattle.pf_turns.specs.declared.status.Status.TheVariants as status
use Rattle.pf_inbox.specs.InboxView.{InboxView}
use Rattle.pf_machine.specs.Statuses.{GoesOnWith, IsOver, IsAtStatus}
use Rattle.pf_machine.proofs.Inboxes.{all_words}
use Rattle.pf_roots.specs.Kept.{KeptConstantsAre}
use Rattle.pf_roots.specs.Moved.{word_in, with_word, IsMoved, HasValues, ProcessesMove, ConstantsMove}
use Rattle.pf_roots.proofs.Values.{have_moved, in_moved, values_at}

status_moved : (g : List Cell) (x : Status) (w : Word) → IsWordOf g w → IsStatusOf g (with_word x w)
status_moved g status.Begins w a = tt
status_moved g status.Goes w a = tt
status_moved g (status.Receives d) w a = tt
status_moved g (status.Returns v) w a = a
status_moved g (status.Ends v) w a = a
status_moved g (status.Asks d) w a = tt
status_moved g status.Cut w a = tt

module _ (m : Module) (own : ℕ) (code : Code) (h g : List Cell) (k j : Machine) (w : Word)
    (stays : (s : State) → IsIn h k s → IsIn g j s) where
  represents_moved : (x : Status) (p : Move) → word_value g w ≡ word_value h (word_in x)
      → Represents m own code h k x p → Represents m own code g j (with_word x w) p
  represents_moved status.Begins p e a = (a.0, stays a.0 a.1, a.2)
  represents_moved status.Goes p e a = (a.0, stays a.0 a.1, a.2)
  represents_moved (status.Receives d) p e a = (a.0, a.1, a.2, stays a.0 a.3, a.4, a.5)
  represents_moved (status.Returns v) p e a = a ∙ ap (λ z. inside [] (Becomes (lit z))) (sym e)
  represents_moved (status.Ends v) p e a = a ∙ ap (λ z. goes_on (ending z)) (sym e)
  represents_moved (status.Asks d) p e a = (a.0, a.1, a.2, stays a.0 a.3, a.4, a.5)
  represents_moved status.Cut p e a = tt

  goes_moved : (x : Status) (b : InboxView) (u : ProcessState) → word_value g w ≡ word_value h (word_in x)
      → GoesOnWith m own code h k x b u → GoesOnWith m own code g j (with_word x w) b u
  goes_moved status.Begins b u e a = (represents_moved status.Begins (goes_on u) e a.0, a.1)
  goes_moved status.Goes b u e a = (represents_moved status.Goes (goes_on u) e a.0, a.1)
  goes_moved (status.Receives d) b u e a = (a.0, a.1, a.2, stays a.0 a.3, a.4, a.5, a.6)
  goes_moved (status.Returns v) b u e a = (represents_moved (status.Returns v) (goes_on u) e a.0, a.1)
  goes_moved (status.Ends v) b u e a = (represents_moved (status.Ends v) (goes_on u) e a.0, a.1)
  goes_moved (status.Asks d) b u e a = (represents_moved (status.Asks d) (goes_on u) e a.0, a.1)
  goes_moved status.Cut b u e a = (represents_moved status.Cut (goes_on u) e a.0, a.1)

module _ (m : Module) (own : ℕ) (code : Code) (h g : List Cell) (k j : Process) (ws : List Word) (w : Word)
    (b : InboxView) (v : HasValues h k g ws w) (i : IsMoved k ws w j) where
  stays : (s : State) → IsIn h k.machine s → IsIn g j.machine s
  stays s =
      let us = k.machine.stack.words.items in
      let e = subst (λ xs. word_values g xs ≡ word_values h us) (sym i.words) v.registers in
      in_moved h g k.machine j.machine s (values_at h g us j.machine.stack.words.items e) i.base i.pc i.waiting

  pub stands_moved : (x : MachineStatus) → IsAtStatus m own code h k b x → IsAtStatus m own code g j b x
  stands_moved spent a = absurd a
  stands_moved (goes u) a =
      subst (λ y. GoesOnWith m own code g j.machine y b u) (sym i.status)
      (goes_moved m own code h g k.machine j.machine w stays k.status b u v.last a)
  stands_moved (asking fs) a = (
    a.0,
    subst (λ y. Represents m own code g j.machine y (asks fs a.0)) (sym i.status)
        (represents_moved m own code h g k.machine j.machine w stays k.status (asks fs a.0) v.last a.1),
    a.2,
  )
  stands_moved over a = tt

pub over_moved : (h g : List Cell) (k j : Process) (ws : List Word) (w : Word) → HasValues h k g ws w → IsMoved k ws w j
    → IsOver g j
over_moved h g k j ws w v i = (
  subst (AreWords g) (sym i.words) (all_words g ws v.words),
  subst (IsStatusOf g) (sym i.status) (status_moved g k.status w v.word),
)

pub processes_moved : ProcessesMove
processes_moved m own code h g k j ws w b x v i a =
    (over_moved h g k j ws w v i, stands_moved m own code h g k j ws w b v i x a)

pub constants_moved : ConstantsMove
constants_moved h g cs ws ks e words a =
    (all_words g ws words, have_moved h g cs ws (values_at h g cs ws e) 0 ks a)

pub kept_constants : KeptConstantsAre
kept_constants h g cs ws ks e a = constants_moved h g cs ws ks e.values e.words a
