-- Processes and constants whose words were moved to another heap.
use Rattle.std.specs.Prelude.{◌≡◌, ℕ, List}
use Rattle.std.specs.List.{All}
use Rattle.pf_terms.specs.Value.{Value}
use Rattle.pf_heap.specs.Heap.{Cell, word_value, word_values, IsWordOf}
use Rattle.pf_heap.specs.declared.word.Word.{Word}
use Rattle.pf_heap.specs.declared.word.Word.TheVariants as word
use Rattle.pf_model.specs.Module.{Module}
use Rattle.pf_code.specs.Sound.{Code}
use Rattle.pf_loop.specs.View.{AreWords, Have}
use Rattle.pf_stepper.specs.MachineView.{MachineStatus}
use Rattle.pf_turns.specs.declared.process.Process.{Process}
use Rattle.pf_turns.specs.declared.status.Status.{Status}
use Rattle.pf_turns.specs.declared.status.Status.TheVariants as status
use Rattle.pf_inbox.specs.InboxView.{InboxView}
use Rattle.pf_machine.specs.Statuses.{IsOver, IsAtStatus}

-- the word of a status; `[]` where it has none
abbrev pub word_in : Status → Word
word_in (status.Returns w) = w
word_in (status.Ends w) = w
word_in x = word.Nil

-- a status with another word, where it has one
abbrev pub with_word : Status → Word → Status
with_word (status.Returns v) w = status.Returns w
with_word (status.Ends v) w = status.Ends w
with_word x w = x

-- a process with these words in its registers and this one in its status
pub record IsMoved (k : Process) (ws : List Word) (w : Word) (j : Process) : Type 0 where
  pub words : j.machine.stack.words.items ≡ ws
  pub base : j.machine.stack.base ≡ k.machine.stack.base
  pub pc : j.machine.pc ≡ k.machine.pc
  pub waiting : j.machine.waiting.items ≡ k.machine.waiting.items
  pub status : j.status ≡ with_word k.status w

-- words of another heap have the values of the words of a process
pub record HasValues (h : List Cell) (k : Process) (g : List Cell) (ws : List Word) (w : Word) : Type 0 where
  pub registers : word_values g ws ≡ word_values h k.machine.stack.words.items
  pub last : word_value g w ≡ word_value h (word_in k.status)
  pub words : All (IsWordOf g) ws
  pub word : IsWordOf g w

-- a process whose words were moved to another heap, where they have their values, has the status that it had
abbrev pub ProcessesMove : Type 0
ProcessesMove = (m : Module) (own : ℕ) (code : Code) (h g : List Cell) (k j : Process) (ws : List Word) (w : Word)
    (b : InboxView) (x : MachineStatus) → HasValues h k g ws w → IsMoved k ws w j → IsAtStatus m own code h k b x
    → IsOver g j × IsAtStatus m own code g j b x

-- so are the constants of a code
abbrev pub ConstantsMove : Type 0
ConstantsMove = (h g : List Cell) (cs ws : List Word) (ks : List Value) → word_values g ws ≡ word_values h cs
    → All (IsWordOf g) ws → Have h cs 0 ks → AreWords g ws × Have g ws 0 ks
