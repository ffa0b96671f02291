-- The machines and the constants of a whole run after a collection.
use Rattle.std.specs.Prelude.{◌≡◌, ◌*◌, ℕ, List, [], ◌∷◌, ◌++◌, max}
use Rattle.std.specs.List.{All}
use Rattle.pf_terms.specs.Value.{Value}
use Rattle.pf_heap.specs.Heap.{Cell, word_values, IsWordOf}
use Rattle.pf_heap.specs.declared.word.Word.{Word}
use Rattle.pf_model.specs.Module.{Module}
use Rattle.pf_code.specs.Sound.{Code}
use Rattle.pf_loop.specs.View.{AreWords, Have}
use Rattle.pf_stepper.specs.MachineView.{MachineStatus}
use Rattle.pf_turns.specs.declared.process.Process.{Process}
use Rattle.pf_inbox.specs.InboxView.{InboxView}
use Rattle.pf_machine.specs.Statuses.{IsOver, IsAtStatus}
use Rattle.pf_machine.specs.declared.machine.Machine.{Machine}
use Rattle.pf_roots.specs.Moved.{word_in}

-- the words of a process: those of its registers, and that of its status
abbrev pub words_of : Process → List Word
words_of k = k.machine.stack.words.items ++ word_in k.status ∷ []

-- the words of all machines, in order
abbrev pub all_words_of : List Machine → List Word
all_words_of [] = []
all_words_of (k ∷ ks) = words_of k.process ++ all_words_of ks

-- the words of all machines are of this heap
abbrev pub AreOver : List Cell → List Machine → Type 0
AreOver h [] = Unit {0}
AreOver h (k ∷ ks) = IsOver h k.process × AreOver h ks

-- a machine has over another heap each status that it had, with the same messages
pub record IsKept (h : List Cell) (k : Machine) (g : List Cell) (j : Machine) : Type 0 where
  pub over : IsOver g j.process
  pub spent : j.spent ≡ k.spent
  pub status : (m : Module) (own : ℕ) (code : Code) (b : InboxView) (x : MachineStatus)
      → IsAtStatus m own code h k.process b x → IsAtStatus m own code g j.process b x

-- so has each of these machines
abbrev pub AreKept : List Cell → List Machine → List Cell → List Machine → Type 0
AreKept h [] g [] = Unit {0}
AreKept h [] g (j ∷ js) = ⊥
AreKept h (k ∷ ks) g [] = ⊥
AreKept h (k ∷ ks) g (j ∷ js) = IsKept h k g j × AreKept h ks g js

-- constants have the values that they had
pub record ConstantsKept (h : List Cell) (cs : List Word) (g : List Cell) (ws : List Word) : Type 0 where
  pub words : All (IsWordOf g) ws
  pub values : word_values g ws ≡ word_values h cs

-- how many cells there may be before a collection is tried, where so many lived after the last one
abbrev pub most_cells : ℕ → ℕ
most_cells lived = 2 * max lived 4096

-- constants that have the values that they had are those of the same code
abbrev pub KeptConstantsAre : Type 0
KeptConstantsAre = (h g : List Cell) (cs ws : List Word) (ks : List Value) → ConstantsKept h cs g ws
    → Have h cs 0 ks → AreWords g ws × Have g ws 0 ks
