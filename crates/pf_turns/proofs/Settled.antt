-- What comes of a call of a built-in function.
use Rattle.std.proofs.Common.{◌≡◌, ◌+◌, ℕ, List, sym, ap, ◌∙◌}
use Rattle.pf_heap.specs.Heap.{Cell, word_values, Keeps}
use Rattle.pf_heap.specs.declared.word.Word.{Word}
use Rattle.pf_code.specs.Registers.{row}
use Rattle.pf_code.specs.Machine.{State}
use Rattle.pf_loop.specs.View.{words_from, AreWords, Have, SameWords}
use Rattle.pf_loop.specs.Run.{IsIn}
use Rattle.pf_loop.specs.declared.machine.Machine.{Machine}
use Rattle.pf_loop.proofs.Words.{have_same, row_is}
use Rattle.pf_loop.proofs.Followed.{in_stays}

-- a machine whose places were made is where it was
pub still : (h g : List Cell) (old new : Machine) (s : State) → Keeps h g → AreWords h old.stack.words.items
    → SameWords old.stack.words.items new.stack.words.items → new.stack.base ≡ old.stack.base → new.pc ≡ old.pc
    → new.waiting.items ≡ old.waiting.items → IsIn h old s → IsIn g new s
still h g old new s k a words base pc waiting at =
    in_stays h g old new s k a (record { words = words; base = base; pc = pc; waiting = waiting }) at.at at.registers

-- the words of a row have the values of its registers
pub row_values : (h : List Cell) (old new : Machine) (s : State) (from n : ℕ) (ws : List Word)
    → SameWords old.stack.words.items new.stack.words.items → new.stack.base ≡ old.stack.base
    → ws ≡ words_from new.stack.words.items (new.stack.base + from) n → IsIn h old s
    → word_values h ws ≡ row s.registers from n
row_values h old new s from n ws words base e at =
    let us = new.stack.words.items in
    let have : Have h us old.stack.base s.registers =
    have_same h old.stack.words.items us old.stack.base s.registers words
    at.registers in
    ap (word_values h) e
    ∙ row_is h us old.stack.base s.registers from n (new.stack.base + from) have (ap (λ k. k + from) (sym base))
