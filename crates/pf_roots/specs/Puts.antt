-- Words that are put in place of those of machines, one after the other.
use Rattle.std.specs.Prelude.{◌≡◌, List, [], ◌∷◌, ◌++◌, length}
use Rattle.std.specs.List.{All}
use Rattle.pf_heap.specs.Heap.{Cell, word_values, IsWordOf}
use Rattle.pf_heap.specs.declared.word.Word.{Word}
use Rattle.pf_machine.specs.declared.machine.Machine.{Machine}
use Rattle.pf_roots.specs.Moved.{IsMoved}
use Rattle.pf_roots.specs.Kept.{words_of, IsKept}

-- the first of these words are in place of those of a machine, and these are left
pub record IsPut (k : Machine) (ws : List Word) (j : Machine) (rest : List Word) : Type 0 where
  pub own : List Word
  pub last : Word
  pub all : ws ≡ own ++ last ∷ rest
  pub count : length own ≡ length k.process.machine.stack.words.items
  pub moved : IsMoved k.process own last j.process
  pub spent : j.spent ≡ k.spent

-- so it is of each machine, with the words that those before left
abbrev pub ArePut : List Machine → List Word → List Machine → Type 0
ArePut [] ws [] = Unit {0}
ArePut [] ws (j ∷ js) = ⊥
ArePut (k ∷ ks) ws [] = ⊥
ArePut (k ∷ ks) ws (j ∷ js) = (rest : List Word) × IsPut k ws j rest × ArePut ks rest js

-- a machine is as it was, and the words that are left have the values of these
pub record IsPutKept (h g : List Cell) (k j : Machine) (rest us : List Word) : Type 0 where
  pub kept : IsKept h k g j
  pub values : word_values g rest ≡ word_values h us
  pub words : All (IsWordOf g) rest

abbrev pub PutMachinesAreKept : Type 0
PutMachinesAreKept = (h g : List Cell) (k : Machine) (ws : List Word) (j : Machine) (rest us : List Word)
    → IsPut k ws j rest → word_values g ws ≡ word_values h (words_of k.process ++ us) → All (IsWordOf g) ws
    → IsPutKept h g k j rest us
