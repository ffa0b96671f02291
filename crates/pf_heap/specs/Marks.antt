-- Which cells are reached from words, and words that name the cells of another heap.
use Rattle.std.specs.Prelude.{◌≡◌, ◌<◌, ◌+◌, ◌≤◌, ℕ, Bool, true, false, List, length, fold, map, slice_index_or}
use Rattle.std.specs.Prelude.{slice_set}
use Rattle.std.specs.List.{All}
use Rattle.pf_heap.specs.Heap.{Cell, pair, block, cell_at, word_value, IsBelow, IsWordOf}
use Rattle.pf_heap.specs.declared.word.Word.{Word}
use Rattle.pf_heap.specs.declared.word.Word.TheVariants as word

-- how many cells there are at least, where a word names one of them
abbrev pub reach : Word → ℕ
reach (word.Tuple i) = i + 1
reach (word.Cons i) = i + 1
reach _ = 0

-- a word names the cell of an index
abbrev pub Names : ℕ → Word → Type 0
Names n (word.Tuple i) = i ≡ n
Names n (word.Cons i) = i ≡ n
Names n _ = ⊥

-- the marks with the cell of a word, or of several words
abbrev pub with_mark : List Bool → Word → List Bool
with_mark ms (word.Tuple i) = slice_set ms i true
with_mark ms (word.Cons i) = slice_set ms i true
with_mark ms _ = ms

abbrev pub with_marks : List Bool → List Word → List Bool
with_marks ms ws = fold with_mark ms ws

-- a word's cell is marked, or it has none
abbrev pub IsMarked : List Bool → Word → Type 0
IsMarked ms (word.Tuple i) = slice_index_or ms i false ≡ true
IsMarked ms (word.Cons i) = slice_index_or ms i false ≡ true
IsMarked ms _ = Unit {0}

-- the parts of a cell are marked
abbrev pub ArePartsMarked : List Bool → Cell → Type 0
ArePartsMarked ms (pair a t) = IsMarked ms a × IsMarked ms t
ArePartsMarked ms (block ws) = All (IsMarked ms) ws

-- from an index on, what is marked has its parts marked
abbrev pub IsClosedFrom : List Cell → ℕ → List Bool → Type 0
IsClosedFrom h i ms = (k : ℕ) → i ≤ k → k < length h → slice_index_or ms k false ≡ true
    → ArePartsMarked ms (cell_at h k)

-- what was marked still is
pub record IsMarkedMore (ms ns : List Bool) : Type 0 where
  pub count : length ns ≡ length ms
  pub marks : (k : ℕ) → slice_index_or ms k false ≡ true → slice_index_or ns k false ≡ true

-- the word that names a cell by its new index
abbrev pub renamed : List ℕ → Word → Word
renamed ps (word.Tuple i) = word.Tuple (slice_index_or ps i 0)
renamed ps (word.Cons i) = word.Cons (slice_index_or ps i 0)
renamed ps w = w

-- the cell whose parts are renamed
abbrev pub renamed_cell : List ℕ → Cell → Cell
renamed_cell ps (pair a t) = pair (renamed ps a) (renamed ps t)
renamed_cell ps (block ws) = block (map (renamed ps) ws)

-- of the cells below an index, those that are marked are in another heap, where words name them by their new indexes
pub record Moves (h : List Cell) (i : ℕ) (ms : List Bool) (ps : List ℕ) (g : List Cell) : Type 0 where
  pub words : (w : Word) → IsBelow h i w → IsMarked ms w → IsWordOf g (renamed ps w)
  pub values : (w : Word) → IsBelow h i w → IsMarked ms w → word_value g (renamed ps w) ≡ word_value h w
