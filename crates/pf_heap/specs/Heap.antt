-- The cells of a heap, and the value of a word over them.
use Rattle.std.specs.Prelude.{◌≡◌, ◌<◌, ◌^◌, ℕ, List, [], ◌∷◌, ◌++◌, length, fold, slice_index_or}
use Rattle.std.specs.List.{All}
use Rattle.pf_terms.specs.Value.{Value, Values, int, atom, ref, pid, tuple, list, none, more}
use Rattle.pf_heap.specs.declared.word.Word.{Word}
use Rattle.pf_heap.specs.declared.word.Word.TheVariants as word

-- a pair is a first element and the word of a list; a block is the elements of a tuple
pub data Cell : Type 0 where
  pair : Word → Word → Cell
  block : List Word → Cell

-- the elements of a tuple or a list
abbrev pub elements : Value → Values
elements (tuple vs) = vs
elements (list vs) = vs
elements _ = none

-- the value of a word, where these are the values of the cells
abbrev pub value_over : List Value → Word → Value
value_over vs (word.Int n) = int n
value_over vs (word.Atom a) = atom a
value_over vs (word.Ref r) = ref r
value_over vs (word.Pid p) = pid p
value_over vs (word.Tuple i) = slice_index_or vs i (list none)
value_over vs word.Nil = list none
value_over vs (word.Cons i) = slice_index_or vs i (list none)

-- the values of several words
abbrev pub values_over : List Value → List Word → Values
values_over vs [] = none
values_over vs (w ∷ ws) = more (value_over vs w) (values_over vs ws)

-- the value of a cell, where these are the values of the cells before it
abbrev pub cell_value : List Value → Cell → Value
cell_value vs (pair h t) = list (more (value_over vs h) (elements (value_over vs t)))
cell_value vs (block ws) = tuple (values_over vs ws)

-- the values of the cells with one more cell, which is last
abbrev pub with_cell : List Value → Cell → List Value
with_cell vs c = vs ++ cell_value vs c ∷ []

-- the values of the cells of a heap, in order
unfoldable pub cell_values : List Cell → List Value
cell_values h = fold with_cell [] h

-- the value of a word of a heap
abbrev pub word_value : List Cell → Word → Value
word_value h w = value_over (cell_values h) w

-- the values of several words of a heap
abbrev pub word_values : List Cell → List Word → Values
word_values h ws = values_over (cell_values h) ws

-- the list of a first element and the elements of another list
abbrev pub pair_value : List Cell → Word → Word → Value
pair_value h a t = list (more (word_value h a) (elements (word_value h t)))

-- the tuple of these elements
abbrev pub block_value : List Cell → List Word → Value
block_value h ws = tuple (word_values h ws)

-- the elements of a list are a first element and those of another list
abbrev pub IsSplit : List Cell → Word → Word → Word → Type 0
IsSplit h w a t = elements (word_value h w) ≡ more (word_value h a) (elements (word_value h t))

-- the cell of an index
abbrev pub cell_at : List Cell → ℕ → Cell
cell_at h i = slice_index_or h i (block [])

abbrev pub IsPair : Cell → Type 0
IsPair (pair h t) = Unit {0}
IsPair (block ws) = ⊥

abbrev pub IsBlock : Cell → Type 0
IsBlock (pair h t) = ⊥
IsBlock (block ws) = Unit {0}

-- a word names a cell of its own kind below an index, or none
abbrev pub IsBelow : List Cell → ℕ → Word → Type 0
IsBelow h k (word.Int n) = Unit {0}
IsBelow h k (word.Atom a) = a < 2 ^ 32
IsBelow h k (word.Ref r) = Unit {0}
IsBelow h k (word.Pid p) = p < 2 ^ 32
IsBelow h k (word.Tuple i) = (i < k) × IsBlock (cell_at h i)
IsBelow h k word.Nil = Unit {0}
IsBelow h k (word.Cons i) = (i < k) × IsPair (cell_at h i)

-- a word of this heap
abbrev pub IsWordOf : List Cell → Word → Type 0
IsWordOf h w = IsBelow h (length h) w

-- a word that names a list
abbrev pub IsList : Word → Type 0
IsList word.Nil = Unit {0}
IsList (word.Cons i) = Unit {0}
IsList _ = ⊥

-- the parts of a cell name cells below an index
abbrev pub ArePartsBelow : List Cell → ℕ → Cell → Type 0
ArePartsBelow h k (pair a t) = IsBelow h k a × IsBelow h k t × IsList t
ArePartsBelow h k (block ws) = All (IsBelow h k) ws

-- each cell comes after its parts
abbrev pub IsInOrder : List Cell → Type 0
IsInOrder h = (k : ℕ) → k < length h → ArePartsBelow h k (cell_at h k)

-- each word of a heap is one of another heap, with the value that it had
pub record Keeps (h g : List Cell) : Type 0 where
  pub words : (w : Word) → IsWordOf h w → IsWordOf g w
  pub values : (w : Word) → IsWordOf h w → word_value g w ≡ word_value h w
