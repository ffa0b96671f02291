-- What the fields of a heap stand for, and what is true of them.
use Rattle.std.specs.Prelude.{◌≡◌, ◌<◌, ◌≤◌, ◌+◌, ℕ, List, length, map, take, drop, slice_index_or}
use Rattle.std.specs.List.{All}
use Rattle.pf_terms.specs.Value.{Value, list, none, nodes_in, depth_in}
use Rattle.pf_terms.specs.declared.limits.TheConstants.{MOST_DEPTH, MOST_NODES}
use Rattle.pf_heap.specs.Heap.{Cell, pair, block, elements, cell_values, IsInOrder}
use Rattle.pf_heap.specs.declared.word.Word.{Word}
use Rattle.pf_heap.specs.declared.heap.Size.{Size}
use Rattle.pf_heap.specs.declared.heap.Entry.{Entry}
use Rattle.pf_heap.specs.declared.heap.Parts.{Parts}
use Rattle.pf_heap.specs.declared.heap.Parts.TheVariants as parts

-- the cell of these parts, where these are the elements of all tuples
abbrev pub cell_of_parts : List Word → Parts → Cell
cell_of_parts ws (parts.Pair h t) = pair h t
cell_of_parts ws (parts.Block start len) = block (take len (drop start ws))

abbrev pub cell_of : List Word → Entry → Cell
cell_of ws e = cell_of_parts ws e.parts

-- the cells of a heap with these elements of tuples and these entries
abbrev pub cells_of : List Word → List Entry → List Cell
cells_of ws es = map (cell_of ws) es

-- the elements of a tuple are there
abbrev pub IsSpan : List Word → Parts → Type 0
IsSpan ws (parts.Pair h t) = Unit {0}
IsSpan ws (parts.Block start len) = start + len ≤ length ws

-- the nodes and the depth of a value's elements, which are within the limits
pub record IsSizeOf (s : Size) (v : Value) : Type 0 where
  pub nodes : s.nodes ≡ nodes_in (elements v)
  pub depth : s.depth ≡ depth_in (elements v)
  pub few : s.nodes < MOST_NODES
  pub shallow : s.depth < MOST_DEPTH

-- each entry has the size of its value
abbrev pub AreMeasured : List Entry → List Value → Type 0
AreMeasured es vs = (k : ℕ) (d : Entry) → k < length es
    → IsSizeOf (slice_index_or es k d).size (slice_index_or vs k (list none))

-- each cell comes after its parts, its elements are there, and it has the size of its value
pub record IsSound (ws : List Word) (es : List Entry) : Type 0 where
  pub spans : All (λ e. IsSpan ws e.parts) es
  pub ordered : IsInOrder (cells_of ws es)
  pub measured : AreMeasured es (cell_values (cells_of ws es))
