use Rattle.std.proofs.Common.{◌≡◌, vec_len}
use Rattle.std.specs.List.{All}
use Rattle.pf_heap.specs.Heap.{elements, word_value, word_values, IsList, IsWordOf, Keeps}
use Rattle.pf_heap.proofs.Runs.{joined}
use Rattle.pf_heap.proofs.heap.Heap.put_list.Given as goal

-- what is left, before what was made, is the whole
abbrev pub invariant-loop-word : goal.invariant-loop-word
invariant-loop-word l = record {
  whole : joined (word_values l.self l.words.items) (elements (word_value l.self l.made))
      ≡ word_values l.fn.self l.fn.words.items;
  words : All (IsWordOf l.self) l.words.items;
  word : IsWordOf l.self l.made;
  list : IsList l.made;
  keeps : Keeps l.fn.self l.self;
}

abbrev pub decreases-loop-word : goal.decreases-loop-word
decreases-loop-word l = vec_len l.words
