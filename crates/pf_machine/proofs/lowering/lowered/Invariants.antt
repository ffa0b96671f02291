use Rattle.std.proofs.Common.{◌≡◌, length}
use Rattle.std.specs.List.{All}
use Rattle.pf_terms.specs.Term.{values_of}
use Rattle.pf_heap.specs.Heap.{word_values, IsWordOf, Keeps}
use Rattle.pf_heap.proofs.Runs.{joined}
use Rattle.pf_machine.proofs.lowering.lowered.Given as goal

-- what was lowered, and what is left, are the whole
abbrev pub invariant-loop-first : goal.invariant-loop-first
invariant-loop-first l = record {
  whole : joined (word_values l.heap l.words.items) (values_of l.rest) ≡ values_of l.fn.terms;
  words : All (IsWordOf l.heap) l.words.items;
  keeps : Keeps l.fn.heap l.heap;
}

abbrev pub decreases-loop-first : goal.decreases-loop-first
decreases-loop-first l = length l.rest
