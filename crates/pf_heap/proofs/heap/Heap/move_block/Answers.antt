use Rattle.std.proofs.Common.{◌≡◌, List, ap, sym, ◌∙◌, subst, arith}
use Rattle.std.specs.Prelude.{map}
use Rattle.std.specs.List.{All}
use Rattle.pf_terms.specs.Value.{Value, Values, tuple}
use Rattle.pf_heap.specs.Heap.{Cell, block, values_over, cell_values, IsWordOf}
use Rattle.pf_heap.specs.Marks.{renamed, ArePartsMarked, IsMarked}
use Rattle.pf_heap.specs.View.{IsSizeOf}
use Rattle.pf_heap.specs.declared.word.Word.{Word}
use Rattle.pf_heap.proofs.Moves.{moved_values, moved_words}
use Rattle.pf_heap.proofs.heap.Heap.move_block.Goals as goal

pub push_block-requires-clause-parts : goal.push_block-requires-clause-parts
push_block-requires-clause-parts c =
    let ms = c.args.marks.now in
    let ps = c.args.places.now in
    let g = c.args.other.now in
    let ws = c.parts.result.now in
    let is : c.deref.result.now ≡ map (renamed ps) ws = c.deref.ensures.value ∙ c.in_ok-put_renamed.ensures in
    let marked : All (IsMarked ms) ws = subst (ArePartsMarked ms) c.parts.ensures.cell c.requires.parts in
    let there = moved_words c.args.self.now c.args.at ms ps g c.requires.moves ws c.parts.ensures.parts marked in
    subst (All (IsWordOf g)) (sym is) there

pub push_block-requires-clause-size : goal.push_block-requires-clause-size
push_block-requires-clause-size c =
    let ms = c.args.marks.now in
    let ps = c.args.places.now in
    let g = c.args.other.now in
    let ws = c.parts.result.now in
    let is : c.deref.result.now ≡ map (renamed ps) ws = c.deref.ensures.value ∙ c.in_ok-put_renamed.ensures in
    let marked : All (IsMarked ms) ws = subst (ArePartsMarked ms) c.parts.ensures.cell c.requires.parts in
    let values = moved_values c.args.self.now c.args.at ms ps g c.requires.moves ws c.parts.ensures.parts marked in
    let size = subst (λ (v : Value). IsSizeOf c.size.result v) c.parts.ensures.value c.size.ensures in
    let moved = subst (λ (vs : Values). IsSizeOf c.size.result (tuple vs)) (sym values) size in
    subst (λ (xs : List Word). IsSizeOf c.size.result (tuple (values_over (cell_values g) xs))) (sym is) moved
