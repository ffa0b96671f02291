use Rattle.std.proofs.Common.{rules, ◌≡◌, ◌++◌, ◌∷◌, [], ℕ, true, false, get_or, length, ap, sym, ◌∙◌, arith}
use Rattle.std.proofs.lemmas.Grind.{common_steps}
use Rattle.pf_heap.specs.Heap.{cell_at}
use Rattle.pf_heap.specs.Marks.{renamed_cell}
use Rattle.pf_heap.proofs.Moves.{moves_step}
use Rattle.pf_heap.proofs.heap.Heap.move_cell.Goals as goal

pub returns-in_ok-move_pair-in-Cons-clause-moves : goal.returns-in_ok-move_pair-in-Cons-clause-moves
returns-in_ok-move_pair-in-Cons-clause-moves c =
    let h = c.args.self.now in
    let ms = c.args.marks.now in
    let ps = c.args.places.now in
    let g = c.args.other.now in
    let marked : get_or ms c.args.at false ≡ true = first_of (search rules, grind (arith, common_steps)) in
    let parts = c.requires.closed c.args.at (omega arith) c.requires.at marked in
    let added = c.in_ok-move_pair-in-Cons.ensures.added ∙ ap (λ (n : ℕ). g ++ renamed_cell ps (cell_at h n) ∷ [])
    c.in-Cons.ensures.names in
    moves_step h c.args.at ms ps g c.requires.count c.requires.moves c.move_pair.new.other c.is_in_order.ensures
    c.requires.at parts added

pub returns-in_ok-move_block-in-Tuple-clause-moves : goal.returns-in_ok-move_block-in-Tuple-clause-moves
returns-in_ok-move_block-in-Tuple-clause-moves c =
    let h = c.args.self.now in
    let ms = c.args.marks.now in
    let ps = c.args.places.now in
    let g = c.args.other.now in
    let marked : get_or ms c.args.at false ≡ true = first_of (search rules, grind (arith, common_steps)) in
    let parts = c.requires.closed c.args.at (omega arith) c.requires.at marked in
    let added = c.in_ok-move_block-in-Tuple.ensures.added ∙ ap (λ (n : ℕ). g ++ renamed_cell ps (cell_at h n) ∷ [])
    c.in-Tuple.ensures.names in
    moves_step h c.args.at ms ps g c.requires.count c.requires.moves c.move_block.new.other c.is_in_order.ensures
    c.requires.at parts added
