use Rattle.std.proofs.Common.{rules, ◌≡◌, List, Bool, ℕ, length, ap, sym, ◌∙◌, subst, arith}
use Rattle.std.specs.Prelude.{map}
use Rattle.std.specs.List.{All}
use Rattle.std.proofs.lemmas.Grind.{common_steps}
use Rattle.pf_heap.specs.Heap.{word_values, IsWordOf}
use Rattle.pf_heap.specs.Marks.{renamed, IsMarked}
use Rattle.pf_heap.specs.declared.word.Word.{Word}
use Rattle.pf_heap.proofs.Moves.{moved_values, moved_words}
use Rattle.pf_heap.proofs.heap.Heap.collect.Goals as goal

pub returns-clause-words : goal.returns-clause-words
returns-clause-words c =
    let h = c.args.self.now in
    let roots = c.args.roots.now in
    let ms = c.deref.result.now in
    let m = c.in_ok-heap.field-0 in
    let same : ms ≡ c.mark_from.new.marks = first_of (search rules, cc, grind (arith, common_steps)) in
    let marked : All (IsMarked ms) roots = subst (λ (x : List Bool). All (IsMarked x) roots)
    (sym same) c.mark_from.ensures.marked in
    let places : c.deref-2.result.now ≡ m.places.items = first_of (search rules, cc, grind (arith, common_steps)) in
    let put : c.put_renamed.new.out.items ≡ map (renamed m.places.items) roots = c.in_ok-put_renamed.ensures
    ∙ ap (λ (ps : List ℕ). map (renamed ps) roots) places in
    subst (All (IsWordOf m.heap)) (sym put) (moved_words h (length h) ms m.places.items m.heap
    c.in_ok-heap.ensures.moves roots c.requires marked)

pub returns-clause-values : goal.returns-clause-values
returns-clause-values c =
    let h = c.args.self.now in
    let roots = c.args.roots.now in
    let ms = c.deref.result.now in
    let m = c.in_ok-heap.field-0 in
    let same : ms ≡ c.mark_from.new.marks = first_of (search rules, cc, grind (arith, common_steps)) in
    let marked : All (IsMarked ms) roots = subst (λ (x : List Bool). All (IsMarked x) roots)
    (sym same) c.mark_from.ensures.marked in
    let places : c.deref-2.result.now ≡ m.places.items = first_of (search rules, cc, grind (arith, common_steps)) in
    let put : c.put_renamed.new.out.items ≡ map (renamed m.places.items) roots = c.in_ok-put_renamed.ensures
    ∙ ap (λ (ps : List ℕ). map (renamed ps) roots) places in
    ap (word_values m.heap) put ∙ moved_values h (length h) ms m.places.items m.heap c.in_ok-heap.ensures.moves roots
    c.requires marked
