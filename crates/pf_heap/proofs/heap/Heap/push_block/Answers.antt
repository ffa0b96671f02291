use Rattle.std.proofs.Common.{rules, ◌≡◌, ◌++◌, ◌∷◌, [], List, length, subst, sym, ap, ◌∙◌, arith}
use Rattle.std.specs.List.{All}
use Rattle.std.proofs.lemmas.List.{length-append}
use Rattle.pf_heap.specs.Heap.{Cell, block, cell_value, cell_values, ArePartsBelow}
use Rattle.pf_heap.specs.View.{cell_of, cells_of, IsSizeOf, IsSpan}
use Rattle.pf_heap.specs.declared.word.Word.{Word}
use Rattle.pf_heap.specs.declared.heap.Entry.{Entry}
use Rattle.pf_heap.specs.declared.heap.Parts.TheVariants as parts
use Rattle.pf_heap.proofs.Entries.{pushed_sound, pushed_view, sound_longer, cells_longer, spans_longer, block_at_end}
use Rattle.pf_heap.proofs.heap.Heap.push_block.Goals as goal

pub invariant_of-self-in_err-push : goal.invariant_of-self-in_err-push
invariant_of-self-in_err-push c =
    let a = c.self.inside in
    let longer = sound_longer a.items.items c.args.words.now c.extend_from_slice.new.self.items a.entries.items
    c.in_ok-extend_from_slice.ensures.items c.self.invariant in
    rw c.in_err-push.ensures.items longer

pub returns-in_err-push-clause-err : goal.returns-in_err-push-clause-err
returns-in_err-push-clause-err c =
    let a = c.self.inside in
    let ws = a.items.items in
    let longer : cells_of c.extend_from_slice.new.self.items a.entries.items ≡ cells_of ws a.entries.items =
    ap (λ (x : List Word). cells_of x a.entries.items) c.in_ok-extend_from_slice.ensures.items
    ∙ cells_longer ws c.args.words.now a.entries.items c.self.invariant.spans in
    let same : cells_of c.extend_from_slice.new.self.items c.push.new.self.items ≡ c.args.self.now =
    rw c.in_err-push.ensures.items (longer ∙ c.self.view_is) in
    search (rules, same)

pub invariant_of-self-2 : goal.invariant_of-self-2
invariant_of-self-2 c =
    let a = c.self.inside in
    let ws = a.items.items in
    let us = c.args.words.now in
    let start : c.len-start.result ≡ length ws = search rules in
    let entry : Entry = record { parts = parts.Block c.len-start.result (length us); size = c.args.size } in
    let items = c.in_ok-extend_from_slice.ensures.items in
    let cell : cell_of c.extend_from_slice.new.self.items entry ≡ block us =
    rw (items, start) (ap block (block_at_end ws us)) in
    let longer : cells_of c.extend_from_slice.new.self.items a.entries.items ≡ cells_of ws a.entries.items =
    ap (λ (x : List Word). cells_of x a.entries.items) items ∙ cells_longer ws us a.entries.items
    c.self.invariant.spans in
    let spans : All (λ (e : Entry). IsSpan c.extend_from_slice.new.self.items e.parts) a.entries.items =
    rw items (spans_longer ws us a.entries.items c.self.invariant.spans) in
    let span : IsSpan c.extend_from_slice.new.self.items entry.parts =
    rw (items, start) (omega (arith, length-append ws us)) in
    let below = subst (λ (h : List Cell). ArePartsBelow h (length h) (block us)) (sym c.self.view_is)
    c.requires.parts in
    let size = subst (λ (h : List Cell). IsSizeOf c.args.size (cell_value (cell_values h) (block us)))
    (sym c.self.view_is) c.requires.size in
    let h = cells_of ws a.entries.items in
    pushed_sound ws c.extend_from_slice.new.self.items a.entries.items entry c.push.new.self.items
    c.in_ok-push.ensures.items longer c.self.invariant spans span
    (subst (ArePartsBelow h (length h)) (sym cell) below)
    (subst (λ (x : Cell). IsSizeOf c.args.size (cell_value (cell_values h) x)) (sym cell) size)

pub returns-clause-added : goal.returns-clause-added
returns-clause-added c =
    let a = c.self.inside in
    let ws = a.items.items in
    let us = c.args.words.now in
    let start : c.len-start.result ≡ length ws = search rules in
    let entry : Entry = record { parts = parts.Block c.len-start.result (length us); size = c.args.size } in
    let items = c.in_ok-extend_from_slice.ensures.items in
    let cell : cell_of c.extend_from_slice.new.self.items entry ≡ block us =
    rw (items, start) (ap block (block_at_end ws us)) in
    let longer : cells_of c.extend_from_slice.new.self.items a.entries.items ≡ cells_of ws a.entries.items =
    ap (λ (x : List Word). cells_of x a.entries.items) items ∙ cells_longer ws us a.entries.items
    c.self.invariant.spans in
    pushed_view ws c.extend_from_slice.new.self.items a.entries.items entry c.push.new.self.items
    c.in_ok-push.ensures.items longer
    ∙ ap (λ (h : List Cell). h ++ cell_of c.extend_from_slice.new.self.items entry ∷ []) c.self.view_is
    ∙ ap (λ (x : Cell). c.args.self.now ++ x ∷ []) cell
