use Rattle.std.proofs.Common.{List, length, refl, subst, sym}
use Rattle.pf_heap.specs.Heap.{Cell, pair, cell_value, cell_values, ArePartsBelow}
use Rattle.pf_heap.specs.View.{IsSizeOf}
use Rattle.pf_heap.specs.declared.heap.Parts.TheVariants as parts
use Rattle.pf_heap.proofs.Entries.{pushed_sound}
use Rattle.pf_heap.proofs.heap.Heap.push_pair.Goals as goal

pub invariant_of-self-2 : goal.invariant_of-self-2
invariant_of-self-2 c =
    let a = c.self.inside in
    let cell = pair c.args.head c.args.tail in
    let below = subst (λ (h : List Cell). ArePartsBelow h (length h) cell) (sym c.self.view_is) c.requires.parts in
    let size = subst (λ (h : List Cell). IsSizeOf c.args.size (cell_value (cell_values h) cell)) (sym c.self.view_is)
    c.requires.size in
    pushed_sound a.items.items a.items.items a.entries.items
    (record { parts = parts.Pair c.args.head c.args.tail; size = c.args.size }) c.push.new.self.items
    c.in_ok-push.ensures.items refl c.self.invariant c.self.invariant.spans tt below size
