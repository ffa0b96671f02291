use Rattle.std.proofs.Common.{rules, ◌≡◌, ◌+◌, ◌-◌, ◌∙◌, ap, subst, arith, take, drop}
use Rattle.std.proofs.lemmas.Grind.{common_steps}
use Rattle.pf_heap.specs.Heap.{block, cell_at, cell_value, cell_values, ArePartsBelow, IsInOrder}
use Rattle.pf_heap.proofs.Cells.{value_at}
use Rattle.pf_heap.proofs.heap.Heap.parts.Goals as goal

pub returns-in-Block-clause-value : goal.returns-in-Block-clause-value
returns-in-Block-clause-value c =
    let h = c.args.self.now in
    let cell : cell_at h c.args.at ≡ block (take (c.in-Block.start + c.in-Block.len - c.in-Block.start)
    (drop c.in-Block.start c.deref-in-Block.result.now)) = first_of (search rules, grind (arith, common_steps)) in
    let ordered : IsInOrder h = subst IsInOrder c.self.view_is c.self.invariant.ordered in
    value_at h c.args.at ordered c.requires.0 ∙ ap (cell_value (cell_values h)) cell

pub returns-in-Block-clause-parts : goal.returns-in-Block-clause-parts
returns-in-Block-clause-parts c =
    let h = c.args.self.now in
    let cell : cell_at h c.args.at ≡ block (take (c.in-Block.start + c.in-Block.len - c.in-Block.start)
    (drop c.in-Block.start c.deref-in-Block.result.now)) = first_of (search rules, grind (arith, common_steps)) in
    let ordered : IsInOrder h = subst IsInOrder c.self.view_is c.self.invariant.ordered in
    subst (ArePartsBelow h c.args.at) cell (ordered c.args.at c.requires.0)
