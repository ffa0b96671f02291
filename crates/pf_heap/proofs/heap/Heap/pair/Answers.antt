use Rattle.std.proofs.Common.{rules, ◌≡◌, ◌∙◌, ap, subst, arith}
use Rattle.std.proofs.lemmas.Grind.{common_steps}
use Rattle.pf_heap.specs.Heap.{pair, cell_at, cell_value, cell_values, IsInOrder}
use Rattle.pf_heap.proofs.Cells.{value_at}
use Rattle.pf_heap.proofs.heap.Heap.pair.Goals as goal

pub returns-in-Pair-clause-value : goal.returns-in-Pair-clause-value
returns-in-Pair-clause-value c =
    let h = c.args.self.now in
    let cell : cell_at h c.args.at ≡ pair c.in-Pair.head c.in-Pair.tail =
    first_of (search rules, grind (arith, common_steps)) in
    let ordered : IsInOrder h = subst IsInOrder c.self.view_is c.self.invariant.ordered in
    value_at h c.args.at ordered c.requires.0 ∙ ap (cell_value (cell_values h)) cell
