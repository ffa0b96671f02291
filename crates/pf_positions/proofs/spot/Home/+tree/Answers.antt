use Rattle.std.proofs.Common.{◌≡◌, ◌<◌, ◌∙◌, List, ap, length, get_or, arith}
use Rattle.pf_syntax.specs.Over.{parts_over}
use Rattle.pf_syntax.specs.declared.node.Alternative.{Alternative}
use Rattle.pf_syntax.specs.declared.node.Operand.{Operand}
use Rattle.pf_positions.proofs.Weights.{alternative_lighter, clause_lighter, clause_weight, guard_of_some, guard_weight}
use Rattle.pf_positions.proofs.Weights.{tree_lighter, weights}
use Rattle.pf_positions.proofs.spot.Home.+tree.Goals as goal

pub put_clauses-put_clause-requires : goal.put_clauses-put_clause-requires
put_clauses-put_clause-requires t c =
    let tables = c.args.self.module.now.tables in
    let h = clause_lighter tables c.args.clauses.now c.loop-clause.clause-index c.clause-item.result (omega arith) in
    let e = ap (clause_weight tables) c.clause-item.is in
    (omega (arith, h, e, c.decreases), tt)

pub put_trees-put_tree-requires : goal.put_trees-put_tree-requires
put_trees-put_tree-requires t c =
    let lt : c.loop-operand.operand-index < length c.args.operands.now = omega arith in
    let h = λ (d : Operand). tree_lighter c.args.self.module.now.tables c.args.operands.now
    c.loop-operand.operand-index d lt in
    (omega (arith, h, c.decreases), tt)

pub put_guard-put_trees-requires : goal.put_guard-put_trees-requires
put_guard-put_trees-requires t c =
    let tables = c.args.self.module.now.tables in
    let gs = c.args.guard.now.alternatives.items in
    let i = c.loop-alternative.alternative-index in
    let value = c.deref-alternative-items.ensures.value in
    let lt : i < length gs = omega (arith, ap length value) in
    let at : c.alternative-item.result ≡ get_or gs i c.alternative-item.result =
    c.alternative-item.is ∙ ap (λ (l : List Alternative). get_or l i c.alternative-item.result) value in
    let h = alternative_lighter tables gs i c.alternative-item.result lt in
    let e = ap (λ (g : Alternative). weights (parts_over tables g.tests.items)) at in
    let f = ap (λ (l : List Operand). weights (parts_over tables l)) c.as_slice.ensures.value in
    let g = ap guard_weight (guard_of_some tables gs i lt) in
    (omega (arith, h, e, f, g, c.decreases), tt)
