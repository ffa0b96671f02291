use Rattle.std.proofs.Common.{◌∙◌}
use Rattle.pf_syntax.specs.Module.{tree_at}
use Rattle.pf_positions.proofs.Inner.{next_of, one_operand, several_operands, two_operands}
use Rattle.pf_positions.proofs.innermost.next_part.Goals as goal

pub returns-in-Negate : goal.returns-in-Negate
returns-in-Negate c =
    let t = c.args.module.now.tables in
    let n = c.in_ok-parts.field-0.now in
    next_of t n _ c.following.result.now c.args.done (tree_at t c.args.id.0) _ c.in_ok-parts.ensures.found
    (one_operand n c.in-Negate.a c.in-Negate.is)
    c.following.ensures c.first_node.ensures

pub returns-in-Cons : goal.returns-in-Cons
returns-in-Cons c =
    let t = c.args.module.now.tables in
    let n = c.in_ok-parts.field-0.now in
    next_of t n _ c.following-in-Cons.result.now c.args.done (tree_at t c.args.id.0) _ c.in_ok-parts.ensures.found
    (two_operands n c.in-Cons.a c.in-Cons.b c.in-Cons.is)
    c.following-in-Cons.ensures c.first_node-in-Cons.ensures

pub returns-in-Tuple : goal.returns-in-Tuple
returns-in-Tuple c =
    let t = c.args.module.now.tables in
    let n = c.in_ok-parts.field-0.now in
    next_of t n _ c.following-in-Tuple.result.now c.args.done (tree_at t c.args.id.0) _ c.in_ok-parts.ensures.found
    (c.as_slice.ensures.value ∙ several_operands n c.in-Tuple.parts c.in-Tuple.is)
    c.following-in-Tuple.ensures c.first_node-in-Tuple.ensures
