use Rattle.std.proofs.Common.{refl}
use Rattle.pf_syntax.specs.Expr as p
use Rattle.pf_syntax.specs.declared.node.Operand.TheVariants as part
use Rattle.pf_lower.proofs.Exprs_mean.{expr_here, variable_means}
use Rattle.pf_lower.proofs.expressions.variable.Goals as goal

pub returns-in-Some : goal.returns-in-Some
returns-in-Some c =
    let fs = c.args.syntax.now.functions in
    let x = c.args.ident.name.0 in
    let at = c.args.ident.offset in
    expr_here fs c.args.module.now c.args.slots.now _ (p.variable x at) (part.Slot c.in-Some.slot) refl tt
    (λ g e f k. variable_means _ g c.args.slots.now x at c.in-Some.slot e c.in-Some.ensures)
