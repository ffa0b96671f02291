use Rattle.std.proofs.Common.{sym, ◌∙◌}
use Rattle.pf_lower.proofs.function_table.FunctionTable.find.Goals as goal

pub returns-in_err-number : goal.returns-in_err-number
returns-in_err-number c =
    rw c.from_residual.ensures (sym (c.requires c.args.name.0 c.args.arity) ∙ sym c.in_err-number.ensures.value)

pub returns : goal.returns
returns c = sym (c.requires c.args.name.0 c.args.arity) ∙ sym c.in_ok-number.ensures.value
