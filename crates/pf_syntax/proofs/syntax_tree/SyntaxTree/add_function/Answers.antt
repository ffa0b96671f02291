use Rattle.std.proofs.Common.{sym, subst}
use Rattle.pf_syntax.specs.SyntaxTree.{ExprArena}
use Rattle.pf_syntax.specs.SyntaxTreeOver.{HeadsAreThere}
use Rattle.pf_syntax.proofs.NodeTableGrown.{with_function_sound, same_functions_sound}
use Rattle.pf_syntax.proofs.syntax_tree.SyntaxTree.add_function.Goals as goal

pub invariant_of-self : goal.invariant_of-self
invariant_of-self c = same_functions_sound c.self.inside c.push.new.self c.in_err-push.ensures.items c.self.invariant

pub invariant_of-self-2 : goal.invariant_of-self-2
invariant_of-self-2 c =
    let is_there = subst (λ (m : ExprArena). HeadsAreThere m.node_table c.args.function)
    (sym c.self.view_is) c.requires in
    with_function_sound c.self.inside c.args.function c.push.new.self c.in_ok-push.ensures.items c.self.invariant
    is_there
