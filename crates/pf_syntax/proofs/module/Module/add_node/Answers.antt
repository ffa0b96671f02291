use Rattle.std.proofs.Common.{◌∙◌, ap, subst, sym, length, arith}
use Rattle.pf_syntax.specs.Module.{Checked}
use Rattle.pf_syntax.specs.Over.{with_tables, with_tree}
use Rattle.pf_syntax.specs.Within.{PartsAreThere}
use Rattle.pf_syntax.proofs.Formed.{count-trees}
use Rattle.pf_syntax.proofs.Grown.{with_node_sound, with_node_view}
use Rattle.pf_syntax.proofs.module.Module.add_node.Goals as goal

pub invariant_of-self-2 : goal.invariant_of-self-2
invariant_of-self-2 c =
    let is_there = subst (λ (m : Checked). PartsAreThere m.tables c.args.node) (sym c.self.view_is) c.requires in
    with_node_sound c.self.inside c.args.node c.push.new.self c.in_ok-push.ensures.items c.self.invariant is_there

pub returns-clause-id : goal.returns-clause-id
returns-clause-id c =
    let e = ap (λ (m : Checked). length m.tables.trees) c.self.view_is in
    omega (arith, e, count-trees c.self.inside)

pub returns-clause-added : goal.returns-clause-added
returns-clause-added c =
    let is_there = subst (λ (m : Checked). PartsAreThere m.tables c.args.node) (sym c.self.view_is) c.requires in
    with_node_view c.self.inside c.args.node c.push.new.self c.in_ok-push.ensures.items c.self.invariant is_there
    ∙ ap (λ (m : Checked). with_tables m (with_tree m.tables c.args.node)) c.self.view_is
