use Rattle.std.proofs.Common.{◌≡◌, ◌≤◌, ◌∙◌, ap, subst, sym, length, arith}
use Rattle.std.specs.Prelude.{MatchOption, IfNone}
use Rattle.std.proofs.lemmas.List.{get_or_past}
use Rattle.pf_terms.specs.Value.{list, none}
use Rattle.pf_syntax.specs.Tree.{lit}
use Rattle.pf_syntax.specs.Module.{Checked, tree_at}
use Rattle.pf_syntax.specs.Over.{tree_over}
use Rattle.pf_syntax.specs.View.{tables_of}
use Rattle.pf_syntax.proofs.Formed.{by_entry, past_entry, tree_of_node, count-trees}
use Rattle.pf_syntax.proofs.module.Module.node.Goals as goal

pub returns-clause-found : goal.returns-clause-found
returns-clause-found c =
    let a = c.self.inside in
    let t = tables_of a in
    let n = count-trees a in
    let i = c.args.id.0 in
    let at_entry = by_entry c.entry.result _ a.nodes.items i (tree_at t i ≡ lit (list none))
    (λ x. tree_over t x ≡ tree_at t i) c.deref.ensures.value c.entry.ensures
    (λ h. get_or_past t.trees i (lit (list none)) (omega arith)) (λ x e. tree_of_node a c.self.invariant i x e) in
    subst (λ (m : Checked). MatchOption c.entry.result (tree_at m.tables i ≡ lit (list none))
    (λ x. tree_over m.tables x.now ≡ tree_at m.tables i)) c.self.view_is at_entry

pub returns-clause-absent : goal.returns-clause-absent
returns-clause-absent c =
    let a = c.self.inside in
    let past = past_entry c.entry.result _ a.nodes.items c.args.id.0 c.deref.ensures.value c.entry.ensures in
    subst (λ n. IfNone c.entry.result (n ≤ c.args.id.0))
    (sym (count-trees a) ∙ ap (λ (m : Checked). length m.tables.trees) c.self.view_is) past
