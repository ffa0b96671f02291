use Rattle.std.proofs.Common.{◌≡◌, ◌≤◌, ◌∙◌, ap, subst, sym, length, arith}
use Rattle.std.specs.Prelude.{MatchOption, IfNone}
use Rattle.std.proofs.lemmas.List.{get_or_past}
use Rattle.pf_syntax.specs.Pattern.{any}
use Rattle.pf_syntax.specs.Module.{Checked, pattern_at}
use Rattle.pf_syntax.specs.Over.{pattern_over}
use Rattle.pf_syntax.specs.View.{tables_of}
use Rattle.pf_syntax.proofs.Formed.{by_entry, past_entry, pattern_of_node, count-patterns}
use Rattle.pf_syntax.proofs.module.Module.pattern.Goals as goal

pub returns-clause-found : goal.returns-clause-found
returns-clause-found c =
    let a = c.self.inside in
    let t = tables_of a in
    let n = count-patterns a in
    let i = c.args.id.0 in
    let at_entry = by_entry c.entry.result _ a.patterns.items i (pattern_at t i ≡ any)
    (λ x. pattern_over t x ≡ pattern_at t i) c.deref.ensures.value c.entry.ensures
    (λ h. get_or_past t.patterns i any (omega arith)) (λ x e. pattern_of_node a c.self.invariant i x e) in
    subst (λ (m : Checked). MatchOption c.entry.result (pattern_at m.tables i ≡ any)
    (λ x. pattern_over m.tables x.now ≡ pattern_at m.tables i)) c.self.view_is at_entry

pub returns-clause-absent : goal.returns-clause-absent
returns-clause-absent c =
    let a = c.self.inside in
    let past = past_entry c.entry.result _ a.patterns.items c.args.id.0 c.deref.ensures.value c.entry.ensures in
    subst (λ n. IfNone c.entry.result (n ≤ c.args.id.0))
    (sym (count-patterns a) ∙ ap (λ (m : Checked). length m.tables.patterns) c.self.view_is) past
