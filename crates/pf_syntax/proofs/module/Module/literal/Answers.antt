use Rattle.std.proofs.Common.{◌≡◌, ◌≤◌, ◌∙◌, ap, subst, sym, length}
use Rattle.std.specs.Prelude.{MatchOption, IfNone}
use Rattle.pf_terms.specs.Value.{list, none}
use Rattle.pf_terms.specs.Term.{value_of}
use Rattle.pf_syntax.specs.Module.{Checked, literal_at}
use Rattle.pf_syntax.specs.View.{tables_of}
use Rattle.pf_syntax.proofs.Formed.{by_entry, past_entry, literal_of_term, literal_past, count-literals}
use Rattle.pf_syntax.proofs.module.Module.literal.Goals as goal

pub returns-clause-found : goal.returns-clause-found
returns-clause-found c =
    let a = c.self.inside in
    let t = tables_of a in
    let i = c.args.id.0 in
    let at_entry = by_entry c.entry.result _ a.literals.items i (literal_at t i ≡ list none)
    (λ x. value_of x ≡ literal_at t i) c.deref.ensures.value c.entry.ensures
    (literal_past a i) (literal_of_term a i) in
    subst (λ (m : Checked). MatchOption c.entry.result (literal_at m.tables i ≡ list none)
    (λ x. value_of x.now ≡ literal_at m.tables i)) c.self.view_is at_entry

pub returns-clause-absent : goal.returns-clause-absent
returns-clause-absent c =
    let a = c.self.inside in
    let past = past_entry c.entry.result _ a.literals.items c.args.id.0 c.deref.ensures.value c.entry.ensures in
    subst (λ n. IfNone c.entry.result (n ≤ c.args.id.0))
    (sym (count-literals a) ∙ ap (λ (m : Checked). length m.tables.literals) c.self.view_is) past
