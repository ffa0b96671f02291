use Rattle.std.proofs.Common.{◌∙◌, ap, subst, sym, length, arith}
use Rattle.pf_syntax.specs.Module.{Checked}
use Rattle.pf_syntax.specs.Over.{with_tables, with_pattern}
use Rattle.pf_syntax.specs.Within.{PatternPartsAreThere}
use Rattle.pf_syntax.proofs.Formed.{count-patterns}
use Rattle.pf_syntax.proofs.Grown.{with_pattern_sound, with_pattern_view}
use Rattle.pf_syntax.proofs.module.Module.add_pattern.Goals as goal

pub invariant_of-self-2 : goal.invariant_of-self-2
invariant_of-self-2 c =
    let is_there = subst (λ (m : Checked). PatternPartsAreThere m.tables c.args.pattern)
    (sym c.self.view_is) c.requires in
    with_pattern_sound c.self.inside c.args.pattern c.push.new.self c.in_ok-push.ensures.items c.self.invariant is_there

pub returns-clause-id : goal.returns-clause-id
returns-clause-id c =
    let e = ap (λ (m : Checked). length m.tables.patterns) c.self.view_is in
    omega (arith, e, count-patterns c.self.inside)

pub returns-clause-added : goal.returns-clause-added
returns-clause-added c =
    let is_there = subst (λ (m : Checked). PatternPartsAreThere m.tables c.args.pattern)
    (sym c.self.view_is) c.requires in
    with_pattern_view c.self.inside c.args.pattern c.push.new.self c.in_ok-push.ensures.items c.self.invariant is_there
    ∙ ap (λ (m : Checked). with_tables m (with_pattern m.tables c.args.pattern)) c.self.view_is
