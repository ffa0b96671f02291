use Rattle.std.proofs.Common.{◌∙◌, ap, length, arith}
use Rattle.pf_terms.specs.Term.{value_of}
use Rattle.pf_syntax.specs.Module.{Checked}
use Rattle.pf_syntax.specs.Over.{with_tables, with_literal}
use Rattle.pf_syntax.proofs.Formed.{count-literals}
use Rattle.pf_syntax.proofs.Grown.{with_literal_sound, with_literal_view}
use Rattle.pf_syntax.proofs.module.Module.add_literal.Goals as goal

pub invariant_of-self-2 : goal.invariant_of-self-2
invariant_of-self-2 c = with_literal_sound c.self.inside c.args.literal c.push.new.self c.in_ok-push.ensures.items
    c.self.invariant

pub returns-clause-id : goal.returns-clause-id
returns-clause-id c =
    let e = ap (λ (m : Checked). length m.tables.literals) c.self.view_is in
    omega (arith, e, count-literals c.self.inside)

pub returns-clause-added : goal.returns-clause-added
returns-clause-added c =
    with_literal_view c.self.inside c.args.literal c.push.new.self c.in_ok-push.ensures.items c.self.invariant
    ∙ ap (λ (m : Checked). with_tables m (with_literal m.tables (value_of c.args.literal))) c.self.view_is
