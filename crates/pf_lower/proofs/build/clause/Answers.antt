use Rattle.std.proofs.Common.{refl, subst}
use Rattle.pf_syntax.specs.SyntaxTreeOver.{expr_patterns_at, exprs_at}
use Rattle.pf_lower.specs.Bound.{all_bound_by, all_bound_after}
use Rattle.pf_lower.specs.Built.{Lowers, ExprPatternsMean, BodyMeans}
use Rattle.pf_lower.proofs.Heads_mean.{clause_done}
use Rattle.pf_lower.proofs.build.clause.Goals as goal

pub returns : goal.returns
returns c =
    let fs = c.args.syntax.now.functions in
    let b = c.args.syntax.now.node_table in
    let m = c.args.module.now in
    let names = c.args.slots.now in
    clause_done fs b m c.patterns.new.module c.guard.new.module c.body.new.module c.patterns.new.slots c.guard.new.slots
    c.body.new.slots c.truncate.new.self names c.args.head.now
    c.in_ok-parameters.parameters.items c.in_ok-guard.guard c.in_ok-body.body _ c.requires.none_bound refl refl refl
    (subst (λ l. Lowers m c.patterns.new.module c.patterns.new.slots (all_bound_by names (expr_patterns_at b l))
    (λ u. ExprPatternsMean fs u names (expr_patterns_at b l) c.in_ok-parameters.parameters.items))
    c.as_slice.ensures.value c.in_ok-parameters.ensures)
    c.in_ok-guard.ensures
    (subst (λ l. Lowers c.guard.new.module c.body.new.module c.body.new.slots
    (all_bound_after c.guard.new.slots (exprs_at b l))
    (λ u. BodyMeans fs u c.guard.new.slots (exprs_at b l) c.in_ok-body.body))
    c.as_slice-2.ensures.value c.in_ok-body.ensures)
    c.truncate.ensures
