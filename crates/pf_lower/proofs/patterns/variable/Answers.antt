use Rattle.std.proofs.Common.{refl, sym}
use Rattle.pf_lower.proofs.Growing.{by_ok, expr_pattern_put, grown_itself}
use Rattle.pf_lower.proofs.ExprPatterns_mean.{known_means, fresh_means}
use Rattle.pf_lower.proofs.Slots_of.{kept_where_there}
use Rattle.pf_lower.proofs.patterns.variable.Goals as goal

pub returns-in-Some : goal.returns-in-Some
returns-in-Some c =
    let m = c.args.module.now in
    by_ok _ _ _ c.put_pattern.ensures
    (λ p h. expr_pattern_put c.args.syntax.now.functions m m _ _ c.args.slots.now _ _ _ p refl
    (sym (kept_where_there c.args.slots.now c.args.ident.name.0 c.in-Some.slot c.in-Some.ensures)) (grown_itself m)
    (λ g e f k. known_means _ g c.args.slots.now c.args.ident.name.0 c.args.ident.offset c.in-Some.slot e
    c.in-Some.ensures) h)

pub returns-in_ok-bind-in-None : goal.returns-in_ok-bind-in-None
returns-in_ok-bind-in-None c =
    let m = c.args.module.now in
    by_ok _ _ _ c.put_pattern-in-None.ensures
    (λ p h. expr_pattern_put c.args.syntax.now.functions m m _ _ c.args.slots.now _ _ _ p refl
    c.in_ok-bind-in-None.ensures (grown_itself m)
    (λ g e f k. fresh_means _ g c.args.slots.now c.args.ident.name.0 c.args.ident.offset e c.in-None.ensures k) h)
