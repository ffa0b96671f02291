use Rattle.std.proofs.Common.{refl, sym, subst}
use Rattle.pf_syntax.specs.Pattern.{known}
use Rattle.pf_syntax.specs.ExprPattern as expr_pattern
use Rattle.pf_syntax.specs.Naming as w
use Rattle.pf_syntax.specs.Naming.{ExprPatternIs}
use Rattle.pf_rules.specs.Static.{names_of_module}
use Rattle.pf_lower.proofs.Growing.{by_ok, expr_pattern_put, grown_itself}
use Rattle.pf_lower.proofs.patterns.text.Goals as goal

pub returns-in-Some : goal.returns-in-Some
returns-in-Some c =
    let m = c.args.module.now in
    let is = rw c.in-Some.is at c.in_ok-made.ensures in
    by_ok _ _ _ c.put_known.ensures
    (λ p h. expr_pattern_put c.args.syntax.now.functions m m _ _ c.args.slots.now _ (expr_pattern.text c.args.codes.now)
    _ p refl refl (grown_itself m)
    (λ g e f k. subst (λ v. ExprPatternIs (names_of_module m.atoms c.args.syntax.now.functions) g
    (expr_pattern.text c.args.codes.now) (known v)) (sym is) (w.text g c.args.codes.now)) h)

pub returns-in-None : goal.returns-in-None
returns-in-None c =
    let m = c.args.module.now in
    let too_large = rw c.in-None.is at c.in_ok-made.ensures in
    by_ok _ _ _ c.put_pattern.ensures
    (λ p h. expr_pattern_put c.args.syntax.now.functions m m _ _ c.args.slots.now _ (expr_pattern.text c.args.codes.now)
    _ p refl refl (grown_itself m)
    (λ g e f k. absurd (too_large f)) h)
