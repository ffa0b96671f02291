use Rattle.std.proofs.Common.{refl, sym, subst}
use Rattle.pf_syntax.specs.Expr as p
use Rattle.pf_syntax.specs.Tree.{lit}
use Rattle.pf_syntax.specs.Naming as w
use Rattle.pf_syntax.specs.Naming.{ExprIs}
use Rattle.pf_rules.specs.Static.{names_of_module}
use Rattle.pf_lower.proofs.Growing.{by_ok, expr_put, grown_itself}
use Rattle.pf_lower.proofs.expressions.text.Goals as goal

pub returns-in-Some : goal.returns-in-Some
returns-in-Some c =
    let m = c.args.module.now in
    let fs = c.args.syntax.now.functions in
    let is = rw c.in-Some.is at c.in_ok-made.ensures in
    by_ok _ _ _ c.put_literal.ensures
    (λ x h. expr_put fs m m _ _ c.args.slots.now _ (p.text c.args.codes.now) _ x refl refl (grown_itself m)
    (λ g e f k. subst (λ v. ExprIs (names_of_module m.atoms fs) g (p.text c.args.codes.now) (lit v)) (sym is)
    (w.text g c.args.codes.now)) h)
