use Rattle.std.proofs.Common.{Some, None, Ok, arith, ap, ◌∙◌}
use Rattle.std.proofs.lemmas.Int.{ints}
use Rattle.pf_terms.specs.Term.{values_of}
use Rattle.pf_ops.proofs.Counted.{before_first, item_is}
use Rattle.pf_ops.proofs.builtins.item.Goals as goal

pub returns-then-number-lt1 : goal.returns-then-number-lt1
returns-then-number-lt1 c = before_first (values_of c.args.items.now) c.args.number
    (omega (arith, ints, c.if-number-lt1.true))

pub returns-in_ok-copied-in-Some : goal.returns-in_ok-copied-in-Some
returns-in_ok-copied-in-Some c =
    ap (λ v. Ok v) c.in_ok-copied-in-Some.ensures
    ∙ item_is c.args.items.now c.args.number _ (Some c.in-Some.found.now) (omega (arith, ints, c.if-number-lt1.false))
    c.in-Some.ensures

pub returns-in-None : goal.returns-in-None
returns-in-None c =
    item_is c.args.items.now c.args.number _ None (omega (arith, ints, c.if-number-lt1.false)) c.in-None.ensures
