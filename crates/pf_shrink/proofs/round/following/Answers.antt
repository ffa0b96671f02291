use Rattle.std.proofs.Common.{arith}
use Rattle.pf_shrink.proofs.Rounds.{after_last, after_only, after_without, after_all_without, after_halved}
use Rattle.pf_shrink.proofs.round.following.Goals as goal

pub returns-in-WithoutLast-clause-passed : goal.returns-in-WithoutLast-clause-passed
returns-in-WithoutLast-clause-passed c =
    rw (c.in-WithoutLast.is, c.rotate_left.ensures.after) (after_last c.args.numbers.now c.if-numbers-gt1.true)

pub returns-in-WithoutLast-2-clause-passed : goal.returns-in-WithoutLast-2-clause-passed
returns-in-WithoutLast-2-clause-passed c =
    let some = rw c.in-WithoutLast-2.is at c.requires in
    rw c.in-WithoutLast-2.is
    (after_only c.args.numbers.now c.halved_from.new.numbers c.halved_from.result (omega arith)
    c.halved_from.ensures.schedule c.halved_from.ensures.left)

pub returns-then-at-last-clause-passed : goal.returns-then-at-last-clause-passed
returns-then-at-last-clause-passed c =
    let k = rw c.in-Without.is at c.requires in
    rw (c.in-Without.is, c.swap.ensures.after)
    (after_without c.in-Without.at _ c.args.numbers.now (omega arith) (omega arith))

pub returns-else-at-last-clause-passed : goal.returns-else-at-last-clause-passed
returns-else-at-last-clause-passed c =
    let k = rw c.in-Without.is at c.requires in
    let s = rw c.swap.ensures.after at c.halved_from-else-at-last.ensures.schedule in
    let l = rw c.swap.ensures.after at c.halved_from-else-at-last.ensures.left in
    rw c.in-Without.is
    (after_all_without c.in-Without.at _ c.args.numbers.now c.halved_from-else-at-last.new.numbers
    c.halved_from-else-at-last.result (omega arith) (omega arith) s l)

pub returns-in-Halved-clause-passed : goal.returns-in-Halved-clause-passed
returns-in-Halved-clause-passed c =
    let k = rw c.in-Halved.is at c.requires in
    rw c.in-Halved.is
    (after_halved c.in-Halved.at c.in-Halved.number c.args.numbers.now c.halved_from-in-Halved.new.numbers
    c.halved_from-in-Halved.result k c.halved_from-in-Halved.ensures.schedule
    c.halved_from-in-Halved.ensures.left)
