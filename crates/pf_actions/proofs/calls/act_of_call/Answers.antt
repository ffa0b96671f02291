use Rattle.std.proofs.Common.{arith}
use Rattle.pf_actions.proofs.Called.{act_same, none_of_many, one_word, two_words, three_words}
use Rattle.pf_actions.proofs.calls.act_of_call.Goals as goal

pub returns-in-len1-clause-act : goal.returns-in-len1-clause-act
returns-in-len1-clause-act c own h =
    act_same own h c.args.builtin _ _ _
    (one_word h c.args.words.now _ (omega (arith, c.in-len1.len_at_least)) (omega (arith, c.in-len1.len_below)))
    (c.act_of_one.ensures.act own h)

pub returns-in-len1-clause-words : goal.returns-in-len1-clause-words
returns-in-len1-clause-words c h a = c.act_of_one.ensures.words h (a 0 _ (omega (arith, c.in-len1.len_at_least)))

pub returns-in-len2-clause-act : goal.returns-in-len2-clause-act
returns-in-len2-clause-act c own h =
    act_same own h c.args.builtin _ _ _
    (two_words h c.args.words.now _ _ (omega (arith, c.in-len2.len_at_least)) (omega (arith, c.in-len2.len_below)))
    (c.act_of_two.ensures.act own h)

pub returns-in-len2-clause-words : goal.returns-in-len2-clause-words
returns-in-len2-clause-words c h a =
    c.act_of_two.ensures.words h (a 0 _ (omega (arith, c.in-len2.len_at_least)))
    (a 1 _ (omega (arith, c.in-len2.len_at_least)))

pub returns-in-len3-clause-act : goal.returns-in-len3-clause-act
returns-in-len3-clause-act c own h =
    act_same own h c.args.builtin _ _ _
    (three_words h c.args.words.now _ _ _ (omega (arith, c.in-len3.len_at_least)) (omega (arith, c.in-len3.len_below)))
    (c.act_of_three.ensures.act own h)

pub returns-in-len3-clause-words : goal.returns-in-len3-clause-words
returns-in-len3-clause-words c h a =
    c.act_of_three.ensures.words h (a 0 _ (omega (arith, c.in-len3.len_at_least)))
    (a 1 _ (omega (arith, c.in-len3.len_at_least))) (a 2 _ (omega (arith, c.in-len3.len_at_least)))

pub returns-in_default-clause-act : goal.returns-in_default-clause-act
returns-in_default-clause-act c own h = none_of_many own h c.args.builtin c.args.words.now c.in_default.len_at_least
