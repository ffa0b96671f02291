use Rattle.std.proofs.Common.{◌≡◌, ℕ, cond, Some, None, sym, ap, ◌∙◌, rules, tests}
use Rattle.std.specs.BTreeMap.{get}
use Rattle.pf_lower.specs.Knows.{key_order, same_key}
use Rattle.pf_lower.proofs.Knows_more.{same_in_order, same_is, entered}
use Rattle.pf_lower.proofs.function_table.FunctionTable.enter.Goals as goal

pub returns : goal.returns
returns c = λ f a.
    let old = c.args.self.now.numbers in
    let k : ℕ × ℕ = (c.args.name.0, c.args.arity) in
    let none : get key_order old k ≡ None = search (rules, tests) in
    let short : c.in-Ok.short ≡ c.args.number = search rules in
    entered (get key_order old (f, a)) (get key_order c.insert.new.self (f, a)) (same_key k (f, a)) c.args.number
    (c.in_ok-insert.ensures.updates.0 (f, a)
    ∙ ap (λ t. cond t (Some c.in-Ok.short) (get key_order old (f, a))) (same_in_order c.args.name.0 c.args.arity f a)
    ∙ ap (λ n. cond (same_key k (f, a)) (Some n) (get key_order old (f, a))) short)
    (λ e. let s = same_is c.args.name.0 c.args.arity f a e in ap (λ x. get key_order old (x, a)) (sym s.0)
    ∙ ap (λ y. get key_order old (c.args.name.0, y)) (sym s.1) ∙ none)
