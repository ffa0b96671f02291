use Rattle.std.proofs.Common.{◌≡◌, ℕ, length, ◌∙◌, ap, Some, None, rules}
use Rattle.std.specs.Prelude.{if◌then◌else◌, slice_get}
use Rattle.std.specs.BTreeMap.{get}
use Rattle.pf_lower.specs.Knows.{key_order, same_key}
use Rattle.pf_lower.specs.Heads.{first_of}
use Rattle.pf_lower.proofs.Growing.{by_ok}
use Rattle.pf_lower.proofs.Knows_more.{named_first}
use Rattle.pf_lower.proofs.function_table.FunctionTable.enter_function.Goals as goal

pub returns-in-Some : goal.returns-in-Some
returns-in-Some c =
    let h0 = c.in-Some.head.now in
    let counted : c.len.result ≡ length h0.parameters.items = search rules in
    by_ok c.enter.result (λ u. (f a : ℕ) → get key_order c.enter.new.self.numbers (f, a)
    ≡ first_of (get key_order c.args.self.now.numbers (f, a))
    (if same_key (c.in-Some.head.now.ident.name.0, c.len.result) (f, a) then Some c.args.number else None)) _
    c.enter.ensures
    (λ u h b f a. h f a
    ∙ ap (λ t. first_of (get key_order c.args.self.now.numbers (f, a)) (if t then Some c.args.number else None))
    (ap (λ n. same_key (h0.ident.name.0, n) (f, a)) counted ∙ named_first b f a c.args.function.now.heads.items
    c.in-Some.head.now (c.in-Some.ensures.value ∙ ap (λ l. slice_get l 0) c.deref.ensures.value)))
