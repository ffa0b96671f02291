use Rattle.std.proofs.Common.{◌≡◌, ℕ, Bool, ◌||◌, ◌==◌, ◌&&◌, true, false, refl, rules, tests, cond, sym, ap, ◌∙◌}
use Rattle.std.specs.List.{list_any}
use Rattle.std.specs.Ordering.{nat_cmp, ordering_then, is_eq}
use Rattle.pf_rules.specs.declared.signatures.Signature.{Signature}
use Rattle.pf_rules.specs.Listing.{lists}
use Rattle.pf_rules.proofs.signatures.Signatures.add.Goals as goal

-- two functions are equal in the order where their names and their numbers of arguments are
equal_both : (f a n b : ℕ) → is_eq (ordering_then (nat_cmp f n) (nat_cmp a b)) ≡ ((f == n) && (a == b))
equal_both f a n b = search (rules, tests)

either : (b c : Bool) → cond b true c ≡ (c || b)
either true true = refl
either true false = refl
either false true = refl
either false false = refl

pub returns-clause-added : goal.returns-clause-added
returns-clause-added c = λ f a.
    let q : Signature = record { name = f; arity = a } in
    let is : Signature → Bool = λ k. is_eq (ordering_then (nat_cmp f k.name) (nat_cmp a k.arity)) in
    let here : Bool = is_eq (ordering_then (nat_cmp c.args.name.0 f) (nat_cmp c.args.arity a)) in
    let new : list_any is c.insert.new.self.keys ≡ lists (record { signatures = c.insert.new.self }) f a =
    search rules in
    let old : list_any is c.args.self.now.signatures.keys ≡ lists c.args.self.now f a = search rules in
    sym new
    ∙ c.in_ok-fresh.ensures.updates.0 q
    ∙ either here (list_any is c.args.self.now.signatures.keys)
    ∙ ap (λ b. b || here) old
    ∙ ap (λ b. lists c.args.self.now f a || b) (equal_both c.args.name.0 c.args.arity f a)
