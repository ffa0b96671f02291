use Rattle.std.proofs.Common.{rules, arith, ◌≡◌, ◌≤◌, ◌<◌, ◌-◌, ℕ, List, length, Some, refl, sym, subst, ap, ◌∙◌}
use Rattle.std.specs.Prelude.{slice_index, is_some, IsSome}
use Rattle.std.proofs.lemmas.List.{get_or_read}
use Rattle.pf_quota.specs.declared.usage.Usage.{Usage}
use Rattle.pf_quota.specs.declared.charges.Holding.TheVariants as held
use Rattle.pf_quota.specs.declared.charges.Charge.TheVariants as charge
use Rattle.pf_quota.specs.Usage.{Covers, charged, refunded}
use Rattle.pf_check.specs.Module.{ReadModule}
use Rattle.pf_store.specs.Sources.{holders, HeldOnceLess}
use Rattle.pf_desks.specs.Desk.{Desk, held_at}
use Rattle.pf_desks.specs.Calls.{usage_in, users_of}
use Rattle.pf_book.specs.Kept.{desk_in, IsValid}
use Rattle.pf_book.specs.Plans.{with_change}
use Rattle.pf_book.specs.Users.{CountUsers}
use Rattle.pf_book.specs.View.{view_of_reply, view_of_entry}
use Rattle.pf_book.specs.declared.plan.Plan.{Plan}
use Rattle.pf_book.specs.declared.desk.Desk.TheInside.{Inside}
use Rattle.pf_book.proofs.Counted.{count_is, number_within}
use Rattle.pf_book.proofs.Followed.{counts_held, follows_withdrawal}
use Rattle.pf_book.proofs.Planned.{withdrawal_planned, withdrawal_in_use}
use Rattle.pf_desks.proofs.Sums.{module_covers}
use Rattle.pf_book.proofs.desk.Desk.withdrawal.Goals as goal

-- the count of a module that is held is that of its users
counted : (b : Inside) (d : Desk) (n : ℕ) (m : ReadModule) → IsValid b → desk_in b ≡ d → held_at d.modules n ≡ Some m
    → slice_index b.users.items (n - 1) ≡ users_of d n
counted b d n m kept here found =
    let counts : CountUsers b.users.items b.modules.items b.trials.items =
    record { counted = kept.counted; exact = kept.users; used = kept.used } in
    let held : IsSome (held_at b.modules.items n) = ap is_some (ap (λ (k : Desk). held_at k.modules n) here ∙ found) in
    count_is b.users.items b.modules.items b.trials.items n held counts ∙ ap (λ (k : Desk). users_of k n) here

within : (b : Inside) (d : Desk) (n : ℕ) (m : ReadModule) → IsValid b → desk_in b ≡ d → held_at d.modules n ≡ Some m
    → n - 1 < length b.users.items
within b d n m kept here found =
    let counts : CountUsers b.users.items b.modules.items b.trials.items =
    record { counted = kept.counted; exact = kept.users; used = kept.used } in
    let held : IsSome (held_at b.modules.items n) = ap is_some (ap (λ (k : Desk). held_at k.modules n) here ∙ found) in
    let w : (1 ≤ n) × (n ≤ length b.users.items) = number_within b.users.items b.modules.items b.trials.items
    n held counts in
    omega (arith, w.0, w.1)

pub returns-then-index-gt0-clause-plan : goal.returns-then-index-gt0-clause-plan
returns-then-index-gt0-clause-plan c =
    let d = c.args.self.now in
    let n = c.args.number in
    let m = c.in-Some.held.now in
    let found : held_at d.modules n ≡ Some m = search rules in
    let users = counted c.self.inside d n m c.self.invariant c.self.view_is found in
    let value = get_or_read c.self.inside.users.items _ _
    (within c.self.inside d n m c.self.invariant c.self.view_is found) c.index.ensures 0 in
    let some : 0 < users_of d n = omega (arith, users, value, c.if-index-gt0.true) in
    let is = c.withdrawal_refused-then-index-gt0.ensures in
    withdrawal_in_use d c.args.usage c.requires.charged c.withdrawal_refused-then-index-gt0.result n m found some
    (ap (λ (p : Plan). with_change d p.change) is) (ap (λ (p : Plan). view_of_reply p.reply) is)
    (ap (λ (p : Plan). p.usage) is) (ap (λ (p : Plan). view_of_entry p.noted) is)

pub refund-requires : goal.refund-requires
refund-requires c =
    let d = c.args.self.now in
    let m = c.in-Some.held.now in
    let found : held_at d.modules c.args.number ≡ Some m = search rules in
    let covers : Covers (charged (usage_in d) charge.Call) (held.Module (length m.source)) =
    module_covers d c.args.number m found in
    let here : Covers c.args.usage (held.Module (length m.source)) =
    subst (λ (u : Usage). Covers u (held.Module (length m.source))) (sym c.requires.charged) covers in
    subst (λ (n : ℕ). Covers c.args.usage (held.Module n)) (sym c.size.ensures) here

pub give_up-requires : goal.give_up-requires
give_up-requires c =
    let d = c.args.self.now in
    let m = c.in-Some.held.now in
    let found : held_at d.modules c.args.number ≡ Some m = search rules in
    subst (λ (l : List ℕ). 1 ≤ holders c.args.store.now l) (sym c.source.ensures)
    (counts_held d c.args.number m found c.args.store.now c.requires.counts)

pub returns-clause-plan : goal.returns-clause-plan
returns-clause-plan c =
    let d = c.args.self.now in
    let n = c.args.number in
    let m = c.in-Some.held.now in
    let found : held_at d.modules n ≡ Some m = search rules in
    let users = counted c.self.inside d n m c.self.invariant c.self.view_is found in
    let value = get_or_read c.self.inside.users.items _ _
    (within c.self.inside d n m c.self.invariant c.self.view_is found) c.index.ensures 0 in
    let none : users_of d n ≡ 0 = omega (arith, users, value, c.if-index-gt0.false) in
    let uses = c.refund.ensures ∙ ap (λ (k : ℕ). refunded c.args.usage (held.Module k)) c.size.ensures in
    withdrawal_planned d c.args.usage c.requires.charged _ n m found none refl refl refl uses

pub returns-clause-can : goal.returns-clause-can
returns-clause-can c =
    let d = c.args.self.now in
    let n = c.args.number in
    let m = c.in-Some.held.now in
    let found : held_at d.modules n ≡ Some m = search rules in
    let users = counted c.self.inside d n m c.self.invariant c.self.view_is found in
    let value = get_or_read c.self.inside.users.items _ _
    (within c.self.inside d n m c.self.invariant c.self.view_is found) c.index.ensures 0 in
    omega (arith, users, value, c.if-index-gt0.false)

pub returns-clause-store : goal.returns-clause-store
returns-clause-store c =
    let d = c.args.self.now in
    let m = c.in-Some.held.now in
    let found : held_at d.modules c.args.number ≡ Some m = search rules in
    let less : HeldOnceLess m.source c.args.store.now c.give_up.new.self =
    subst (λ (l : List ℕ). HeldOnceLess l c.args.store.now c.give_up.new.self) c.source.ensures c.give_up.ensures in
    follows_withdrawal d c.args.number m found c.args.store.now c.give_up.new.self less
