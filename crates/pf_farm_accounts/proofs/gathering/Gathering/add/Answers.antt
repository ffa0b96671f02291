use Rattle.std.proofs.Common.{◌≡◌, ℕ, ◌+◌, List, ◌++◌, length, sym, ap, ◌∙◌, subst, length-append, arith}
use Rattle.pf_farm_accounts.specs.Places.{standing_at, StartsWith}
use Rattle.pf_farm_accounts.specs.declared.receipt.Receipt.{Receipt}
use Rattle.pf_farm_accounts.specs.Receipts.{AreNumbered, IsSeat, gathering_of}
use Rattle.pf_farm_accounts.proofs.Standing.{standing_append, is_still_there}
use Rattle.pf_farm_accounts.proofs.gathering.Gathering.add.Goals as goal

-- the receipts of those gathered before, and of the seat
standing : {C A : Type 0} (k k' : List (Receipt C A) × List ℕ) (t : List ℕ × List (Receipt C A)) (q : ℕ)
    (rs : List (Receipt C A)) → k' ≡ (k.0, k.1 ++ t.0) → StartsWith k'.0 t.1 → IsSeat t.0 t.1 q rs
    → standing_at k'.1 k'.0 ≡ standing_at k.1 k.0 ++ rs
standing {C} {A} k k' t q rs is starts seat =
    let begins : StartsWith k.0 t.1 = subst (λ (x : List (Receipt C A) × List ℕ). StartsWith x.0 t.1) is starts in
    ap (λ (x : List (Receipt C A) × List ℕ). standing_at x.1 x.0) is ∙ standing_append k.1 t.0 k.0
    ∙ ap (λ l. standing_at k.1 k.0 ++ l) (is_still_there t.0 t.1 k.0 seat.below begins ∙ sym seat.standing)

same_log : {C A : Type 0} (k k' : List (Receipt C A) × List ℕ) (ks : List ℕ) → k' ≡ (k.0, ks) → k'.0 ≡ k.0
same_log {C} {A} k k' ks is = ap (λ (x : List (Receipt C A) × List ℕ). x.0) is

pub invariant_of-self : goal.invariant_of-self
invariant_of-self g c =
    let s = c.seat.inside in
    let k = c.self.inside.register in
    let are_there = standing k c.take_back.new.self s.token s.project s.receipts.items c.take_back.ensures.register
    c.take_back.ensures.seen c.seat.invariant.2 in
    let log = same_log k c.take_back.new.self (k.1 ++ s.token.0) c.take_back.ensures.register in (
      c.self.invariant.0 ∙ ap (λ l. length l) (sym log),
      omega (
        arith,
        c.merge.ensures.amount,
        c.self.invariant.1,
        c.seat.invariant.1,
        ap (λ l. length l) are_there,
        length-append (standing_at k.1 k.0) s.receipts.items,
      ),
      c.take_back.ensures.below,
      subst (λ l. AreNumbered l) (sym log) c.self.invariant.3,
    )

pub returns-clause-gathered : goal.returns-clause-gathered
returns-clause-gathered g c =
    let s = c.seat.inside in
    let k = c.self.inside.register in
    let are_there = standing k c.take_back.new.self s.token s.project s.receipts.items c.take_back.ensures.register
    c.take_back.ensures.seen c.seat.invariant.2 in
    let log = same_log k c.take_back.new.self (k.1 ++ s.token.0) c.take_back.ensures.register in
    let parts : c.merge.new.self.parts ≡ c.self.inside.all.parts + 1 =
    omega (arith, c.merge.ensures.parts, c.seat.invariant.0) in
    rw (← c.self.view_is, ← c.seat.view_is) (λ i. gathering_of (log i) (are_there i) (parts i))
