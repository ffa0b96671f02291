use Rattle.std.proofs.Common.{rules, ◌≡◌, ℕ, [], ◌∷◌, ◌++◌, List, length, Some, None, sym, ap, ◌∙◌, subst}
use Rattle.std.specs.Prelude.{slice_get, slice_set}
use Rattle.pf_farm_accounts.specs.Places.{AreBelow, StartsWith}
use Rattle.pf_farm_accounts.specs.declared.row.Claim.{Claim}
use Rattle.pf_farm_accounts.specs.declared.row.ClaimRow.{ClaimRow}
use Rattle.pf_farm_accounts.specs.Rows.{row_of, IsRegistered}
use Rattle.pf_farm_accounts.proofs.Ends.{was_open, within, registered_end, counted_end}
use Rattle.pf_farm_accounts.proofs.ledger.Ledger.end.Goals as goal

-- what came back with the token was open
was : {J : Type 0} (rows : List (ClaimRow J)) (k k' : List (Claim J) × List ℕ) (t : List ℕ × List (Claim J)) (n : ℕ)
    (c : Claim J) → IsRegistered rows k.0 k.1 → k' ≡ (k.0, k.1 ++ t.0) → t.0 ≡ n ∷ [] → slice_get t.1 n ≡ Some c
    → AreBelow k'.1 (length k'.0) → StartsWith k'.0 t.1 → slice_get rows n ≡ Some (row_of c None)
was {J} rows k k' t n c kept is one here below starts =
    let eq : k' ≡ (k.0, k.1 ++ n ∷ []) = is ∙ ap (λ l. (k.0, k.1 ++ l)) one in
    let P : List (Claim J) × List ℕ → Type 0 = λ x. AreBelow x.1 (length x.0) in
    let Q : List (Claim J) × List ℕ → Type 0 = λ x. StartsWith x.0 t.1 in
    was_open rows k.0 t.1 k.1 n c kept (subst P eq below) (subst Q eq starts) here

pub index_mut-requires : goal.index_mut-requires
index_mut-requires g c =
    let o = c.claim.inside in
    let at = was c.self.inside.rows.items c.self.inside.register c.take_back.new.self o.token o.number o.claim
    c.self.invariant.0 c.take_back.ensures.register c.claim.invariant.0 c.claim.invariant.1
    c.take_back.ensures.below c.take_back.ensures.seen in
    let less = within c.self.inside.rows.items o.number _ at in
    search rules

pub returns-clause-was : goal.returns-clause-was
returns-clause-was g c =
    let o = c.claim.inside in
    rw (← c.self.view_is, ← c.claim.view_is) (was c.self.inside.rows.items c.self.inside.register c.take_back.new.self
    o.token o.number o.claim c.self.invariant.0 c.take_back.ensures.register c.claim.invariant.0 c.claim.invariant.1
    c.take_back.ensures.below c.take_back.ensures.seen)

pub invariant_of-self : goal.invariant_of-self
invariant_of-self g c =
    let o = c.claim.inside in
    let k = c.self.inside.register in
    let rows = c.self.inside.rows.items in
    let at = was rows k c.take_back.new.self o.token o.number o.claim c.self.invariant.0 c.take_back.ensures.register
    c.claim.invariant.0 c.claim.invariant.1 c.take_back.ensures.below c.take_back.ensures.seen in
    let register : c.take_back.new.self ≡ (k.0, k.1 ++ o.number ∷ []) = c.take_back.ensures.register
    ∙ ap (λ l. (k.0, k.1 ++ l)) c.claim.invariant.0 in
    let counted = counted_end rows o.number o.claim c.args.end c.self.inside.opened.total c.self.inside.ended.total
    (c.self.invariant.1, c.self.invariant.2) at in (
      subst (λ x. IsRegistered (slice_set rows o.number (row_of o.claim (Some c.args.end))) x.0 x.1) (sym register)
          (registered_end rows k.0 k.1 o.number o.claim c.args.end c.self.invariant.0 at),
      counted.0,
      c.add.ensures.total ∙ counted.1,
      (λ has. let room = c.self.invariant.3 has in search rules),
    )
