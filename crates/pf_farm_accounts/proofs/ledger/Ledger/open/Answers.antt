use Rattle.std.proofs.Common.{rules, ◌≡◌, ℕ, ◌+◌, [], ◌∷◌, ◌++◌, List, length, true≢false, Some, None, refl, sym, ap}
use Rattle.std.proofs.Common.{◌∙◌, subst}
use Rattle.std.specs.Prelude.{slice_get}
use Rattle.pf_farm_accounts.specs.declared.row.Claim.{Claim}
use Rattle.pf_farm_accounts.specs.declared.row.ClaimRow.{ClaimRow}
use Rattle.pf_farm_accounts.specs.Rows.{claim_of, row_of, IsRegistered}
use Rattle.pf_farm_accounts.proofs.Ends.{registered_open, counted_open, entries_length, last_get, IsCounted}
use Rattle.pf_farm_accounts.proofs.ledger.Ledger.open.Goals as goal

pub invariant_of-result : goal.invariant_of-result
invariant_of-result g c =
    let k = c.self.inside.register in
    let claim = c.of-claim.result in
    let n : length k.0 ≡ c.len-number.result = entries_length c.self.inside.rows.items k.0 k.1 c.self.invariant.0
    ∙ search rules in
    let token : c.enter.new.token ≡ (c.len-number.result ∷ [], k.0 ++ claim ∷ []) =
    (let t : c.enter.new.token ≡ (length k.0 ∷ [], k.0 ++ claim ∷ []) = search rules in
    t ∙ ap (λ j. (j ∷ [], k.0 ++ claim ∷ [])) n) in
    let P : List ℕ × List (Claim _) → Type 0 = λ t. (t.0 ≡ c.len-number.result ∷ [])
    × (slice_get t.1 c.len-number.result ≡ Some claim) in
    subst P (sym token) (refl, subst (λ j. slice_get (k.0 ++ claim ∷ []) j ≡ Some claim) n (last_get k.0 claim))

pub invariant_of-self : goal.invariant_of-self
invariant_of-self g c =
    let rows = c.self.inside.rows.items in
    let k = c.self.inside.register in
    let claim = claim_of c.args.project c.args.ticket c.args.job.now in
    let items : c.push_reserved.new.self.items ≡ rows ++ row_of claim None ∷ [] = search rules in
    let register : c.enter.new.self ≡ (k.0 ++ claim ∷ [], k.1) = search rules in
    let P : List (ClaimRow _) × (List (Claim _) × List ℕ) → Type 0 = λ x. IsRegistered x.0 x.1.0 x.1.1 in
    let Q : List (ClaimRow _) → Type 0 = λ x. IsCounted x (c.self.inside.opened.total + 1) c.self.inside.ended.total in
    let counted = subst Q (sym items) (counted_open rows claim c.self.inside.opened.total c.self.inside.ended.total
    (c.self.invariant.1, c.self.invariant.2)) in (
      subst P (λ i. (sym items i, sym register i)) (registered_open rows k.0 k.1 claim c.self.invariant.0),
      c.add.ensures.total ∙ counted.0,
      counted.1,
      (λ none. absurd (true≢false (sym none))),
    )
