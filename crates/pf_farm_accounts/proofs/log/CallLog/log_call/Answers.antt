use Rattle.std.proofs.Common.{rules, ◌≡◌, ℕ, ◌+◌, List, [], ◌∷◌, ◌++◌, length, true≢false, sym, ap, ◌∙◌, subst, refl}
use Rattle.std.proofs.Common.{arith}
use Rattle.std.proofs.lemmas.List.{length_push}
use Rattle.pf_farm_accounts.specs.Places.{AreBelow}
use Rattle.pf_farm_accounts.specs.declared.receipt.Receipt.{Receipt}
use Rattle.pf_farm_accounts.specs.Receipts.{receipt_of, of_project, AreNumbered, IsSeat}
use Rattle.pf_farm_accounts.proofs.Numbers.{numbered_push}
use Rattle.pf_farm_accounts.proofs.Seats.{shown, logged}
use Rattle.pf_farm_accounts.proofs.log.CallLog.log_call.Goals as goal

pub invariant_of-self : goal.invariant_of-self
invariant_of-self g c =
    let s = c.seat.inside in
    let k = c.self.inside.register in
    let r = receipt_of s.project c.args.number c.args.call.value c.args.reply.now in
    let number : c.args.number ≡ length (of_project s.project k.0) + 1 = search rules in
    let register : c.enter.new.self ≡ (k.0 ++ r ∷ [], k.1) = search rules in
    let P : List (Receipt _ _) × List ℕ → Type 0 = λ x. (c.add.new.self.total ≡ length x.0) × (x.1 ≡ [])
    × AreNumbered x.0 in
    subst P (sym register) (
      omega (arith, c.add.ensures.total, c.self.invariant.0, length_push k.0 r),
      c.self.invariant.1,
      numbered_push k.0 r c.self.invariant.2 number,
    )

pub invariant_of-seat : goal.invariant_of-seat
invariant_of-seat g c =
    let s = c.seat.inside in
    let k = c.self.inside.register in
    let t = s.token in
    let rs = s.receipts.items in
    let r = receipt_of s.project c.args.number c.args.call.value c.args.reply.now in
    let number : c.args.number ≡ length (of_project s.project k.0) + 1 = search rules in
    let items : c.push_reserved.new.self.items ≡ rs ++ r ∷ [] = search rules in
    let all : c.enter.new.self.0 ≡ k.0 ++ r ∷ [] = search rules in
    let token : c.enter.new.token ≡ (t.0 ++ length k.0 ∷ [], k.0 ++ r ∷ []) = search rules in
    let below : AreBelow (t.0 ++ length k.0 ∷ []) (length (k.0 ++ r ∷ [])) =
    subst (λ l. AreBelow (t.0 ++ length k.0 ∷ []) (length l)) all
    (subst (λ x. AreBelow x.0 (length c.enter.new.self.0)) token c.enter.ensures.below) in
    let old = shown t.0 t.1 k.0 s.project rs c.enter.ensures.seen c.seat.invariant.2 in
    let P : (List ℕ × List (Receipt _ _)) × List (Receipt _ _) → Type 0 = λ x. IsSeat x.0.0 x.0.1 s.project x.1 in (
      c.add.ensures.parts ∙ c.seat.invariant.0,
      omega (arith, c.add.ensures.amount, c.seat.invariant.1, ap (λ l. length l) items, length_push rs r),
      subst P (λ i. (sym token i, sym items i)) (logged t.0 k.0 s.project rs r old below refl number),
      (λ none. absurd (true≢false (sym none))),
    )
