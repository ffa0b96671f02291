-- What a seat knows of its receipts.
use Rattle.std.proofs.Common.{◌≡◌, ℕ, ◌+◌, ◌≤◌, List, [], ◌∷◌, ◌++◌, length, refl, sym, ap, ◌∙◌, length-append, arith}
use Rattle.std.proofs.lemmas.List.Elements.{All-push, All-weaker}
use Rattle.pf_farm_accounts.specs.Places.{standing_at, AreBelow, StartsWith}
use Rattle.pf_farm_accounts.specs.declared.receipt.Receipt.{Receipt}
use Rattle.pf_farm_accounts.specs.Receipts.{of_project, IsSeat}
use Rattle.pf_farm_accounts.proofs.Standing.{grows, standing_append, is_still_there, last_is_there}
use Rattle.pf_farm_accounts.proofs.Numbers.{no_fewer, one_more, rising_push}

module _ {C A : Type 0} where
  below_longer : (ks : List ℕ) (seen log : List (Receipt C A)) → AreBelow ks (length seen) → StartsWith log seen
      → AreBelow ks (length log)
  below_longer ks seen log below starts h =
      let longer : length log ≡ length seen + length starts.0 = ap (λ l. length l) starts.1
      ∙ length-append seen starts.0 in
      omega (arith, below h, grows h (length seen) (length starts.0) (length log) longer)

  -- a seat that is shown all receipts
  pub shown : (ks : List ℕ) (seen log : List (Receipt C A)) (q : ℕ) (rs : List (Receipt C A)) → StartsWith log seen
      → IsSeat ks seen q rs → IsSeat ks log q rs
  shown ks seen log q rs starts is = record {
    below = below_longer ks seen log is.below starts;
    standing = is.standing ∙ sym (is_still_there ks seen log is.below starts);
    own = is.own;
    rising = is.rising;
    counted = All-weaker (λ (r : Receipt C A). r.number ≤ length (of_project q seen))
        (λ (r : Receipt C A). r.number ≤ length (of_project q log))
        (λ r h. omega (arith, h, no_fewer q log seen starts)) rs is.counted;
  }

  -- a seat of which a call was logged
  pub logged : (ks : List ℕ) (log : List (Receipt C A)) (q : ℕ) (rs : List (Receipt C A)) (r : Receipt C A)
      → IsSeat ks log q rs → AreBelow (ks ++ length log ∷ []) (length (log ++ r ∷ [])) → r.project ≡ q
      → r.number ≡ length (of_project q log) + 1 → IsSeat (ks ++ length log ∷ []) (log ++ r ∷ []) q (rs ++ r ∷ [])
  logged ks log q rs r is below own next =
      let all = log ++ r ∷ [] in
      let old = shown ks log all q rs (r ∷ [], refl) is in
      let last : standing_at (ks ++ length log ∷ []) all ≡ standing_at ks all ++ r ∷ [] =
      standing_append ks (length log ∷ []) all ∙ ap (λ l. standing_at ks all ++ l) (last_is_there log r) in
      record {
        below = below;
        standing = ap (λ l. l ++ r ∷ []) old.standing ∙ sym last;
        own = All-push (λ (x : Receipt C A). x.project ≡ q) rs r is.own own;
        rising = rising_push 0 (length (of_project q log)) rs r (omega arith) (omega (arith, next))
            is.rising is.counted;
        counted = All-push (λ (x : Receipt C A). x.number ≤ length (of_project q all)) rs r old.counted
            (omega (arith, next, one_more log r q own));
      }
