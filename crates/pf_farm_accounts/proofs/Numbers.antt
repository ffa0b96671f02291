-- The numbers of receipts.
use Rattle.std.proofs.Common.{◌≡◌, ℕ, suc, ◌+◌, ◌<◌, ◌≤◌, ◌==◌, Bool, true, false, List, [], ◌∷◌, ◌++◌, length, refl}
use Rattle.std.proofs.Common.{sym, ap, ◌∙◌, subst, append-nil, length-append, arith}
use Rattle.std.specs.Prelude.{All}
use Rattle.std.proofs.lemmas.Bool.Decides.{nat_tests}
use Rattle.std.proofs.lemmas.List.Elements.{All-head, All-tail}
use Rattle.pf_farm_accounts.specs.Places.{StartsWith}
use Rattle.pf_farm_accounts.specs.declared.receipt.Receipt.{Receipt}
use Rattle.pf_farm_accounts.specs.Receipts.{put_if, of_project, AreCounted, AreNumbered, AreRising}

module _ {C A : Type 0} where
  if_append : (b : Bool) (r : Receipt C A) (xs ys : List (Receipt C A)) → put_if b r (xs ++ ys) ≡ put_if b r xs ++ ys
  if_append true r xs ys = refl
  if_append false r xs ys = refl

  pub of_append : (q : ℕ) (xs ys : List (Receipt C A)) → of_project q (xs ++ ys) ≡ of_project q xs ++ of_project q ys
  of_append q [] ys = refl
  of_append q (x ∷ xs) ys = ap (put_if (x.project == q) x) (of_append q xs ys) ∙ if_append (x.project == q) x
      (of_project q xs) (of_project q ys)

  -- a project has no fewer receipts when more were logged
  pub no_fewer : (q : ℕ) (log seen : List (Receipt C A)) → StartsWith log seen
      → length (of_project q seen) ≤ length (of_project q log)
  no_fewer q log seen starts =
      let whole : of_project q log ≡ of_project q seen ++ of_project q starts.0 = ap (of_project q) starts.1
      ∙ of_append q seen starts.0 in
      omega (arith, ap (λ l. length l) whole, length-append (of_project q seen) (of_project q starts.0))

  counted_push : (k : ℕ) (rs : List (Receipt C A)) (r : Receipt C A) → AreCounted k rs → r.number ≡ k + length rs
      → AreCounted k (rs ++ r ∷ [])
  counted_push k [] r counted next = (omega (arith, next), tt)
  counted_push k (x ∷ xs) r counted next = (counted.0, counted_push (suc k) xs r counted.1 (omega (arith, next)))

  numbered_by : (b : Bool) (q : ℕ) (log : List (Receipt C A)) (r : Receipt C A) → (r.project == q) ≡ b → AreNumbered log
      → r.number ≡ length (of_project r.project log) + 1 → AreCounted 1 (of_project q log ++ put_if b r [])
  numbered_by true q log r same numbered next =
      let own : r.project ≡ q = grind (arith, nat_tests) in
      let number : r.number ≡ 1 + length (of_project q log) =
      omega (arith, next, ap (λ p. length (of_project p log)) own) in
      counted_push 1 (of_project q log) r (numbered q) number
  numbered_by false q log r other numbered next =
      subst (AreCounted 1) (sym (append-nil (of_project q log))) (numbered q)

  -- a call that is logged has the next number of its project
  pub numbered_push : (log : List (Receipt C A)) (r : Receipt C A) → AreNumbered log
      → r.number ≡ length (of_project r.project log) + 1 → AreNumbered (log ++ r ∷ [])
  numbered_push log r numbered next q = subst (AreCounted 1) (sym (of_append q log (r ∷ [])))
      (numbered_by (r.project == q) q log r refl numbered next)

  own_by : (b : Bool) (q : ℕ) (r : Receipt C A) → (r.project == q) ≡ b → r.project ≡ q → length (put_if b r []) ≡ 1
  own_by true q r is own = refl
  own_by false q r is own = absurd (grind (arith, nat_tests))

  pub one_more : (log : List (Receipt C A)) (r : Receipt C A) (q : ℕ) → r.project ≡ q
      → length (of_project q (log ++ r ∷ [])) ≡ length (of_project q log) + 1
  one_more log r q own = omega (
    arith,
    ap (λ l. length l) (of_append q log (r ∷ [])),
    length-append (of_project q log) (of_project q (r ∷ [])),
    own_by (r.project == q) q r refl own,
  )

  -- numbers that rise up to some number rise to one above it
  pub rising_push : (k most : ℕ) (rs : List (Receipt C A)) (r : Receipt C A) → k ≤ most → most < r.number
      → AreRising k rs → All (λ x. x.number ≤ most) rs → AreRising k (rs ++ r ∷ [])
  rising_push k most [] r low high rising up = (omega arith, tt)
  rising_push k most (x ∷ xs) r low high rising up = (
    rising.0,
    rising_push x.number most xs r (All-head (λ (y : Receipt C A). y.number ≤ most) x xs up) high rising.1
        (All-tail (λ (y : Receipt C A). y.number ≤ most) x xs up),
  )
