-- What is at the places of a token.
use Rattle.std.proofs.Common.{◌≡◌, ℕ, zero, suc, ◌+◌, ◌-◌, ◌≤◌, List, [], ◌∷◌, ◌++◌, length, Option, Some, None, refl}
use Rattle.std.proofs.Common.{sym, ap, ◌∙◌, subst, arith}
use Rattle.std.specs.Prelude.{slice_get}
use Rattle.pf_farm_accounts.specs.Places.{weigh as weigh_places, weigh_below, put_some, standing_at, AreBelow}
use Rattle.pf_farm_accounts.specs.Places.{StartsWith}
use Rattle.pf_farm_accounts.specs.declared.receipt.Receipt.{Receipt}
use Rattle.pf_farm_accounts.specs.Receipts.{weigh, EachOnce}

first_below : (f : ℕ → ℕ) (n : ℕ) → weigh_below f (suc n) ≡ f 0 + weigh_below (λ k. f (suc k)) n
first_below f zero = omega arith
first_below f (suc n) = omega (arith, first_below f n)

-- what places weigh and what is left of a bound make up the bound for each
both : (f : ℕ → ℕ) (bound : ℕ) → ((k : ℕ) → f k ≤ bound) → (ks : List ℕ)
    → weigh_places f ks + weigh_places (λ k. bound - f k) ks ≡ weigh_places (λ _. bound) ks
both f bound less [] = refl
both f bound less (k ∷ ks) = omega (arith, less k, both f bound less ks)

both_below : (f : ℕ → ℕ) (bound : ℕ) → ((k : ℕ) → f k ≤ bound) → (n : ℕ)
    → weigh_below f n + weigh_below (λ k. bound - f k) n ≡ weigh_below (λ _. bound) n
both_below f bound less zero = refl
both_below f bound less (suc n) = omega (arith, less n, both_below f bound less n)

as_many : (bound : ℕ) (ks : List ℕ) (n : ℕ) → n ≤ length ks → weigh_below (λ _. bound) n ≤ weigh_places (λ _. bound) ks
as_many bound ks zero enough = omega arith
as_many bound [] (suc n) enough = absurd (omega arith)
as_many bound (k ∷ ks) (suc n) enough = omega (arith, as_many bound ks n (omega arith))

-- n places below n, each at most once, are all of them
same_weight : (f : ℕ → ℕ) (bound : ℕ) → ((k : ℕ) → f k ≤ bound) → (ks : List ℕ) (n : ℕ) → AreBelow ks n → n ≤ length ks
    → weigh_places f ks ≡ weigh_below f n
same_weight f bound less ks n below enough = omega (
  arith,
  both f bound less ks,
  both_below f bound less n,
  as_many bound ks n enough,
  below f,
  below (λ k. bound - f k),
)

pub grows : (f : ℕ → ℕ) (n more all : ℕ) → all ≡ n + more → weigh_below f n ≤ weigh_below f all
grows f n zero all is = let same : all ≡ n = omega (arith, is) in omega (arith, ap (weigh_below f) same)
grows f n (suc more) all is = let next : all ≡ suc (n + more) = omega (arith, is) in
    omega (arith, ap (weigh_below f) next, grows f n more (n + more) refl)

module _ {T : Type 0} where
  -- 1 past the end
  abbrev absent : Option T → ℕ
  absent None = 1
  absent (Some x) = 0

  stays : (xs rest : List T) (k : ℕ) → absent (slice_get xs k) ≡ 0 → slice_get (xs ++ rest) k ≡ slice_get xs k
  stays [] rest k h = absurd (omega arith)
  stays (x ∷ xs) rest zero h = refl
  stays (x ∷ xs) rest (suc k) h = stays xs rest k h

  none_absent : (xs : List T) → weigh_below (λ k. absent (slice_get xs k)) (length xs) ≡ 0
  none_absent [] = refl
  none_absent (x ∷ xs) = omega (arith, first_below (λ k. absent (slice_get (x ∷ xs) k)) (length xs), none_absent xs)

  last_get : (xs : List T) (x : T) → slice_get (xs ++ x ∷ []) (length xs) ≡ Some x
  last_get [] x = refl
  last_get (y ∷ ys) x = last_get ys x

  some_append : (o : Option T) (xs ys : List T) → put_some o (xs ++ ys) ≡ put_some o xs ++ ys
  some_append None xs ys = refl
  some_append (Some r) xs ys = refl

  pub standing_append : (ks js : List ℕ) (log : List T)
      → standing_at (ks ++ js) log ≡ standing_at ks log ++ standing_at js log
  standing_append [] js log = refl
  standing_append (k ∷ ks) js log = ap (put_some (slice_get log k)) (standing_append ks js log)
      ∙ some_append (slice_get log k) (standing_at ks log) (standing_at js log)

  is_there : (ks : List ℕ) (log rest : List T) → weigh_places (λ k. absent (slice_get log k)) ks ≡ 0
      → standing_at ks (log ++ rest) ≡ standing_at ks log
  is_there [] log rest h = refl
  is_there (k ∷ ks) log rest h =
      let here = stays log rest k (omega (arith, h)) in
      let others = is_there ks log rest (omega (arith, h)) in
      λ i. put_some (here i) (others i)

  -- what was there is there when more were logged
  pub is_still_there : (ks : List ℕ) (seen log : List T) → AreBelow ks (length seen) → StartsWith log seen
      → standing_at ks log ≡ standing_at ks seen
  is_still_there ks seen log below starts =
      let none : weigh_places (λ k. absent (slice_get seen k)) ks ≡ 0 =
      omega (arith, below (λ k. absent (slice_get seen k)), none_absent seen) in
      subst (λ l. standing_at ks l ≡ standing_at ks seen) (sym starts.1) (is_there ks seen starts.0 none)

  pub last_is_there : (log : List T) (r : T)
      → standing_at (length log ∷ []) (log ++ r ∷ []) ≡ r ∷ []
  last_is_there log r = ap (λ o. put_some o []) (last_get log r)

module _ {C A : Type 0} where
  abbrev worth : (Receipt C A → ℕ) → Option (Receipt C A) → ℕ
  worth h None = 0
  worth h (Some r) = h r

  -- what the receipt at a place weighs
  abbrev at_place : (Receipt C A → ℕ) → List (Receipt C A) → ℕ → ℕ
  at_place h log k = worth h (slice_get log k)

  weigh_some : (h : Receipt C A → ℕ) (o : Option (Receipt C A)) (rs : List (Receipt C A))
      → weigh h (put_some o rs) ≡ worth h o + weigh h rs
  weigh_some h None rs = omega arith
  weigh_some h (Some r) rs = omega arith

  weigh_standing : (h : Receipt C A → ℕ) (ks : List ℕ) (log : List (Receipt C A))
      → weigh h (standing_at ks log) ≡ weigh_places (at_place h log) ks
  weigh_standing h [] log = refl
  weigh_standing h (k ∷ ks) log = omega (
    arith,
    weigh_some h (slice_get log k) (standing_at ks log),
    weigh_standing h ks log,
  )

  weigh_log : (h : Receipt C A → ℕ) (log : List (Receipt C A)) → weigh h log ≡ weigh_below (at_place h log) (length log)
  weigh_log h [] = refl
  weigh_log h (r ∷ rs) = omega (arith, weigh_log h rs, first_below (at_place h (r ∷ rs)) (length rs))

  most : (h : Receipt C A → ℕ) (log : List (Receipt C A)) (k : ℕ) → at_place h log k ≤ weigh h log
  most h [] k = omega arith
  most h (r ∷ rs) zero = omega arith
  most h (r ∷ rs) (suc k) = omega (arith, most h rs k)

  length_some : (o : Option (Receipt C A)) (rs : List (Receipt C A)) → length (put_some o rs) ≤ suc (length rs)
  length_some None rs = omega arith
  length_some (Some r) rs = omega arith

  length_standing : (ks : List ℕ) (log : List (Receipt C A)) → length (standing_at ks log) ≤ length ks
  length_standing [] log = omega arith
  length_standing (k ∷ ks) log = omega (
    arith,
    length_some (slice_get log k) (standing_at ks log),
    length_standing ks log,
  )

  -- where as many are at some places as were logged, these are all that were logged
  pub each_once : (ks : List ℕ) (log : List (Receipt C A)) → AreBelow ks (length log)
      → length log ≤ length (standing_at ks log) → EachOnce (standing_at ks log) log
  each_once ks log below all h = weigh_standing h ks log ∙ same_weight (at_place h log) (weigh h log) (most h log) ks
      (length log) below (omega (arith, all, length_standing ks log)) ∙ sym (weigh_log h log)
