-- Counting in longer lists, and what is held at numbers.
use Rattle.std.proofs.Common.{◌≡◌, ◌≢◌, ℕ, zero, suc, ◌+◌, ◌≤◌, ◌==◌, Bool, true, false, true≢false, List, [], ◌∷◌}
use Rattle.std.proofs.Common.{◌++◌, length, Option, Some, refl, sym, ap, ◌∙◌, arith}
use Rattle.std.specs.Prelude.{slice_get, slice_set}
use Rattle.std.specs.Option.{option_flatten}
use Rattle.std.proofs.lemmas.Bool.Decides.{nat_tests}
use Rattle.std.proofs.lemmas.List.{length-set}
use Rattle.pf_desks.specs.Desk.{held_at, with_held}
use Rattle.pf_farm_laws.specs.Tally.{one_if, tally}

pub apart_by : (n k : ℕ) → (n == k) ≡ false → n ≢ k
apart_by n k h e = let same : (n == k) ≡ true = grind (arith, nat_tests) in absurd (true≢false (sym same ∙ h))

pub same_by : (n k : ℕ) → (n == k) ≡ true → n ≡ k
same_by n k h = grind (arith, nat_tests)

pub self_is : (n : ℕ) → (n == n) ≡ true
self_is n = grind (arith, nat_tests)

module _ {X : Type 0} (f : X → Bool) where
  pub tally_append : (xs ys : List X) → tally f (xs ++ ys) ≡ tally f xs + tally f ys
  tally_append [] ys = omega arith
  tally_append (x ∷ xs) ys = omega (arith, tally_append xs ys)

  pub tally_push : (xs : List X) (x : X) → tally f (xs ++ x ∷ []) ≡ tally f xs + one_if (f x)
  tally_push [] x = omega arith
  tally_push (y ∷ xs) x = omega (arith, tally_push xs x)

  pub tally_set : (xs : List X) (k : ℕ) (x y : X) → slice_get xs k ≡ Some x
      → tally f (slice_set xs k y) + one_if (f x) ≡ tally f xs + one_if (f y)
  tally_set [] k x y h = absurd (cc)
  tally_set (z ∷ xs) zero x y h = let is : z ≡ x = cc (h) in let same : one_if (f z) ≡ one_if (f x) = ap
      (λ w. one_if (f w)) is in omega (arith, same)
  tally_set (z ∷ xs) (suc k) x y h = omega (arith, tally_set xs k x y h)

  pub tally_at : (xs : List X) (k : ℕ) (x : X) → slice_get xs k ≡ Some x → one_if (f x) ≤ tally f xs
  tally_at [] k x h = absurd (cc)
  tally_at (z ∷ xs) zero x h = let is : z ≡ x = cc (h) in let same : one_if (f z) ≡ one_if (f x) = ap
      (λ w. one_if (f w)) is in omega (arith, same)
  tally_at (z ∷ xs) (suc k) x h = omega (arith, tally_at xs k x h)

module _ {T : Type 0} where
  get_other : (xs : List (Option T)) (i k : ℕ) (o : Option T) → i ≢ k → slice_get (slice_set xs i o) k ≡ slice_get xs k
  get_other [] i k o apart = refl
  get_other (x ∷ xs) zero zero o apart = absurd (apart refl)
  get_other (x ∷ xs) zero (suc k) o apart = refl
  get_other (x ∷ xs) (suc i) zero o apart = refl
  get_other (x ∷ xs) (suc i) (suc k) o apart = get_other xs i k o (λ e. apart (ap suc e))

  -- what is held at another number stays
  pub held_other : (xs : List (Option T)) (n k : ℕ) (o : Option T) → n ≢ k → held_at (with_held xs n o) k ≡ held_at xs k
  held_other xs zero k o apart = refl
  held_other xs (suc i) zero o apart = refl
  held_other xs (suc i) (suc k) o apart = ap option_flatten (get_other xs i k o (λ e. apart (ap suc e)))

  get_same : (xs : List (Option T)) (i : ℕ) (o : Option T) → suc i ≤ length xs → slice_get (slice_set xs i o) i ≡ Some o
  get_same [] i o within = absurd (omega arith)
  get_same (x ∷ xs) zero o within = refl
  get_same (x ∷ xs) (suc i) o within = get_same xs i o (omega arith)

  pub held_same : (xs : List (Option T)) (n : ℕ) (o : Option T) → 1 ≤ n → n ≤ length xs
      → held_at (with_held xs n o) n ≡ o
  held_same xs zero o from within = absurd (omega arith)
  held_same xs (suc i) o from within = ap option_flatten (get_same xs i o within)

  pub length_held : (xs : List (Option T)) (n : ℕ) (o : Option T) → length (with_held xs n o) ≡ length xs
  length_held xs zero o = refl
  length_held xs (suc i) o = length-set xs i o

  pub length_more : (xs : List (Option T)) (o : Option T) → length (xs ++ o ∷ []) ≡ length xs + 1
  length_more [] o = refl
  length_more (x ∷ xs) o = omega (arith, length_more xs o)

  get_before : (xs : List (Option T)) (i : ℕ) (o : Option T) → suc i ≤ length xs
      → slice_get (xs ++ o ∷ []) i ≡ slice_get xs i
  get_before [] i o within = absurd (omega arith)
  get_before (x ∷ xs) zero o within = refl
  get_before (x ∷ xs) (suc i) o within = get_before xs i o (omega arith)

  -- what is held stays where one thing more is held after it
  pub held_before : (xs : List (Option T)) (n : ℕ) (o : Option T) → n ≤ length xs
      → held_at (xs ++ o ∷ []) n ≡ held_at xs n
  held_before xs zero o within = refl
  held_before xs (suc i) o within = ap option_flatten (get_before xs i o within)

  get_last : (xs : List (Option T)) (o : Option T) → slice_get (xs ++ o ∷ []) (length xs) ≡ Some o
  get_last [] o = refl
  get_last (x ∷ xs) o = get_last xs o

  pub held_last : (xs : List (Option T)) (o : Option T) → held_at (xs ++ o ∷ []) (suc (length xs)) ≡ o
  held_last xs o = ap option_flatten (get_last xs o)
