-- Shrinking finds a schedule that fails, and of which no candidate does where it is complete.
use Rattle.std.proofs.Common.{◌≡◌, ◌<◌, ◌⊎◌, inl, inr, ◌/◌, ◌+◌, ℕ, zero, suc, Bool, true, false, List, [], ◌∷◌, ◌++◌}
use Rattle.std.proofs.Common.{Some, None, refl, sym, subst, arith, if◌then◌else◌}
use Rattle.std.specs.Prelude.{All, sum, ◌↔◌}
use Rattle.std.proofs.lemmas.List.Elements.{All-nil, All-cons, All-head, All-tail, All-append, All-map, All-weaker}
use Rattle.std.proofs.lemmas.List.Sums.{sum_by-cons}
use Rattle.pf_model.specs.Shrinking.{with_beginnings, without_last, without_one, halved, candidates, Found, search}
use Rattle.pf_model.specs.Shrinking.{shrunk}
use Rattle.pf_model.specs.Laws.{IsSmaller, IsFoundOf, ShrinkingIsRight}

-- ---- smaller schedules

abbrev AllSmaller : List ℕ → List (List ℕ) → Type 0
AllSmaller ns cs = All (λ c. IsSmaller c ns) cs

sum_cons : (n : ℕ) (ns : List ℕ) → sum (n ∷ ns) ≡ n + sum ns
sum_cons n ns = sum_by-cons (λ x. x) n ns

smaller_after : (n : ℕ) (ms ns : List ℕ) → IsSmaller ms ns → IsSmaller (n ∷ ms) (n ∷ ns)
smaller_after n ms ns (inl h) = inl (omega arith)
smaller_after n ms ns (inr h) =
    let l = h.0 in let s = h.1 in let a = sum_cons n ms in let b = sum_cons n ns in inr (omega arith, omega arith)

all_after : (n : ℕ) (ns : List ℕ) (cs : List (List ℕ)) → AllSmaller ns cs → AllSmaller (n ∷ ns) (with_beginnings n cs)
all_after n ns cs h =
    All-map (λ c. IsSmaller c (n ∷ ns)) (λ c. n ∷ c) cs
    (All-weaker (λ c. IsSmaller c ns) (λ c. IsSmaller (n ∷ c) (n ∷ ns)) (λ c. smaller_after n c ns) cs h)

smaller_of_smaller : (ls ms ns : List ℕ) → IsSmaller ls ms → IsSmaller ms ns → IsSmaller ls ns
smaller_of_smaller ls ms ns (inl h) (inl k) = inl (omega arith)
smaller_of_smaller ls ms ns (inl h) (inr k) = let l = k.0 in inl (omega arith)
smaller_of_smaller ls ms ns (inr h) (inl k) = let l = h.0 in inl (omega arith)
smaller_of_smaller ls ms ns (inr h) (inr k) =
    let a = h.0 in let b = k.0 in let s = h.1 in let t = k.1 in inr (omega arith, omega arith)

-- ---- the candidates are smaller

without_last_smaller : (ns : List ℕ) → AllSmaller ns (without_last ns)
without_last_smaller [] = All-nil (λ c. IsSmaller c [])
without_last_smaller (n ∷ []) = All-cons (λ c. IsSmaller c (n ∷ [])) [] [] (inl (omega arith))
    (All-nil (λ c. IsSmaller c (n ∷ [])))
without_last_smaller (n ∷ m ∷ ns) = all_after n (m ∷ ns) (without_last (m ∷ ns)) (without_last_smaller (m ∷ ns))

without_one_smaller : (ns : List ℕ) → AllSmaller ns (without_one ns)
without_one_smaller [] = All-nil (λ c. IsSmaller c [])
without_one_smaller (n ∷ []) = All-nil (λ c. IsSmaller c (n ∷ []))
without_one_smaller (n ∷ m ∷ ns) =
    All-cons (λ c. IsSmaller c (n ∷ m ∷ ns)) (m ∷ ns) (with_beginnings n (without_one (m ∷ ns))) (inl (omega arith))
    (all_after n (m ∷ ns) (without_one (m ∷ ns)) (without_one_smaller (m ∷ ns)))

half_smaller : (n : ℕ) (ns : List ℕ) → IsSmaller (suc n / 2 ∷ ns) (suc n ∷ ns)
half_smaller n ns =
    let a = sum_cons (suc n / 2) ns in let b = sum_cons (suc n) ns in
    let h : suc n / 2 < suc n = omega arith in
    inr (refl, omega arith)

halved_smaller : (ns : List ℕ) → AllSmaller ns (halved ns)
halved_smaller [] = All-nil (λ c. IsSmaller c [])
halved_smaller (zero ∷ ns) = all_after zero ns (halved ns) (halved_smaller ns)
halved_smaller (suc n ∷ ns) =
    All-cons (λ c. IsSmaller c (suc n ∷ ns)) (suc n / 2 ∷ ns) (with_beginnings (suc n) (halved ns)) (half_smaller n ns)
    (all_after (suc n) ns (halved ns) (halved_smaller ns))

candidates_smaller : (ns : List ℕ) → AllSmaller ns (candidates ns)
candidates_smaller ns =
    let P : List ℕ → Type 0 = λ c. IsSmaller c ns in
    All-append P (without_last ns ++ without_one ns) (halved ns)
    (All-append P (without_last ns) (without_one ns) (without_last_smaller ns) (without_one_smaller ns))
    (halved_smaller ns)

-- ---- the search

module _ (fails : List ℕ → Bool) where
  abbrev NoneFails : List (List ℕ) → Type 0
  NoneFails cs = All (λ c. fails c ≡ false) cs

  -- what is found of a smaller schedule is found of the larger one
  found_of_smaller : (ms ns : List ℕ) (f : Found) → IsSmaller ms ns → IsFoundOf fails ms f → IsFoundOf fails ns f
  found_of_smaller ms ns f h k = record {
    still_fails = k.still_fails;
    no_larger = inr (by k.no_larger);
    none_left = k.none_left;
  }
    where
      by : (f.schedule ≡ ms) ⊎ IsSmaller f.schedule ms → IsSmaller f.schedule ns
      by (inl e) = subst (λ x. IsSmaller x ns) (sym e) h
      by (inr l) = smaller_of_smaller f.schedule ms ns l h

  -- with these candidates left, where none but they may fail
  search_finds : (k : ℕ) (ns : List ℕ) (cs : List (List ℕ)) → fails ns ≡ true → AllSmaller ns cs
      → (NoneFails cs → NoneFails (candidates ns)) → IsFoundOf fails ns (search fails k ns cs)
  search_finds k ns [] e s rest = record {
    still_fails = e;
    no_larger = inl refl;
    none_left =
        λ h. rest (All-nil (λ c. fails c ≡ false));
  }
  search_finds zero ns (c ∷ cs) e s rest = record {
    still_fails = e;
    no_larger = inl refl;
    none_left =
        λ h. absurd (cc);
  }
  search_finds (suc k) ns (c ∷ cs) e s rest = by (fails c) refl (search_finds k c (candidates c)) (search_finds k ns cs)
    where
      by : (b : Bool) → fails c ≡ b
          → (fails c ≡ true → AllSmaller c (candidates c) → (NoneFails (candidates c) → NoneFails (candidates c))
          → IsFoundOf fails c (search fails k c (candidates c)))
          → (fails ns ≡ true → AllSmaller ns cs → (NoneFails cs → NoneFails (candidates ns))
          → IsFoundOf fails ns (search fails k ns cs))
          → IsFoundOf fails ns (if b then search fails k c (candidates c) else search fails k ns cs)
      by true h again on =
          found_of_smaller c ns (search fails k c (candidates c)) (All-head (λ x. IsSmaller x ns) c cs s)
          (again h (candidates_smaller c) (λ x. x))
      by false h again on = on e (All-tail (λ x. IsSmaller x ns) c cs s)
          (λ x. rest (All-cons (λ y. fails y ≡ false) c cs h x))

  shrunk_finds : (runs : ℕ) (ns : List ℕ) (f : Found) → shrunk fails runs ns ≡ Some f → IsFoundOf fails ns f
  shrunk_finds zero ns f e = absurd (cc)
  shrunk_finds (suc k) ns f e = by (fails ns) refl e
    where
      by : (b : Bool) → fails ns ≡ b → (if b then Some (search fails k ns (candidates ns)) else None) ≡ Some f
          → IsFoundOf fails ns f
      by false h d = absurd (cc)
      by true h d =
          let q : search fails k ns (candidates ns) ≡ f = cc in
          subst (IsFoundOf fails ns) q (search_finds k ns (candidates ns) h (candidates_smaller ns) (λ x. x))

  shrunk_nothing : (runs : ℕ) (ns : List ℕ) → 0 < runs → (shrunk fails runs ns ≡ None) ↔ (fails ns ≡ false)
  shrunk_nothing zero ns l = absurd (omega arith)
  shrunk_nothing (suc k) ns l = by (fails ns)
    where
      by : (b : Bool) → ((if b then Some (search fails k ns (candidates ns)) else None) ≡ None) ↔ (b ≡ false)
      by true = (λ e. absurd (cc), λ e. absurd (cc))
      by false = (λ e. refl, λ e. refl)

pub shrinking_is_right : ShrinkingIsRight
shrinking_is_right fails runs ns =
    record {
      found = shrunk_finds fails runs ns;
      nothing = shrunk_nothing fails runs ns;
      candidates_are_smaller =
          candidates_smaller ns;
    }
