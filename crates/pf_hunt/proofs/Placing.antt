-- Where numbers occur, once there is one more after them.
use Rattle.std.proofs.Common.{◌≡◌, ◌≢◌, inl, inr, ◌+◌, ◌<◌, ◌≤◌, ℕ, zero, suc, cond, List, [], ◌∷◌, ◌++◌, Option, Some}
use Rattle.std.proofs.Common.{None, refl, sym, ap, ◌∙◌, subst, arith, length, length-append}
use Rattle.std.specs.Prelude.{slice_get, nat_eq}
use Rattle.std.specs.HashMap.{HashMap, get}
use Rattle.std.proofs.lemmas.Bool.{cases_lt}
use Rattle.std.proofs.lemmas.Bool.Decides.{eqb_tells}
use Rattle.std.proofs.lemmas.List.{map-append}
use Rattle.std.proofs.lemmas.Option.{same_Some, slice_get_within}
use Rattle.pf_hunt.specs.Places.{ArePlaced, IsAbsent, IsLastBefore, numbers_in}
use Rattle.pf_hunt.specs.declared.places.NumberPlace.{NumberPlace}

-- what is before one more, and that one
is_unmoved : {T : Type 0} (xs : List T) (x : T) (k : ℕ) → k < length xs → slice_get (xs ++ x ∷ []) k ≡ slice_get xs k
is_unmoved [] x k l = absurd (omega arith)
is_unmoved (y ∷ xs) x zero l = refl
is_unmoved (y ∷ xs) x (suc k) l = is_unmoved xs x k (omega arith)

is_there_last : {T : Type 0} (xs : List T) (x : T) → slice_get (xs ++ x ∷ []) (length xs) ≡ Some x
is_there_last [] x = refl
is_there_last (y ∷ xs) x = is_there_last xs x

length_more : {T : Type 0} (xs : List T) (x : T) → length (xs ++ x ∷ []) ≡ length xs + 1
length_more xs x = length-append xs (x ∷ [])

pub length-numbers : (ps : List NumberPlace) → length (numbers_in ps) ≡ length ps
length-numbers [] = refl
length-numbers (p ∷ ps) = ap suc (length-numbers ps)

module _ (ns : List ℕ) (m : ℕ) where
  absent_still : (n a b : ℕ) → b ≤ length ns → IsAbsent ns n a b → IsAbsent (ns ++ m ∷ []) n a b
  absent_still n a b l h k from to e = h k from to (sym (is_unmoved ns m k (omega arith)) ∙ e)

  absent_more : (n a : ℕ) → (n ≢ m) → IsAbsent ns n a (length ns) → IsAbsent (ns ++ m ∷ []) n a (length (ns ++ m ∷ []))
  absent_more n a d h k from to e = elim (cases_lt k (length ns)) [
    | inl l ↦ h k from l (sym (is_unmoved ns m k l) ∙ e)
    | inr l ↦
        let at : k ≡ length ns = omega (arith, length_more ns m) in
        d (same_Some n m (sym e ∙ ap (slice_get (ns ++ m ∷ [])) at ∙ is_there_last ns m))
  ]

  -- what was last before an index still is
  last_still : (n b : ℕ) (o : Option ℕ) → b ≤ length ns → IsLastBefore ns n b o → IsLastBefore (ns ++ m ∷ []) n b o
  last_still n b None l h = absent_still n zero b l h
  last_still n b (Some i) l h = (h.0, is_unmoved ns m i (omega (arith, h.0)) ∙ h.1, absent_still n (suc i) b l h.2)

  -- what was last is, where another number comes
  last_of_others : (n : ℕ) (o : Option ℕ) → (n ≢ m) → IsLastBefore ns n (length ns) o
      → IsLastBefore (ns ++ m ∷ []) n (length (ns ++ m ∷ [])) o
  last_of_others n None d h = absent_more n zero d h
  last_of_others n (Some i) d h = (
    omega (arith, h.0, length_more ns m),
    is_unmoved ns m i h.0 ∙ h.1,
    absent_more n (suc i) d h.2,
  )

  -- the number that comes is last
  comes_last : IsLastBefore (ns ++ m ∷ []) m (length (ns ++ m ∷ [])) (Some (length ns))
  comes_last = (
    omega (arith, length_more ns m),
    is_there_last ns m,
    λ k from to e.
        absurd (omega (arith, length_more ns m, from, to)),
  )

module _ {S : Type 0} (ps : List NumberPlace) (lasts others : HashMap ℕ ℕ S) (n at : ℕ) (old : Option ℕ) where
  abbrev place : NumberPlace
  place = record { number = n; before = old }

  abbrev ns : List ℕ
  ns = numbers_in ps

  numbers_more : numbers_in (ps ++ place ∷ []) ≡ ns ++ n ∷ []
  numbers_more = map-append (λ (p : NumberPlace). p.number) ps (place ∷ [])

  -- the places, once one more number is put after them
  pub placed_more : ArePlaced ps lasts → at ≡ length ps → old ≡ get nat_eq lasts n
      → ((q : ℕ) → get nat_eq others q ≡ cond (nat_eq n q) (Some at) (get nat_eq lasts q))
      → ArePlaced (ps ++ place ∷ []) others
  placed_more h after was updates = record {
    last = λ q. subst (λ ms. IsLastBefore ms q (length ms) (get nat_eq others q)) (sym numbers_more) (found q);
    before = λ i p e. subst (λ ms. IsLastBefore ms p.number i p.before) (sym numbers_more) (leads i p e);
  }
    where
      found : (q : ℕ) → IsLastBefore (ns ++ n ∷ []) q (length (ns ++ n ∷ [])) (get nat_eq others q)
      found q = elim (eqb_tells n q) [
        | inl t ↦
            let o : get nat_eq others q ≡ Some (length ns) =
            updates q ∙ ap (λ b. cond b (Some at) (get nat_eq lasts q)) t.0 ∙ ap (λ k. Some k)
            (after ∙ sym (length-numbers ps)) in
            subst (λ o. IsLastBefore (ns ++ n ∷ []) q (length (ns ++ n ∷ [])) o) (sym o)
            (subst (λ m. IsLastBefore (ns ++ n ∷ []) m (length (ns ++ n ∷ [])) (Some (length ns))) t.1
            (comes_last ns n))
        | inr t ↦
            let o : get nat_eq others q ≡ get nat_eq lasts q =
            updates q ∙ ap (λ b. cond b (Some at) (get nat_eq lasts q)) t.0 in
            subst (λ o. IsLastBefore (ns ++ n ∷ []) q (length (ns ++ n ∷ [])) o) (sym o)
            (last_of_others ns n q (get nat_eq lasts q) (λ e. t.1 (sym e)) (h.last q))
      ]

      leads : (i : ℕ) (p : NumberPlace) → slice_get (ps ++ place ∷ []) i ≡ Some p
          → IsLastBefore (ns ++ n ∷ []) p.number i p.before
      leads i p e = elim (cases_lt i (length ps)) [
        | inl l ↦
            last_still ns n p.number i p.before (omega (arith, l, length-numbers ps))
            (h.before i p (sym (is_unmoved ps place i l) ∙ e))
        | inr l ↦
            let within = slice_get_within (ps ++ place ∷ []) i p e in
            let here : i ≡ length ps = omega (arith, l, within, length_more ps place) in
            let same : place ≡ p = same_Some place p (sym (is_there_last ps place) ∙ ap (slice_get (ps ++ place ∷ []))
            (sym here) ∙ e) in
            subst (λ z. IsLastBefore (ns ++ n ∷ []) z.number i z.before) same
            (subst (λ k. IsLastBefore (ns ++ n ∷ []) n k old) (length-numbers ps ∙ sym here)
            (last_still ns n n (length ns) old (omega arith)
            (subst (λ o. IsLastBefore ns n (length ns) o) (sym was) (h.last n))))
      ]
