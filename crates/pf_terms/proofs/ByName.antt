-- An index of names by bytes, through a change at one name.
use Rattle.std.proofs.Common.{◌≡◌, ℕ, List, [], ◌∷◌, ◌++◌, length, Bool, true, false, Some, None, refl, sym, ap, ◌∙◌}
use Rattle.std.proofs.Common.{arith, inl, inr, subst, cond}
use Rattle.std.specs.Prelude.{slice_get, IfSome, IfNone, ◌||◌, ◌⊎◌}
use Rattle.std.specs.declared.option.Option.{Option}
use Rattle.std.specs.List.{list_any}
use Rattle.std.specs.Str.{bytes_eq}
use Rattle.std.specs.Ordering.{nat_cmp, is_eq}
use Rattle.std.specs.Cmp.{eq_by_cmp_equiv}
use Rattle.std.specs.Cmp.Lexicographic.{slice_cmp}
use Rattle.std.specs.BTreeMap.{BTreeMap, UpdatesBy, get_by}
use Rattle.std.specs.Map.{KeepsOthers, IsKeyTest, AreApart, lookup}
use Rattle.std.proofs.lemmas.Bool.{cases_Bool, cond-true, cond-false}
use Rattle.std.proofs.lemmas.Cmp.{nat_list_cmp_total, nat_list_eq_equiv}
use Rattle.std.proofs.lemmas.List.Folds.{list_any-append}
use Rattle.std.proofs.lemmas.Map.Text.{is_eq-slice_cmp}
use Rattle.std.proofs.lemmas.Option.{IfSome_then}
use Rattle.std.proofs.lemmas.Slice.Eq.{bytes_eq-Decides}
use Rattle.pf_terms.specs.Numbers.{IsIndex}
use Rattle.pf_terms.proofs.Fronts.{get-front, get-after}

-- a name that is not this one is not one that this one is
apart : (bs cs ks : List ℕ) → bytes_eq bs cs ≡ false → is_eq (slice_cmp nat_cmp bs ks) ≡ true
    → is_eq (slice_cmp nat_cmp cs ks) ≡ false
apart bs cs ks n y =
    let same : bytes_eq bs ks ≡ true = sym (is_eq-slice_cmp bs ks) ∙ y in
    is_eq-slice_cmp cs ks ∙ nat_list_eq_equiv.symm cs ks ∙ sym (nat_list_eq_equiv.congr bs ks cs same) ∙ n

others : {K X : Type 0} (eq : K → K → Bool) (test : K → Bool) (old new : List (K × X)) → KeepsOthers eq test old new
    → (other : K → Bool) → IsKeyTest eq other → AreApart test other → lookup other new ≡ lookup other old
unfolding KeepsOthers
others eq test old new h = h

module _ {K : Type 0} (bytes : K → List ℕ) (bs : List ℕ) where
  -- what a change at one name leaves at each
  pub updates_bytes : {X : Type 0} (m n : BTreeMap K X) (w : Option X)
      → UpdatesBy (λ x y. slice_cmp nat_cmp (bytes x) (bytes y)) (λ k. slice_cmp nat_cmp bs (bytes k)) m n w
      → (cs : List ℕ) → get_by (λ k. slice_cmp nat_cmp cs (bytes k)) n ≡ cond (bytes_eq bs cs) w
      (get_by (λ k. slice_cmp nat_cmp cs (bytes k)) m)
  updates_bytes {X} m n w h cs = by (cases_Bool (bytes_eq bs cs))
    where
      by : (bytes_eq bs cs ≡ true) ⊎ (bytes_eq bs cs ≡ false)
          → get_by (λ k. slice_cmp nat_cmp cs (bytes k)) n ≡ cond (bytes_eq bs cs) w
          (get_by (λ k. slice_cmp nat_cmp cs (bytes k)) m)
      by (inl y) = subst (λ l. get_by (λ k. slice_cmp nat_cmp l (bytes k)) n ≡ w) ((bytes_eq-Decides bs cs).0 y) h.1
          ∙ sym (cond-true (bytes_eq bs cs) w _ y)
      by (inr e) = others _ _ _ _ h.3 _ (λ x y. (eq_by_cmp_equiv nat_list_cmp_total).congr cs (bytes x) (bytes y))
          (λ k. apart bs cs (bytes k) e) ∙ sym (cond-false (bytes_eq bs cs) w _ e)

module _ (names : List (List ℕ)) (name : List ℕ) where
  found_more : (b : Bool) (o : Option ℕ) (q : List ℕ) → bytes_eq name q ≡ b → IfSome o (λ n. slice_get names n ≡ Some q)
      → IfSome (cond b (Some (length names)) o) (λ n. slice_get (names ++ name ∷ []) n ≡ Some q)
  found_more true o q e h =
      let at : slice_get (names ++ name ∷ []) (length names) ≡ Some name =
      ap (slice_get (names ++ name ∷ [])) (omega arith) ∙ get-after names (name ∷ []) 0 in
      at ∙ ap (λ n. Some n) ((bytes_eq-Decides name q).0 e)
  found_more false o q e h = IfSome_then o h (λ n p. get-front names (name ∷ []) n q p)

  absent_more : (b : Bool) (o : Option ℕ) (q : List ℕ) → bytes_eq name q ≡ b
      → IfNone o (list_any (bytes_eq q) names ≡ false)
      → IfNone (cond b (Some (length names)) o) (list_any (bytes_eq q) (names ++ name ∷ []) ≡ false)
  absent_more true o q e h = tt
  absent_more false (Some n) q e h = tt
  absent_more false None q e h =
      let other : bytes_eq q name ≡ false = nat_list_eq_equiv.symm q name ∙ e in
      list_any-append (bytes_eq q) names (name ∷ []) ∙ ap (λ b. b || (bytes_eq q name || false)) h
      ∙ ap (λ b. b || false) other

  -- an index of one name more
  pub index_more : (old new : List ℕ → Option ℕ) → IsIndex names old
      → ((q : List ℕ) → new q ≡ cond (bytes_eq name q) (Some (length names)) (old q)) → IsIndex (names ++ name ∷ []) new
  index_more old new h step = record {
    found = λ q. subst (λ o. IfSome o (λ n. slice_get (names ++ name ∷ []) n ≡ Some q)) (sym (step q))
        (found_more (bytes_eq name q) (old q) q refl (h.found q));
    absent = λ q none. subst (λ o. IfNone o (list_any (bytes_eq q) (names ++ name ∷ []) ≡ false)) (sym (step q))
        (absent_more (bytes_eq name q) (old q) q refl (h.absent q none));
  }

  back : (b : Bool) (w old : Option ℕ) → (b ≡ true → old ≡ None) → cond b None (cond b w old) ≡ old
  back true w old h = sym (h refl)
  back false w old h = refl

  -- what was put at a new name and taken away again leaves the index
  pub index_back : (old new last : List ℕ → Option ℕ) (w : Option ℕ) → IsIndex names old → old name ≡ None
      → ((q : List ℕ) → new q ≡ cond (bytes_eq name q) w (old q))
      → ((q : List ℕ) → last q ≡ cond (bytes_eq name q) None (new q)) → IsIndex names last
  index_back old new last w h none put taken =
      let same : (q : List ℕ) → last q ≡ old q = λ q. taken q ∙ ap (cond (bytes_eq name q) None) (put q)
      ∙ back (bytes_eq name q) w (old q) (λ y. ap old (sym ((bytes_eq-Decides name q).0 y)) ∙ none) in
      record {
        found = λ q. subst (λ o. IfSome o (λ n. slice_get names n ≡ Some q)) (sym (same q)) (h.found q);
        absent = λ q fixed. subst (λ o. IfNone o (list_any (bytes_eq q) names ≡ false)) (sym (same q))
            (h.absent q fixed);
      }
