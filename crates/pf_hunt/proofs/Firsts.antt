-- The least seed whose run is so: part by part, and no other.
use Rattle.std.proofs.Common.{◌≡◌, ◌⊎◌, inl, inr, ◌+◌, ◌<◌, ◌≤◌, ℕ, Bool, true, false, Option, Some, None, refl, sym}
use Rattle.std.proofs.Common.{ap, ◌∙◌, subst, arith}
use Rattle.std.proofs.lemmas.Bool.{cases_lt, cases_order}
use Rattle.pf_model.specs.Meaning.{Job, Report}
use Rattle.pf_strategy.specs.Strategies.{MeansBySeed}
use Rattle.pf_strategy.specs.declared.strategy.Strategy.{Strategy}
use Rattle.pf_strategy.proofs.Meant.{one_report}
use Rattle.pf_hunt.specs.Hunts.{NoneIs, IsFirstSo, none_is, first, looked_to}

module _ (so : Report → Bool) (w : Strategy) (j : Job) where
  -- one that is and one that isn't
  is_not : (s : ℕ) (r t : Report) → MeansBySeed w j s r → MeansBySeed w j s t → so r ≡ true → so t ≡ false → ⊥
  is_not s r t h k e f = let q = one_report w j s r t h k in absurd (cc)

  pub no_seeds : (a b : ℕ) → b ≤ a → NoneIs so w j a b
  no_seeds a b l s r from to m = absurd (omega arith)

  pub none_in_parts : (a c b : ℕ) → NoneIs so w j a c → NoneIs so w j c b → NoneIs so w j a b
  none_in_parts a c b h k s r from to m = elim (cases_lt s c) [
    | inl l ↦ h s r from l m
    | inr l ↦ k s r l to m
  ]

  pub none_at : (b : ℕ) (r : Report) → MeansBySeed w j b r → so r ≡ false → NoneIs so w j b (b + 1)
  none_at b r m f s t from to n =
      let e : s ≡ b = omega arith in
      let q = one_report w j b t r (subst (λ i. MeansBySeed w j i t) e n) m in
      ap so q ∙ f

  -- one seed more
  pub one_more : (a b : ℕ) (r : Report) → NoneIs so w j a b → MeansBySeed w j b r → so r ≡ false
      → NoneIs so w j a (b + 1)
  one_more a b r h m f = none_in_parts a b (b + 1) h (none_at b r m f)

  -- the first part has one that is so
  pub in_first : (a c b : ℕ) (p : ℕ × Report) → c ≤ b → IsFirstSo so w j a c (Some p) → IsFirstSo so w j a b (Some p)
  in_first a c b _ l (first s r from to m f before) = first s r from (omega arith) m f before

  -- the first part has none
  pub in_second : (a c b : ℕ) (o : Option (ℕ × Report)) → a ≤ c → NoneIs so w j a c → IsFirstSo so w j c b o
      → IsFirstSo so w j a b o
  in_second a c b _ l h (none_is k) = none_is (none_in_parts a c b h k)
  in_second a c b _ l h (first s r from to m f before) = first s r (omega arith) to m f (none_in_parts a c s h before)

  pub none_of : (a b : ℕ) → IsFirstSo so w j a b None → NoneIs so w j a b
  none_of a b (none_is h) = h

  -- no seed was looked at past the one that is so
  pub looks_past : (a b : ℕ) (x : Option (ℕ × Report)) → a ≤ b → IsFirstSo so w j a b x → a ≤ looked_to b x
  looks_past a b _ l (none_is h) = l
  looks_past a b _ l (first s r from to m f before) = omega arith

  -- ---- no other

  same_first : (a b s t : ℕ) (r q : Report) → a ≤ s → s < b → a ≤ t → t < b → MeansBySeed w j s r → MeansBySeed w j t q
      → so r ≡ true → so q ≡ true → NoneIs so w j a s → NoneIs so w j a t → s ≡ t
  same_first a b s t r q from to from' to' m n f g before before' = elim (cases_order s t) [
    | inl e ↦ e
    | inr (inl l) ↦ absurd (is_not s r r m m f (before' s r from l m))
    | inr (inr l) ↦ absurd (is_not t q q n n g (before t q from' l n))
  ]

  pub one_first : (a b : ℕ) (x y : Option (ℕ × Report)) → IsFirstSo so w j a b x → IsFirstSo so w j a b y → x ≡ y
  one_first a b _ _ (none_is h) (none_is k) = refl
  one_first a b _ _ (none_is h) (first s r from to m f before) = absurd (is_not s r r m m f (h s r from to m))
  one_first a b _ _ (first s r from to m f before) (none_is h) = absurd (is_not s r r m m f (h s r from to m))
  one_first a b _ _ (first s r from to m f before) (first t q from' to' n g before') =
      let e = same_first a b s t r q from to from' to' m n f g before before' in
      let d = one_report w j t r q (subst (λ i. MeansBySeed w j i r) e m) n in
      cc

  -- to where the seeds end
  pub first_there : (a b s : ℕ) (x : Option (ℕ × Report)) → IsFirstSo so w j a s x → (s ≡ a) ⊎ (s ≤ b) → b ≤ s
      → IsFirstSo so w j a b x
  first_there a b s x h (inl e) l =
      let none = one_first a s x None h (none_is (no_seeds a s (omega arith))) in
      subst (IsFirstSo so w j a b) (sym none) (none_is (no_seeds a b (omega arith)))
  first_there a b s x h (inr k) l = let e : s ≡ b = omega arith in subst (λ n. IsFirstSo so w j a n x) e h
