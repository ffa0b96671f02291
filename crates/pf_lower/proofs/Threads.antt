-- Two lists of the same length, item by item, where each item moves a state on.
use Rattle.std.proofs.Common.{◌≡◌, ℕ, ◌+◌, ◌<◌, List, [], ◌∷◌, ◌++◌, length, take, get_or, refl, sym, ap, ◌∙◌, subst}
use Rattle.std.specs.Prelude.{fold}
use Rattle.std.proofs.lemmas.List.{take_more}
use Rattle.std.proofs.lemmas.List.Sums.{fold_more}
use Rattle.pf_syntax.specs.Module.{Checked}
use Rattle.pf_lower.specs.Grown.{Grown}
use Rattle.pf_lower.specs.Built.{Lowers}
use Rattle.pf_lower.proofs.Growing.{grown_on, grown_itself}

module _ {S X Y : Type 0} (next : S → X → S) where
  abbrev pub Threaded : (S → X → Y → Type 0) → S → List X → List Y → Type 0
  Threaded R s [] [] = Unit {0}
  Threaded R s (x ∷ xs) (y ∷ ys) = R s x y × Threaded R (next s x) xs ys
  Threaded R s _ _ = ⊥

  pub threaded_weaker : (R Q : S → X → Y → Type 0) → ((s : S) (x : X) (y : Y) → R s x y → Q s x y)
      → (s : S) (xs : List X) (ys : List Y)
      → Threaded R s xs ys → Threaded Q s xs ys
  threaded_weaker R Q w s [] [] h = tt
  threaded_weaker R Q w s (x ∷ xs) (y ∷ ys) h = (w s x y h.0, threaded_weaker R Q w (next s x) xs ys h.1)
  threaded_weaker R Q w s [] (y ∷ ys) h = absurd h
  threaded_weaker R Q w s (x ∷ xs) [] h = absurd h

  pub threaded_more : (R : S → X → Y → Type 0) (s : S) (xs : List X) (ys : List Y) (x : X) (y : Y)
      → Threaded R s xs ys → R (fold next s xs) x y → Threaded R s (xs ++ x ∷ []) (ys ++ y ∷ [])
  threaded_more R s [] [] x y h r = (r, tt)
  threaded_more R s (z ∷ zs) (w ∷ ws) x y h r = (h.0, threaded_more R (next s z) zs ws x y h.1 r)
  threaded_more R s [] (w ∷ ws) x y h r = absurd h
  threaded_more R s (z ∷ zs) [] x y h r = absurd h

-- what was built for a list so far, and then for one item more
module _ {X Y : Type 0} (next : List ℕ → X → List ℕ) (R : Checked → List ℕ → X → Y → Type 0) where
  abbrev pub SoFar : Checked → Checked → List ℕ → List ℕ → List X → List Y → Type 0
  SoFar m0 m1 s0 s1 xs ys = Lowers m0 m1 s1 (fold next s0 xs) (λ t. Threaded next (R t) s0 xs ys)

  pub none_yet : (m : Checked) (s : List ℕ) → SoFar m m s s [] []
  none_yet m s = record { grown = grown_itself m; bound_is = refl; answer = tt }

module _ {X Y : Type 0} (next : List ℕ → X → List ℕ) (R : Checked → List ℕ → X → Y → Type 0)
    (kept : (t u : Checked) → Grown t u → (s : List ℕ) (x : X) (y : Y) → R t s x y → R u s x y) where
  one_more : (m0 m1 m2 : Checked) (s0 s1 s2 : List ℕ) (xs : List X) (ys : List Y) (x : X) (y : Y)
      → SoFar next R m0 m1 s0 s1 xs ys → Lowers m1 m2 s2 (next s1 x) (λ t. R t s1 x y)
      → (s2 ≡ next (fold next s0 xs) x) × Threaded next (R m2) s0 (xs ++ x ∷ []) (ys ++ y ∷ [])
  one_more m0 m1 m2 s0 s1 s2 xs ys x y h d =
      let old = threaded_weaker next (R m1) (R m2) (kept m1 m2 d.grown) s0 xs ys h.answer in
      let item : R m2 (fold next s0 xs) x y = subst (λ s. R m2 s x y) h.bound_is d.answer in
      (d.bound_is ∙ ap (λ s. next s x) h.bound_is, threaded_more next (R m2) s0 xs ys x y old item)

  pub step : (m0 m1 m2 : Checked) (s0 s1 s2 : List ℕ) (xs : List X) (k : ℕ) (ys : List Y) (d : X) (y : Y)
      → k < length xs
      → SoFar next R m0 m1 s0 s1 (take k xs) ys
      → Lowers m1 m2 s2 (next s1 (get_or xs k d)) (λ t. R t s1 (get_or xs k d) y)
      → SoFar next R m0 m2 s0 s2 (take (k + 1) xs) (ys ++ y ∷ [])
  step m0 m1 m2 s0 s1 s2 xs k ys d y lt h lowered =
      let p = one_more m0 m1 m2 s0 s1 s2 (take k xs) ys (get_or xs k d) y h lowered in
      record {
        grown = grown_on m0 m1 m2 h.grown lowered.grown;
        bound_is = p.0 ∙ sym (fold_more next s0 xs k d lt);
        answer = subst (λ zs. Threaded next (R m2) s0 zs (ys ++ y ∷ [])) (sym (take_more xs k d lt)) p.1;
      }

  pub step_at : (m0 m1 m2 : Checked) (s0 s1 s2 : List ℕ) (xs : List X) (k : ℕ) (ys : List Y) (x : X) (y : Y)
      → k < length xs → x ≡ get_or xs k x
      → SoFar next R m0 m1 s0 s1 (take k xs) ys → Lowers m1 m2 s2 (next s1 x) (λ t. R t s1 x y)
      → SoFar next R m0 m2 s0 s2 (take (k + 1) xs) (ys ++ y ∷ [])
  step_at m0 m1 m2 s0 s1 s2 xs k ys x y lt at h lowered =
      step m0 m1 m2 s0 s1 s2 xs k ys x y lt h (subst (λ z. Lowers m1 m2 s2 (next s1 z) (λ t. R t s1 z y)) at lowered)
