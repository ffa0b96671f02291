-- Who may go, by its index among those that may.
use Rattle.std.proofs.Common.{◌≡◌, ◌⊎◌, inl, inr, ℕ, zero, suc, ◌+◌, ◌==◌, Bool, true, false, if◌then◌else◌, List, []}
use Rattle.std.proofs.Common.{◌∷◌, ◌++◌, Option, Some, None, is_some, refl, sym, ap, ◌∙◌, subst, arith, length, map}
use Rattle.std.proofs.Common.{slice_get, length-append}
use Rattle.std.proofs.lemmas.Bool.Decides.{nat_tests}
use Rattle.pf_sorted.specs.Maps.{got}
use Rattle.pf_model.specs.Channels.{Queue, SenderRow, Channels, row_of, taken, taken_from, heads, heads_of, heads_from}
use Rattle.pf_model.specs.Configuration.{Configuration}
use Rattle.pf_model.specs.Runs.{enabled, can_go, pids_in_state}
use Rattle.pf_model.specs.declared.report.Actor.{Actor}
use Rattle.pf_model.specs.declared.report.Actor.TheVariants.{Process, Channel}
use Rattle.pf_system.specs.Steps.{IsAmong}
use Rattle.std.proofs.lemmas.List.{length-map}

abbrev going : List ℕ → List (ℕ × ℕ) → List Actor
going ps hs = map Process ps ++ map (λ h. Channel h.0 h.1) hs

pub going_length : (ps : List ℕ) (hs : List (ℕ × ℕ)) → length (going ps hs) ≡ length ps + length hs
going_length ps hs =
    omega (
      arith,
      length-append (map Process ps) (map (λ h. Channel h.0 h.1) hs),
      length-map ps Process,
      length-map hs (λ h. Channel h.0 h.1),
    )

abbrev some_process : ℕ → Option Actor
some_process p = Some (Process p)

abbrev some_channel : ℕ × ℕ → Option Actor
some_channel h = Some (Channel h.0 h.1)

pub process_there : (ps : List ℕ) (hs : List (ℕ × ℕ)) (k p : ℕ) → slice_get ps k ≡ Some p
    → slice_get (going ps hs) k ≡ Some (Process p)
process_there [] hs k p e = absurd (cc)
process_there (q ∷ ps) hs zero p e = let d : q ≡ p = cc in ap some_process d
process_there (q ∷ ps) hs (suc k) p e = process_there ps hs k p e

get_channel : (hs : List (ℕ × ℕ)) (k : ℕ) (h : ℕ × ℕ) → slice_get hs k ≡ Some h
    → slice_get (map (λ h. Channel h.0 h.1) hs) k ≡ Some (Channel h.0 h.1)
get_channel [] k h e = absurd (cc)
get_channel (g ∷ hs) zero h e = let d : g ≡ h = cc in ap some_channel d
get_channel (g ∷ hs) (suc k) h e = get_channel hs k h e

pub channel_there : (ps : List ℕ) (hs : List (ℕ × ℕ)) (k j : ℕ) (h : ℕ × ℕ) → k ≡ length ps + j
    → slice_get hs j ≡ Some h
    → slice_get (going ps hs) k ≡ Some (Channel h.0 h.1)
channel_there [] hs k j h n e = let d : k ≡ j = omega arith in ap (slice_get (map (λ h. Channel h.0 h.1) hs)) d
    ∙ get_channel hs j h e
channel_there (q ∷ ps) hs zero j h n e = absurd (omega arith)
channel_there (q ∷ ps) hs (suc k) j h n e = channel_there ps hs k j h (omega arith) e

-- ---- a channel that may go has a signal

module _ {A : Type 0} where
  abbrev pub IsIn : A → List A → Type 0
  IsIn x [] = ⊥
  IsIn x (y ∷ ys) = (x ≡ y) ⊎ IsIn x ys

  pub split_in : (x : A) (front back : List A) → IsIn x (front ++ x ∷ back)
  split_in x [] back = inl refl
  split_in x (y ∷ front) back = inr (split_in x front back)

  pub in_either : (x : A) (ys zs : List A) → IsIn x (ys ++ zs) → IsIn x ys ⊎ IsIn x zs
  in_either x [] zs h = inr h
  in_either x (y ∷ ys) zs (inl e) = inl (inl e)
  in_either x (y ∷ ys) zs (inr h) = by (in_either x ys zs h)
    where
      by : IsIn x ys ⊎ IsIn x zs → ((x ≡ y) ⊎ IsIn x ys) ⊎ IsIn x zs
      by (inl k) = inl (inr k)
      by (inr k) = inr k

no_process : (a b : ℕ) (ps : List ℕ) → IsIn (Channel a b) (map Process ps) → ⊥
no_process a b [] h = h
no_process a b (p ∷ ps) (inl e) = absurd (cc)
no_process a b (p ∷ ps) (inr h) = no_process a b ps h

by_channel : (a b : ℕ) (hs : List (ℕ × ℕ)) → IsIn (Channel a b) (map (λ h. Channel h.0 h.1) hs) → IsIn (a, b) hs
by_channel a b [] h = h
by_channel a b (g ∷ hs) (inl e) =
    let p : a ≡ g.0 = cc in let q : b ≡ g.1 = cc in
    let r : ◌≡◌ {A = ℕ × ℕ} (a, b) g = ap {A = ℕ} (λ z. (z, b)) p ∙ ap {A = ℕ} (λ z. (g.0, z)) q in inl r
by_channel a b (g ∷ hs) (inr h) = inr (by_channel a b hs h)

same_is : (k j : ℕ) → k ≡ j → (k == j) ≡ true
same_is k j e = grind (arith, nat_tests)

in_row : (n a b : ℕ) (r : SenderRow) → IsIn (a, b) (heads_of n r) → (a ≡ n) × (is_some (got b r) ≡ true)
in_row n a b [] h = absurd h
in_row n a b (p ∷ ps) (inl e) =
    let y : a ≡ n = ap {A = ℕ × ℕ} (λ z. z.0) e in
    let z : b ≡ p.0 = ap {A = ℕ × ℕ} (λ z. z.1) e in
    (y, ap (λ t. is_some (if t then Some p.1 else got b ps)) (same_is b p.0 z))
in_row n a b (p ∷ ps) (inr h) = let k = in_row n a b ps h in (k.0, by (b == p.0) k.1)
  where
    by : (t : Bool) → is_some (got b ps) ≡ true → is_some (if t then Some p.1 else got b ps) ≡ true
    by true e = refl
    by false e = e

in_rows : (n a b : ℕ) (cs : Channels) → IsIn (a, b) (heads_from n cs)
    → (i : ℕ) × (a ≡ n + i) × (is_some (got b (row_of i cs)) ≡ true)
in_rows n a b [] h = absurd h
in_rows n a b (r ∷ rs) h = by (in_rows (suc n) a b rs) (in_either (a, b) (heads_of n r) (heads_from (suc n) rs) h)
  where
    by : (IsIn (a, b) (heads_from (suc n) rs) → (i : ℕ) × (a ≡ suc n + i) × (is_some (got b (row_of i rs)) ≡ true))
        → IsIn (a, b) (heads_of n r) ⊎ IsIn (a, b) (heads_from (suc n) rs)
        → (i : ℕ) × (a ≡ n + i) × (is_some (got b (row_of i (r ∷ rs))) ≡ true)
    by f (inl k) = let q = in_row n a b r k in let e = q.0 in (zero, omega arith, q.1)
    by f (inr k) = let q = f k in let e = q.1 in (suc q.0, omega arith, q.2)

some_taken : (a b : ℕ) (cs : Channels) (o : Option Queue) → is_some o ≡ true → is_some (taken_from a b cs o) ≡ true
some_taken a b cs None e = absurd (cc)
some_taken a b cs (Some q) e = refl

pub has_signal : (a b : ℕ) (c : Configuration) → IsAmong (Channel a b) (enabled c)
    → is_some (taken a b c.channels) ≡ true
has_signal a b c h = by (in_either (Channel a b) (map Process ps) (map (λ h. Channel h.0 h.1) (heads c.channels)) there)
  where
    ps : List ℕ
    ps = pids_in_state can_go zero c.core.processes

    there : IsIn (Channel a b) (enabled c)
    there = subst (IsIn (Channel a b)) (sym h.2) (split_in (Channel a b) h.0 h.1)

    by : IsIn (Channel a b) (map Process ps) ⊎ IsIn (Channel a b) (map (λ h. Channel h.0 h.1) (heads c.channels))
        → is_some (taken a b c.channels) ≡ true
    by (inl k) = absurd (no_process a b ps k)
    by (inr k) =
        let q = in_rows zero a b c.channels (by_channel a b (heads c.channels) k) in
        let x = q.1 in
        let e : q.0 ≡ a = omega arith in
        some_taken a b c.channels (got b (row_of a c.channels))
        (ap (λ z. is_some (got b (row_of z c.channels))) (sym e) ∙ q.2)
