-- The slots of names among those that are bound.
use Rattle.std.proofs.Common.{◌≡◌, ℕ, zero, suc, ◌+◌, ◌-◌, ◌<◌, ◌≤◌, ◌^◌, List, [], ◌∷◌, ◌++◌, length, Bool, true}
use Rattle.std.proofs.Common.{false, Some, None, refl, sym, ap, ◌∙◌, arith, set, inl, inr}
use Rattle.std.specs.Prelude.{slice_get, slice_index, ◌==◌, ◌||◌, if◌then◌else◌, MatchOption, SomeIff, is_some, ◌⊎◌}
use Rattle.std.specs.declared.option.Option.{Option}
use Rattle.std.proofs.lemmas.Option.{slice_get_within}
use Rattle.std.proofs.lemmas.List.{get_or-set_same, get_or-set_other, get_or_past, length-append}
use Rattle.std.proofs.lemmas.Bool.{cases_eq, cases_lt}
use Rattle.std.proofs.lemmas.Bool.Decides.{nat_tests}
use Rattle.pf_syntax.specs.Scope.{has}
use Rattle.pf_lower.specs.Bound.{with_bound}
use Rattle.pf_lower.specs.Placed.{HasSlots}

-- ---- what is among names

itself : (x y : ℕ) (b : Bool) → y ≡ x → (y == x) || b ≡ true
itself x y b e = grind (arith, nat_tests)

or_true : (b : Bool) {c : Bool} → c ≡ true → b || c ≡ true
or_true true e = refl
or_true false e = e

-- what is at a slot is among them
pub there : (x : ℕ) (ks : List ℕ) (k : ℕ) → slice_get ks k ≡ Some x → has ks x ≡ true
there x [] zero e = cc
there x [] (suc k) e = cc
there x (y ∷ ks) zero e = itself x y (has ks x) cc
there x (y ∷ ks) (suc k) e = or_true (y == x) (there x ks k e)

-- so it stays as it is where it is bound again
pub kept_where_there : (ks : List ℕ) (x k : ℕ) → slice_get ks k ≡ Some x → with_bound ks x ≡ ks
kept_where_there ks x k e = ap (λ b. if b then ks else ks ++ x ∷ []) (there x ks k e)

-- where a look-up found it, it stays as it is
pub kept_where_found : (ks : List ℕ) (x : ℕ) (r : Option ℕ)
    → MatchOption r (has ks x ≡ false) (λ k. slice_get ks k ≡ Some x) → is_some r ≡ true → ks ≡ with_bound ks x
kept_where_found ks x (Some k) h e = sym (kept_where_there ks x k h)
kept_where_found ks x None h e = cc

-- where a look-up found nothing, it isn't among them
pub new_where_missing : (ks : List ℕ) (x : ℕ) (r : Option ℕ)
    → MatchOption r (has ks x ≡ false) (λ k. slice_get ks k ≡ Some x) → is_some r ≡ false → has ks x ≡ false
new_where_missing ks x (Some k) h e = cc
new_where_missing ks x None h e = h

same_name : (x y : ℕ) → (y == x) ≡ true → y ≡ x
same_name x y e = grind (arith, nat_tests)

-- what is among them is at a slot
pub found_at : (x : ℕ) (ks : List ℕ) → has ks x ≡ true → (k : ℕ) × (slice_get ks k ≡ Some x)
found_at x [] e = absurd cc
found_at x (y ∷ ks) e = by (y == x) refl e (found_at x ks)
  where
    by : (b : Bool) → (y == x) ≡ b → b || has ks x ≡ true → (has ks x ≡ true → (k : ℕ) × (slice_get ks k ≡ Some x))
        → (k : ℕ) × (slice_get (y ∷ ks) k ≡ Some x)
    by true s h rest = (0, ap (λ n. Some n) (same_name x y s))
    by false s h rest = let f = rest h in (suc f.0, f.1)

-- ---- one more name

pub after : (ks : List ℕ) (x : ℕ) → slice_get (ks ++ x ∷ []) (length ks) ≡ Some x
after [] x = refl
after (y ∷ ks) x = after ks x

in_front : (ks : List ℕ) (x k y : ℕ) → slice_get ks k ≡ Some y → slice_get (ks ++ x ∷ []) k ≡ Some y
in_front [] x k y e = absurd cc
in_front (z ∷ ks) x zero y e = e
in_front (z ∷ ks) x (suc k) y e = in_front ks x k y e

-- what is among the names and one more is among the names, or is the one
front_or_last : (ks : List ℕ) (x k y : ℕ) → slice_get (ks ++ x ∷ []) k ≡ Some y
    → (slice_get ks k ≡ Some y) ⊎ ((k ≡ length ks) × (y ≡ x))
front_or_last [] x zero y e = inr (refl, cc)
front_or_last [] x (suc k) y e = absurd cc
front_or_last (z ∷ ks) x zero y e = inl e
front_or_last (z ∷ ks) x (suc k) y e = by (front_or_last ks x k y e)
  where
    by : (slice_get ks k ≡ Some y) ⊎ ((k ≡ length ks) × (y ≡ x))
        → (slice_get ks k ≡ Some y) ⊎ ((suc k ≡ suc (length ks)) × (y ≡ x))
    by (inl h) = inl h
    by (inr h) = inr (ap (λ n. suc n) h.0, h.1)

-- ---- names and the list by number

-- the list goes past each name
pub past : (ks ps : List ℕ) (k x : ℕ) → HasSlots ks ps → slice_get ks k ≡ Some x → x < length ps
past ks ps k x p e = by (cases_lt x (length ps)) (p.noted k x e)
  where
    by : (x < length ps) ⊎ (length ps ≤ x) → slice_index ps x ≡ k + 1 → x < length ps
    by (inl h) n = h
    by (inr h) n = let zeros = get_or_past ps x 0 h in absurd (omega arith)

-- a name with 0 isn't bound
pub unnoted : (ks ps : List ℕ) (x : ℕ) → HasSlots ks ps → slice_index ps x ≡ 0 → has ks x ≡ false
unnoted ks ps x p e = by (has ks x) refl
  where
    by : (b : Bool) → has ks x ≡ b → b ≡ false
    by false h = refl
    by true h = let f = found_at x ks h in let n = p.noted f.0 x f.1 in absurd (omega arith)

-- one less than what the list has is the slot
pub looked : (ks ps : List ℕ) (x : ℕ) (r : Option ℕ) → HasSlots ks ps
    → SomeIff r (1 ≤ slice_index ps x) (slice_index ps x - 1)
    → MatchOption r (has ks x ≡ false) (λ k. slice_get ks k ≡ Some x)
looked ks ps x None p h = unnoted ks ps x p (by (slice_index ps x) h)
  where
    by : (n : ℕ) → ¬ (1 ≤ n) → n ≡ 0
    by zero h = refl
    by (suc n) h = absurd (h (omega arith))
looked ks ps x (Some k) p h = let one = h.1 in let much = h.0 in p.is_there k x (omega arith)

-- a list with the same numbers does as well
pub lengthened : (ks ps qs : List ℕ) → HasSlots ks ps → ((x : ℕ) → slice_index qs x ≡ slice_index ps x) → HasSlots ks qs
lengthened ks ps qs p same = record {
  room = p.room;
  noted = λ k x e. same x ∙ p.noted k x e;
  is_there = λ k x e. p.is_there k x (sym (same x) ∙ e);
}

-- the last name leaves, and the list has 0 for it
pub unbound : (ks ps : List ℕ) (x : ℕ) → HasSlots (ks ++ x ∷ []) ps → HasSlots ks (set ps x 0)
unbound ks ps x p = record {
  room = let long = length-append ks (x ∷ []) in let room = p.room in omega arith;
  noted = λ k y e.
      get_or-set_other ps x y 0 0 (λ s. other k y e s) ∙ p.noted k y (in_front ks x k y e);
  is_there = λ k y e. by k y (cases_eq y x) e;
}
  where
    last : slice_index ps x ≡ length ks + 1
    last = p.noted (length ks) x (after ks x)

    other : (k y : ℕ) → slice_get ks k ≡ Some y → y ≡ x → ⊥
    other k y e s =
        let within = slice_get_within ks k y e in
        let here = p.noted k y (in_front ks x k y e) in
        let there = ap (slice_index ps) s in omega (arith, last)

    by : (k y : ℕ) → (y ≡ x) ⊎ (y ≡ x → ⊥) → slice_index (set ps x 0) y ≡ k + 1 → slice_get ks k ≡ Some y
    by k y (inl s) e =
        let zeros : slice_index (set ps x 0) y ≡ 0 = ap (slice_index (set ps x 0)) s ∙ get_or-set_same ps x 0 0
        (past (ks ++ x ∷ []) ps (length ks) x p (after ks x)) in
        absurd (omega arith)
    by k y (inr d) e =
        let was = sym (get_or-set_other ps x y 0 0 d) ∙ e in
        elim (front_or_last ks x k y (p.is_there k y was)) [ inl h ↦ h | inr h ↦ absurd (d h.1) ]

-- a name that isn't bound comes last, and the list has its slot and one
pub bound : (ks ps : List ℕ) (x : ℕ) → HasSlots ks ps → has ks x ≡ false → length ks + 1 < 2 ^ 32 → x < length ps
    → HasSlots (ks ++ x ∷ []) (set ps x (length ks + 1))
bound ks ps x p new room within = record {
  room = let long = length-append ks (x ∷ []) in omega arith;
  noted = λ k y e. noted k y (front_or_last ks x k y e);
  is_there = λ k y e. is_there k y (cases_eq y x) e;
}
  where
    here : slice_index (set ps x (length ks + 1)) x ≡ length ks + 1
    here = get_or-set_same ps x (length ks + 1) 0 within

    other : (k y : ℕ) → slice_get ks k ≡ Some y → y ≡ x → ⊥
    other k y e s = let yes = there x ks k (e ∙ ap (λ n. Some n) s) in cc

    noted : (k y : ℕ) → (slice_get ks k ≡ Some y) ⊎ ((k ≡ length ks) × (y ≡ x))
        → slice_index (set ps x (length ks + 1)) y ≡ k + 1
    noted k y (inl h) = get_or-set_other ps x y (length ks + 1) 0 (λ s. other k y h s) ∙ p.noted k y h
    noted k y (inr h) = ap (slice_index (set ps x (length ks + 1))) h.1 ∙ here ∙ ap (λ n. n + 1) (sym h.0)

    is_there : (k y : ℕ) → (y ≡ x) ⊎ (y ≡ x → ⊥) → slice_index (set ps x (length ks + 1)) y ≡ k + 1
        → slice_get (ks ++ x ∷ []) k ≡ Some y
    is_there k y (inl s) e =
        let at : slice_index (set ps x (length ks + 1)) y ≡ length ks + 1 =
        ap (slice_index (set ps x (length ks + 1))) s ∙ here in
        let last : k ≡ length ks = omega arith in
        ap (slice_get (ks ++ x ∷ [])) last ∙ after ks x ∙ ap (λ n. Some n) (sym s)
    is_there k y (inr d) e = in_front ks x k y (p.is_there k y (sym (get_or-set_other ps x y (length ks + 1) 0 d) ∙ e))
