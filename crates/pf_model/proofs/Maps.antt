-- What a map gives after a change.
use Rattle.std.proofs.Common.{◌≡◌, ℕ, Bool, true, false, List, [], ◌∷◌, Some, None, ◌==◌, nat_lt, if◌then◌else◌, refl}
use Rattle.std.proofs.Common.{ap}
use Rattle.std.proofs.lemmas.Bool.{eq-eqb, eqb-true}
use Rattle.pf_sorted.specs.Maps.{got, put, without}

eq_self : (k : ℕ) → (k == k) ≡ true
eq_self k = eq-eqb k k refl

-- a number that isn't another isn't what equals that
not_both : (i k j : ℕ) → (i == k) ≡ false → (k == j) ≡ true → (i == j) ≡ false
not_both i k j h e = let q = eqb-true k j e in rw (← q) h

abbrev put_at : {T : Type 0} → ℕ → T → (ℕ × T) → List (ℕ × T) → (same less : Bool) → List (ℕ × T)
put_at k x p ps e l = if e then (k, x) ∷ ps else (if l then (k, x) ∷ p ∷ ps else p ∷ put k x ps)

pub got_put : {T : Type 0} → (k : ℕ) (x : T) (ps : List (ℕ × T)) → got k (put k x ps) ≡ Some x
got_put k x [] = rw (eq_self k) refl
got_put k x (p ∷ ps) = by k x p ps (k == p.0) (nat_lt k p.0) refl (got_put k x ps)
  where
    by : {T : Type 0} → (k : ℕ) (x : T) (p : ℕ × T) (ps : List (ℕ × T)) (e l : Bool) → (k == p.0) ≡ e
        → got k (put k x ps) ≡ Some x
        → got k (put_at k x p ps e l) ≡ Some x
    by k x p ps true l h rest = rw (eq_self k) refl
    by k x p ps false true h rest = rw (eq_self k) refl
    by k x p ps false false h rest = rw h rest

pub got_other : {T : Type 0} → (i k : ℕ) (x : T) (ps : List (ℕ × T)) → (i == k) ≡ false → got i (put k x ps) ≡ got i ps
got_other i k x [] d = rw d refl
got_other i k x (p ∷ ps) d = by i k x p ps (k == p.0) (nat_lt k p.0) d refl (got_other i k x ps d)
  where
    by : {T : Type 0} → (i k : ℕ) (x : T) (p : ℕ × T) (ps : List (ℕ × T)) (e l : Bool) → (i == k) ≡ false
        → (k == p.0) ≡ e
        → got i (put k x ps) ≡ got i ps → got i (put_at k x p ps e l) ≡ got i (p ∷ ps)
    by i k x p ps true l d h rest = let q = not_both i k p.0 d h in rw (d, q) refl
    by i k x p ps false true d h rest = rw d refl
    by i k x p ps false false d h rest = ap (λ o. if i == p.0 then Some p.1 else o) rest

pub got_without : {T : Type 0} → (k : ℕ) (ps : List (ℕ × T)) → got k (without k ps) ≡ None
got_without k [] = refl
got_without k (p ∷ ps) = by k p ps (k == p.0) refl (got_without k ps)
  where
    by : {T : Type 0} → (k : ℕ) (p : ℕ × T) (ps : List (ℕ × T)) (e : Bool) → (k == p.0) ≡ e
        → got k (without k ps) ≡ None
        → got k (if e then without k ps else p ∷ without k ps) ≡ None
    by k p ps true h rest = rest
    by k p ps false h rest = rw h rest

pub got_without_other : {T : Type 0} → (i k : ℕ) (ps : List (ℕ × T)) → (i == k) ≡ false
    → got i (without k ps) ≡ got i ps
got_without_other i k [] d = refl
got_without_other i k (p ∷ ps) d = by i k p ps (k == p.0) d refl (got_without_other i k ps d)
  where
    by : {T : Type 0} → (i k : ℕ) (p : ℕ × T) (ps : List (ℕ × T)) (e : Bool) → (i == k) ≡ false → (k == p.0) ≡ e
        → got i (without k ps) ≡ got i ps
        → got i (if e then without k ps else p ∷ without k ps) ≡ got i (p ∷ ps)
    by i k p ps true d h rest = let q = not_both i k p.0 d h in rw q rest
    by i k p ps false d h rest = ap (λ o. if i == p.0 then Some p.1 else o) rest
