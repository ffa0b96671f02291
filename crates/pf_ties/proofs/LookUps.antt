-- What look-ups in a map give after a change.
use Rattle.std.proofs.Common.{◌≡◌, ℕ, Bool, true, false, List, [], ◌∷◌, Option, Some, None, ◌==◌, nat_lt, if◌then◌else◌}
use Rattle.std.proofs.Common.{refl, sym, ap, ◌∙◌, arith}
use Rattle.std.specs.Prelude.{is_some, unwrap_or}
use Rattle.std.proofs.lemmas.Bool.{false≢true}
use Rattle.std.proofs.lemmas.Bool.Decides.{nat_tests}
use Rattle.pf_sorted.specs.Maps.{got, put, without}
use Rattle.pf_sorted.proofs.Indices.{eq_of}

abbrev pub Entries : Type 0
Entries = List (ℕ × ℕ)

pub eq_self : (k : ℕ) → (k == k) ≡ true
eq_self k = eq_of k k refl

pub same_from : (a b : ℕ) → (a == b) ≡ true → a ≡ b
same_from a b e = grind (arith, nat_tests)

pub some_is : (x y : ℕ) → Some x ≡ Some y → x ≡ y
some_is x y e = ap (λ o. unwrap_or o 0) e

pub none_some : {P : Type 0} → (o : Option ℕ) (x : ℕ) → o ≡ None → o ≡ Some x → P
none_some o x e q = absurd (false≢true (ap is_some (sym e ∙ q)))

pub without_none : (k : ℕ) (m : Entries) → got k m ≡ None → without k m ≡ m
without_none k [] h = refl
without_none k (p ∷ ps) h = by (k == p.0) refl h (without_none k ps)
  where
    by : (e : Bool) → (k == p.0) ≡ e → (if e then Some p.1 else got k ps) ≡ None → (got k ps ≡ None → without k ps ≡ ps)
        → (if e then without k ps else p ∷ without k ps) ≡ p ∷ ps
    by true q h r = none_some (Some p.1) p.1 h refl
    by false q h r = ap (λ z. p ∷ z) (r h)

-- what was put where nothing was, and taken out again
pub without_put : (k x : ℕ) (m : Entries) → got k m ≡ None → without k (put k x m) ≡ m
without_put k x [] h = rw (eq_self k) refl
without_put k x (p ∷ ps) h = by (k == p.0) (nat_lt k p.0) refl h (without_put k x ps) (without_none k ps)
  where
    by : (e t : Bool) → (k == p.0) ≡ e → (if e then Some p.1 else got k ps) ≡ None
        → (got k ps ≡ None → without k (put k x ps) ≡ ps)
        → (got k ps ≡ None → without k ps ≡ ps)
        → without k (if e then (k, x) ∷ ps else (if t then (k, x) ∷ p ∷ ps else p ∷ put k x ps)) ≡ p ∷ ps
    by true t q h r w = none_some (Some p.1) p.1 h refl
    by false true q h r w = rw (eq_self k, q) (ap (λ z. p ∷ z) (w h))
    by false false q h r w = rw q (ap (λ z. p ∷ z) (r h))
