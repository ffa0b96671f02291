-- Faults that are taken out of a source, one after another.
use Rattle.std.proofs.Common.{inl, inr, ℕ, zero, suc, List, [], ◌∷◌, set, refl, sym, ◌∙◌, subst}
use Rattle.std.specs.Prelude.{IsTrue}
use Rattle.pf_hints.specs.Fixed.{IsKept, IsFixed, is_filler}

pub fixed_not : (xs : List ℕ) → IsFixed xs xs
fixed_not [] = tt
fixed_not (x ∷ xs) = (inl refl, fixed_not xs)

-- a filler is written
pub fixed_at : (xs : List ℕ) (i b : ℕ) → IsTrue (is_filler b) → IsFixed xs (set xs i b)
fixed_at [] i b h = tt
fixed_at (x ∷ xs) zero b h = (inr h, fixed_not xs)
fixed_at (x ∷ xs) (suc i) b h = (inl refl, fixed_at xs i b h)

kept_again : (a b c : ℕ) → IsKept a b → IsKept b c → IsKept a c
kept_again a b c h (inr f) = inr f
kept_again a b c (inl e) (inl g) = inl (g ∙ e)
kept_again a b c (inr f) (inl g) = inr (subst (λ n. IsTrue (is_filler n)) (sym g) f)

pub fixed_again : (xs ys zs : List ℕ) → IsFixed xs ys → IsFixed ys zs → IsFixed xs zs
fixed_again [] [] [] h k = tt
fixed_again [] [] (z ∷ zs) h k = k
fixed_again [] (y ∷ ys) zs h k = absurd h
fixed_again (x ∷ xs) [] zs h k = absurd h
fixed_again (x ∷ xs) (y ∷ ys) [] h k = absurd k
fixed_again (x ∷ xs) (y ∷ ys) (z ∷ zs) h k = (kept_again x y z h.0 k.0, fixed_again xs ys zs h.1 k.1)
