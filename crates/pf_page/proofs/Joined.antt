-- Texts one after the other.
use Rattle.std.proofs.Common.{◌≡◌, ◌<◌, ◌+◌, ℕ, List, [], ◌∷◌, ◌++◌, ◌∙◌, sym, ap, append_assoc, append-nil}
use Rattle.std.proofs.Common.{get_or, length, take}
use Rattle.std.specs.Prelude.{flat_map}
use Rattle.std.proofs.lemmas.List.{take_more}
use Rattle.std.proofs.lemmas.Grind.{flat_map-append}

-- a text, and then what comes after it
pub after : (o a b : List ℕ) {x y : List ℕ} → x ≡ o ++ a → y ≡ x ++ b → y ≡ o ++ (a ++ b)
after o a b h i = i ∙ ap (λ (t : List ℕ). t ++ b) h ∙ append_assoc o a b

one_more : {X : Type 0} (f : X → List ℕ) (xs : List X) (i : ℕ) (d : X) → i < length xs
    → flat_map f (take (i + 1) xs) ≡ flat_map f (take i xs) ++ f (get_or xs i d)
one_more f xs i d lt =
    ap (flat_map f) (take_more xs i d lt) ∙ flat_map-append f (take i xs) (get_or xs i d ∷ [])
    ∙ ap (λ (t : List ℕ). flat_map f (take i xs) ++ t) (append-nil (f (get_or xs i d)))

-- the texts of the first items, and then that of one more
pub after_item : {X : Type 0} (f : X → List ℕ) (xs : List X) (i : ℕ) (x : X) (o : List ℕ) {s t : List ℕ}
    → i < length xs → x ≡ get_or xs i x → s ≡ o ++ flat_map f (take i xs) → t ≡ s ++ f x
    → t ≡ o ++ flat_map f (take (i + 1) xs)
after_item f xs i x o lt is h k =
    after o (flat_map f (take i xs)) (f x) h k
    ∙ ap (λ (t : List ℕ). o ++ (flat_map f (take i xs) ++ t)) (ap f is)
    ∙ ap (λ (t : List ℕ). o ++ t) (sym (one_more f xs i x lt))
