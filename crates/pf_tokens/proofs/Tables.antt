-- The first element of a list that passes a test.
use Rattle.std.proofs.Common.{◌≡◌, ℕ, ◌≤◌, Bool, true, false, cond, leb, ◌&&◌, List, [], ◌∷◌, ◌++◌, length, drop}
use Rattle.std.proofs.Common.{Option, Some, None, refl, sym, ap, ◌∙◌, arith, length-append}
use Rattle.std.specs.Prelude.{nat_eq}
use Rattle.std.specs.List.{find, starts_with, list_all}
use Rattle.std.proofs.lemmas.Bool.{leb-true}
use Rattle.std.proofs.lemmas.Bool.Decides.{Decides-eqb}
use Rattle.std.proofs.lemmas.Slice.Eq.{starts_is}
use Rattle.pf_errors.proofs.Bools.{both}

-- what is found passes
pub find_passes : {X : Type 0} (p : X → Bool) (xs : List X) (x : X) → find p xs ≡ Some x → p x ≡ true
find_passes {X} p [] x e = absurd cc
find_passes {X} p (y ∷ ys) x e = by (p y) refl e (find_passes p ys x)
  where
    by : (b : Bool) → p y ≡ b → cond b (Some y) (find p ys) ≡ Some x → (find p ys ≡ Some x → p x ≡ true) → p x ≡ true
    by true passes is later = let same : y ≡ x = cc in ap p (sym same) ∙ passes
    by false fails is later = later is

-- where nothing is found, nothing that is listed passes
find_none : {X : Type 0} (p q : X → Bool) (xs : List X) (y : X) → find p xs ≡ None → find q xs ≡ Some y → p y ≡ false
find_none {X} p q [] y e is = absurd cc
find_none {X} p q (x ∷ xs) y e is = by (p x) (q x) refl e is (find_none p q xs y)
  where
    by : (b c : Bool) → p x ≡ b → cond b (Some x) (find p xs) ≡ None → cond c (Some x) (find q xs) ≡ Some y
        → (find p xs ≡ None → find q xs ≡ Some y → p y ≡ false) → p y ≡ false
    by true c px e is later = absurd cc
    by false true px e is later = let same : x ≡ y = cc in ap p (sym same) ∙ px
    by false false px e is later = later e is

-- what holds of the whole list holds of what is found
pub find_all : {X : Type 0} (t q : X → Bool) (xs : List X) (y : X) → list_all t xs ≡ true
    → find q xs ≡ Some y → t y ≡ true
find_all {X} t q [] y e is = absurd cc
find_all {X} t q (x ∷ xs) y e is = by (q x) is (both (t x) (list_all t xs) e) (find_all t q xs y)
  where
    by : (c : Bool) → cond c (Some x) (find q xs) ≡ Some y → (t x ≡ true) × (list_all t xs ≡ true)
        → (list_all t xs ≡ true → find q xs ≡ Some y → t y ≡ true) → t y ≡ true
    by true is all later = let same : x ≡ y = cc in ap t (sym same) ∙ all.0
    by false is all later = later all.1 is

-- where something that is listed passes, something is found
pub find_some : {X : Type 0} (p q : X → Bool) (xs : List X) (y : X) → find q xs ≡ Some y → p y ≡ true
    → (x : X) × (find p xs ≡ Some x)
find_some {X} p q xs y is passes = by (find p xs) refl
  where
    by : (o : Option X) → find p xs ≡ o → (x : X) × (find p xs ≡ Some x)
    by (Some x) e = (x, e)
    by None e = let fails = find_none p q xs y e is in absurd cc

pub find_fails : {X : Type 0} (p q : X → Bool) (xs : List X) (y : X) → find p xs ≡ None → find q xs ≡ Some y
    → p y ≡ true → ⊥
find_fails p q xs y e is passes = let fails = find_none p q xs y e is in cc

-- no later element is larger
abbrev pub falls : {X : Type 0} → (X → ℕ) → List X → Bool
falls size [] = true
falls size (x ∷ xs) = list_all (λ y. leb (size y) (size x)) xs && falls size xs

-- the first that passes is the largest that does
pub find_largest : {X : Type 0} (size : X → ℕ) (p q : X → Bool) (xs : List X) (x y : X) → falls size xs ≡ true
    → find p xs ≡ Some x → find q xs ≡ Some y → p y ≡ true → size y ≤ size x
find_largest {X} size p q [] x y down px qy passes = absurd cc
find_largest {X} size p q (z ∷ zs) x y down px qy passes =
    by (p z) (q z) refl px qy (both (list_all (λ w. leb (size w) (size z)) zs) (falls size zs) down)
    (find_largest size p q zs x y)
  where
    by : (b c : Bool) → p z ≡ b → cond b (Some z) (find p zs) ≡ Some x → cond c (Some z) (find q zs) ≡ Some y
        → (list_all (λ w. leb (size w) (size z)) zs ≡ true) × (falls size zs ≡ true)
        → (falls size zs ≡ true → find p zs ≡ Some x → find q zs ≡ Some y → p y ≡ true → size y ≤ size x)
        → size y ≤ size x
    by true true e px qy all later = let same : x ≡ y = cc in omega (arith, ap size same)
    by true false e px qy all later =
        let same : z ≡ x = cc in
        omega (arith, ap size same, leb-true (size y) (size z) (find_all (λ w. leb (size w) (size z)) q zs y all.0 qy))
    by false true e px qy all later = let same : z ≡ y = cc in let fails : p z ≡ true = ap p same ∙ passes in absurd cc
    by false false e px qy all later = later all.1 px qy passes

-- a text that begins with a word is the word and the rest
pub begins : (bytes word : List ℕ) → starts_with nat_eq bytes word ≡ true → bytes ≡ word ++ drop (length word) bytes
begins bytes word e = (starts_is Decides-eqb bytes word (starts_with nat_eq bytes word) refl).0 e

-- a word before any text is what the text begins with
pub begins_again : (word rest : List ℕ) → starts_with nat_eq (word ++ rest) word ≡ true
begins_again word rest = (starts_is Decides-eqb (word ++ rest) word (starts_with nat_eq (word ++ rest) word) refl).1
    rest refl

-- a word at the front is no longer than the text
pub begins_within : (bytes word : List ℕ) → starts_with nat_eq bytes word ≡ true → length word ≤ length bytes
begins_within bytes word e = omega (
  arith,
  ap length (begins bytes word e),
  length-append word (drop (length word) bytes),
)
