-- Spots that are added one after another.
use Rattle.std.proofs.Common.{◌≡◌, ℕ, zero, suc, ◌+◌, ◌<◌, ◌≤◌, List, [], ◌∷◌, ◌++◌, Some, None, refl, sym, ap, ◌∙◌}
use Rattle.std.proofs.Common.{append_assoc, append-nil, length, get_or, drop}
use Rattle.std.specs.Prelude.{slice_get}
use Rattle.std.proofs.lemmas.List.{at_drop_more, at_drop_all, drop_more}
use Rattle.std.proofs.lemmas.Option.{get_or_from_slice_get, none-some, slice_get_within}

-- more were added, and so less is left to add
pub go_on : {X : Type 0} (before after more rest following whole : List X) → after ≡ before ++ more
    → rest ≡ more ++ following
    → before ++ rest ≡ whole
    → after ++ following ≡ whole
go_on before after more rest following whole added left so_far =
    ap (λ xs. xs ++ following) added ∙ append_assoc before more following ∙ ap (λ xs. before ++ xs) (sym left) ∙ so_far

-- nothing is left to add
pub all_added : {X : Type 0} (before rest whole : List X) → rest ≡ [] → before ++ rest ≡ whole → before ≡ whole
all_added before rest whole none so_far = sym (append-nil before) ∙ ap (λ xs. before ++ xs) (sym none) ∙ so_far

-- two additions in turn
pub in_turn : {X : Type 0} (first second third more following : List X) → second ≡ first ++ more
    → third ≡ second ++ following
    → third ≡ first ++ (more ++ following)
in_turn first second third more following one two = two ∙ ap (λ xs. xs ++ following) one
    ∙ append_assoc first more following

-- ---- lists that are walked by index

-- from an element on
pub drop_at_some : {X : Type 0} (xs : List X) (i : ℕ) (x : X) → slice_get xs i ≡ Some x
    → drop i xs ≡ x ∷ drop (i + 1) xs
drop_at_some xs i x e =
    drop_more xs i x (slice_get_within xs i x e) ∙ ap (λ y. y ∷ drop (i + 1) xs) (get_or_from_slice_get xs i x x e)

-- from the end on
pub drop_at_none : {X : Type 0} (xs : List X) (i : ℕ) → slice_get xs i ≡ None → drop i xs ≡ []
drop_at_none [] zero e = refl
drop_at_none [] (suc i) e = refl
drop_at_none (x ∷ xs) zero e = absurd (none-some x (sym e))
drop_at_none (x ∷ xs) (suc i) e = drop_at_none xs i e

-- one element more of a walk over a list: F gives what it adds from there on, and G what the element itself does
pub walked : {X Y : Type 0} (F : List X → List Y) (G : X → List Y) (step : (x : X) (xs : List X)
    → F (x ∷ xs) ≡ G x ++ F xs)
    (xs : List X) (i : ℕ) (d : X) (before after whole : List Y) → i < length xs → after ≡ before ++ G (get_or xs i d)
    → before ++ F (drop i xs) ≡ whole
    → after ++ F (drop (i + 1) xs) ≡ whole
walked F G step xs i d before after whole lt added so_far =
    go_on before after (G (get_or xs i d)) (F (drop i xs)) (F (drop (i + 1) xs)) whole added
    (at_drop_more F xs i d lt ∙ step (get_or xs i d) (drop (i + 1) xs)) so_far

-- the walk is at the end
pub walked_all : {X Y : Type 0} (F : List X → List Y) (nothing : F [] ≡ []) (xs : List X) (i : ℕ)
    (before whole : List Y) → length xs ≤ i
    → before ++ F (drop i xs) ≡ whole → before ≡ whole
walked_all F nothing xs i before whole le so_far =
    all_added before (F (drop i xs)) whole (at_drop_all F xs i le ∙ nothing) so_far
