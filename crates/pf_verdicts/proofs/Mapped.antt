-- Where the first of the images of elements is that passes.
use Rattle.std.proofs.Common.{◌≡◌, ◌+◌, Bool, ◌||◌, List, [], ◌∷◌, cond, refl, ap}
use Rattle.std.specs.Prelude.{map, not, position}
use Rattle.std.specs.List.{list_any, position_or_len}
use Rattle.std.proofs.lemmas.List.{length-map}

module _ {X Y : Type 0} (so : Y → Bool) (f : X → Y) where
  position_or_len-map : (xs : List X) → position_or_len so (map f xs) ≡ position_or_len (λ x. so (f x)) xs
  position_or_len-map [] = refl
  position_or_len-map (x ∷ xs) = ap (λ n. cond (not (so (f x))) (1 + n) 0) (position_or_len-map xs)

  pub position-map : (xs : List X) → position so (map f xs) ≡ position (λ x. so (f x)) xs
  position-map xs = rw (position_or_len-map xs, length-map xs f)

  pub any-map : (xs : List X) → list_any so (map f xs) ≡ list_any (λ x. so (f x)) xs
  any-map [] = refl
  any-map (x ∷ xs) = ap (λ b. so (f x) || b) (any-map xs)
