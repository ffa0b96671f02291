-- Where the priorities of those who may go are held.
use Rattle.std.specs.Prelude.{◌≡◌, ◌<◌, ℕ, zero, suc, List, [], ◌∷◌}
use Rattle.pf_strategy.specs.declared.priorities.HeldPriority.{HeldPriority}

-- the first that is held, if any, has a higher key
abbrev pub IsBelow : ℕ → List HeldPriority → Type 0
IsBelow k [] = Unit {0}
IsBelow k (h ∷ hs) = k < h.key

-- those that are held up to and with index n have the first of these keys, and the next has a higher one
abbrev pub KeepsPlace : (keys : List ℕ) → List HeldPriority → (n : ℕ) → Type 0
KeepsPlace [] hs n = ⊥
KeepsPlace (k ∷ ks) [] n = ⊥
KeepsPlace (k ∷ ks) (h ∷ hs) zero = (h.key ≡ k) × IsBelow k hs
KeepsPlace (k ∷ ks) (h ∷ hs) (suc n) = (h.key ≡ k) × KeepsPlace ks hs n
