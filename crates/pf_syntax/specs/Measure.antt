-- The measure of a tree.
use Rattle.std.specs.Prelude.{◌≡◌, ℕ, min}
use Rattle.pf_syntax.specs.declared.measure.Measure.{Measure}

-- a number, or 2^32 - 1 where it is larger
abbrev pub capped : ℕ → ℕ
capped n = min n 4294967295

-- the measure is of this size and this depth
abbrev pub IsMeasure : Measure → ℕ → ℕ → Type 0
IsMeasure m size depth = (m.size ≡ size) × (m.depth ≡ depth)

-- the measure is of this size and this depth, up to the most that it can count
abbrev pub IsCappedMeasure : Measure → ℕ → ℕ → Type 0
IsCappedMeasure m size depth = (m.size ≡ capped size) × (m.depth ≡ capped depth)
