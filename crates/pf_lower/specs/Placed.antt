-- Where names are, as a list by the number of a name keeps it.
use Rattle.std.specs.Prelude.{◌≡◌, ℕ, ◌+◌, ◌<◌, ◌^◌, List, length, slice_get, slice_index, Some}

-- for each of these names, and no other, the list has one more than its slot; so each is there once
pub record HasSlots (names slots : List ℕ) : Type 0 where
  pub room : length names < 2 ^ 32
  pub noted : (k x : ℕ) → slice_get names k ≡ Some x → slice_index slots x ≡ k + 1
  pub is_there : (k x : ℕ) → slice_index slots x ≡ k + 1 → slice_get names k ≡ Some x
