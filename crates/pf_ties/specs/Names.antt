-- Names in use, and the same by process.
use Rattle.std.specs.Prelude.{◌≡◌, ℕ, List, Some}
use Rattle.pf_sorted.specs.Maps.{got}
use Rattle.pf_sorted.specs.Sorted.{IsRising}

-- a name leads to a process exactly where the process leads to the name
pub record AreInverse (names processes : List (ℕ × ℕ)) : Type 0 where
  pub rising : IsRising (λ e. e.0) 0 names
  pub there : (n p : ℕ) → got n names ≡ Some p → got p processes ≡ Some n
  pub back : (n p : ℕ) → got p processes ≡ Some n → got n names ≡ Some p
