-- Numbers for names: what a table of names keeps, and what an index of it does.
use Rattle.std.specs.Prelude.{◌≡◌, ◌≤◌, ◌^◌, ℕ, List, length, false, slice_get, Some, IfSome, IfNone}
use Rattle.std.specs.declared.option.Option.{Option}
use Rattle.std.specs.List.{list_any}
use Rattle.std.specs.Str.{bytes_eq}
use Rattle.pf_terms.specs.Atoms.{fixed_names, name_of}
use Rattle.pf_terms.specs.Order.{Distinguishes}

-- there is a number for each of these names, and no two of them are the same
pub record HasNumbers (names : List (List ℕ)) : Type 0 where
  pub room : length names ≤ 2 ^ 32
  pub distinct : Distinguishes (name_of names) (length names)

-- an index of these names: it gives numbers at which the names are, and leaves out none but fixed ones
pub record IsIndex (names : List (List ℕ)) (number : List ℕ → Option ℕ) : Type 0 where
  pub found : (name : List ℕ) → IfSome (number name) (λ n. slice_get names n ≡ Some name)
  pub absent : (name : List ℕ) → list_any (bytes_eq name) fixed_names ≡ false
      → IfNone (number name) (list_any (bytes_eq name) names ≡ false)
