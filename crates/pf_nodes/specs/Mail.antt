-- What a contract sees of a mail list.
use Rattle.std.specs.Prelude.{ℕ, List}

-- the items in the order in which they came, and the position of the mark
pub record Mail (T : Type 0) : Type 0 where
  pub items : List T
  pub mark : ℕ

-- the list with these items and that mark
abbrev pub mail : {T : Type 0} → List T → ℕ → Mail T
mail items mark = record { items = items; mark = mark }
