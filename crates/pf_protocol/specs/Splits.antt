-- Where a byte occurs in some bytes.
use Rattle.std.specs.Prelude.{◌≡◌, ℕ, ◌==◌, false, List}
use Rattle.std.specs.List.{All}

-- the byte isn't among them
abbrev pub Lacks : ℕ → List ℕ → Type 0
Lacks at bytes = All (λ b. (b == at) ≡ false) bytes
