-- Texts that are written by way of a buffer of a fixed size.
use Rattle.std.specs.Prelude.{◌≡◌, ℕ, List, ◌++◌, Option, codes, flat_map}
use Rattle.std.specs.Fmt.{decimal}
use Rattle.std.specs.Io.KnownBytes.{Appends}

-- a text was added to what waits: what was written and what waits now are what waited before and the text
abbrev pub Adds : (old text new : List ℕ) → (written_old written_new : Option (List ℕ)) → Type 0
Adds old text new w0 w1 = (out : List ℕ) × Appends w0 w1 out × (out ++ new ≡ old ++ text)

-- numbers, each after a comma
abbrev pub after_commas : List ℕ → List ℕ
after_commas ns = flat_map (λ n. codes "," ++ decimal n) ns
