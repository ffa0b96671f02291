-- Offsets of tokens.
use Rattle.std.specs.Prelude.{◌≡◌, ◌⊎◌, ℕ, List, [], ◌∷◌}
use Rattle.pf_tokens.specs.NumberedTokens.{NumberedToken}

-- one of the tokens is at the offset
abbrev pub IsAtOffset : List NumberedToken → ℕ → Type 0
IsAtOffset [] offset = ⊥
IsAtOffset (t ∷ ts) offset = (t.at ≡ offset) ⊎ IsAtOffset ts offset

-- the offset of one of the tokens, or the end of the source
abbrev pub IsOffsetOf : List NumberedToken → ℕ → ℕ → Type 0
IsOffsetOf ts end offset = (offset ≡ end) ⊎ IsAtOffset ts offset
