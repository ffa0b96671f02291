-- The tokens of a source are within it.
use Rattle.std.proofs.Common.{◌≤◌, inl, inr, ℕ, List, [], ◌∷◌, length, map, arith}
use Rattle.pf_tokens.specs.TokenKinds.{PlacedToken}
use Rattle.pf_tokens.specs.Rules.{HasTokens, IsOrdered}
use Rattle.pf_tokens.proofs.Texts.{ordered}
use Rattle.pf_tokens.specs.NumberedTokens.{numbered_tokens, numbered_token_in, atoms_of, variables_of}
use Rattle.pf_tokens.specs.Offsets.{IsAtOffset, IsOffsetOf}

goes_on : (ts : List PlacedToken) (start end : ℕ) → IsOrdered start ts end → start ≤ end
goes_on [] start end h = h
goes_on (t ∷ ts) start end (from, some, more) = let on = goes_on ts t.end end more in omega (arith, from, some, on)

is_there_within : (atoms variables : List (List ℕ)) (ts : List PlacedToken) (start end offset : ℕ)
    → IsOrdered start ts end → IsAtOffset (map (numbered_token_in atoms variables) ts) offset → offset ≤ end
is_there_within atoms variables [] start end offset h there = absurd there
is_there_within atoms variables (t ∷ ts) start end offset (from, some, more) (inl here) =
    let on = goes_on ts t.end end more in omega (arith, some, on, here)
is_there_within atoms variables (t ∷ ts) start end offset (from, some, more) (inr there) =
    is_there_within atoms variables ts t.end end offset more there

pub offset_within : (bytes : List ℕ) (ts : List PlacedToken) (offset : ℕ) → HasTokens bytes ts
    → IsOffsetOf (numbered_tokens ts) (length bytes) offset → offset ≤ length bytes
offset_within bytes ts offset has (inl e) = omega (arith, e)
offset_within bytes ts offset has (inr there) = is_there_within (atoms_of ts) (variables_of ts) ts 0
    (length bytes) offset
    (ordered bytes ts has) there
