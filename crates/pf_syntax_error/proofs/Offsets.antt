-- A token by number is at an offset.
use Rattle.std.proofs.Common.{◌≡◌, ℕ, zero, suc, List, [], ◌∷◌, Some, inl, inr, ap}
use Rattle.std.specs.List.{slice_get}
use Rattle.pf_tokens.specs.declared.numbered_token.NumberedToken.{NumberedToken as CodeNumberedToken}
use Rattle.pf_tokens.specs.View.{token_list}
use Rattle.pf_tokens.specs.Offsets.{IsAtOffset}

pub is_there_still : (ts : List CodeNumberedToken) (i : ℕ) (t : CodeNumberedToken) → slice_get ts i ≡ Some t
    → IsAtOffset (token_list ts) t.at
is_there_still [] i t e = absurd cc
is_there_still (u ∷ ts) zero t e = let same : u ≡ t = cc in inl (ap (λ (x : CodeNumberedToken). x.at) same)
is_there_still (u ∷ ts) (suc i) t e = inr (is_there_still ts i t e)
