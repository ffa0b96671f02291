-- What a token with a number stands for, however the tables of names grow.
use Rattle.std.specs.Prelude.{◌≡◌, ℕ, List}
use Rattle.pf_terms.specs.Atoms.{names_entered}
use Rattle.pf_tokens.specs.TokenKinds.{PlacedToken}
use Rattle.pf_tokens.specs.TokenKinds as token
use Rattle.pf_tokens.specs.declared.numbered_token.NumberedKind.{NumberedKind as CodeNumberedKind}
use Rattle.pf_tokens.specs.NumberedTokens.{kind_in}
use Rattle.pf_tokens.specs.View.{kind_of}

abbrev pub IsForKind : List (List ℕ) → List (List ℕ) → token.TokenKind → CodeNumberedKind → Type 0
IsForKind atoms variables kind s = (xs ys : List (List ℕ))
    → kind_of s ≡ kind_in (names_entered atoms xs) (names_entered variables ys) kind
