-- One turn of the loop that numbers names.
use Rattle.std.proofs.Common.{◌≡◌, ℕ, List, [], ◌∷◌, ◌++◌, sym, ap, ◌∙◌, append_assoc}
use Rattle.std.specs.Prelude.{map, flat_map}
use Rattle.std.proofs.lemmas.List.{map-append}
use Rattle.std.proofs.lemmas.List.Sums.{fold-append}
use Rattle.pf_terms.specs.Atoms.{with_name, names_entered}
use Rattle.pf_tokens.specs.TokenKinds.{PlacedToken, placed_of}
use Rattle.pf_tokens.specs.TokenKinds as token
use Rattle.pf_tokens.specs.declared.token.Token.{Token}
use Rattle.pf_tokens.specs.declared.numbered_token.NumberedKind.{NumberedKind as CodeNumberedKind}
use Rattle.pf_tokens.specs.declared.numbered_token.NumberedToken.{NumberedToken as CodeNumberedToken}
use Rattle.pf_tokens.specs.NumberedTokens.{NumberedToken, kind_in, numbered_token_in}
use Rattle.pf_tokens.specs.View.{kind_of, numbered_token_of, token_list}

module _ (rest next : List Token) (x : Token) (e : rest ≡ x ∷ next) where
  -- the names of the first token are entered
  pub names_go : (f : PlacedToken → List (List ℕ)) (old new whole : List (List ℕ))
      → new ≡ names_entered old (f (placed_of x))
      → names_entered old (flat_map f (map placed_of rest)) ≡ whole
      → names_entered new (flat_map f (map placed_of next)) ≡ whole
  names_go f old new whole n w =
      ap (λ ns. names_entered ns (flat_map f (map placed_of next))) n
      ∙ sym (fold-append with_name old (f (placed_of x)) (flat_map f (map placed_of next)))
      ∙ ap (λ r. names_entered old (flat_map f (map placed_of r))) (sym e)
      ∙ w

  -- the first token is numbered
  pub token_list_go : (atoms variables : List (List ℕ)) (found pushed : List CodeNumberedToken) (t : CodeNumberedToken)
      (whole : List NumberedToken) → pushed ≡ found ++ t ∷ []
      → numbered_token_of t ≡ numbered_token_in atoms variables (placed_of x)
      → token_list found ++ map (numbered_token_in atoms variables) (map placed_of rest) ≡ whole
      → token_list pushed ++ map (numbered_token_in atoms variables) (map placed_of next) ≡ whole
  token_list_go atoms variables found pushed t whole p same w =
      ap (λ ts. token_list ts ++ map (numbered_token_in atoms variables) (map placed_of next)) p
      ∙ ap (λ us. us ++ map (numbered_token_in atoms variables) (map placed_of next))
      (map-append numbered_token_of found (t ∷ []))
      ∙ append_assoc (token_list found) (numbered_token_of t ∷ [])
      (map (numbered_token_in atoms variables) (map placed_of next))
      ∙ ap (λ u. token_list found ++ u ∷ map (numbered_token_in atoms variables) (map placed_of next)) same
      ∙ ap (λ r. token_list found ++ map (numbered_token_in atoms variables) (map placed_of r)) (sym e)
      ∙ w

-- a token whose kind is numbered, and whose offset is known
pub numbered_as : (k : CodeNumberedKind) (at : ℕ) (x : Token) (atoms variables all_atoms all_variables : List (List ℕ))
    → kind_of k ≡ kind_in atoms variables (token.kind_of x.kind) → atoms ≡ all_atoms
    → variables ≡ all_variables → at ≡ x.start
    → numbered_token_of (record { kind = k; at = at }) ≡ numbered_token_in all_atoms all_variables (placed_of x)
numbered_as k at x atoms variables all_atoms all_variables s a v e =
    ap (λ z. record { kind = z; at = at }) (s ∙ ap (λ ns. kind_in ns variables (token.kind_of x.kind)) a
    ∙ ap (λ ns. kind_in all_atoms ns (token.kind_of x.kind)) v)
    ∙ ap (λ z. record { kind = kind_in all_atoms all_variables (token.kind_of x.kind); at = z }) e
