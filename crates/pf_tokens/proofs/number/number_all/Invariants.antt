use Rattle.std.proofs.Common.{◌≡◌, ◌<◌, ◌^◌, ◌++◌, drop, length}
use Rattle.std.specs.Prelude.{map, flat_map}
use Rattle.pf_terms.specs.Atoms.{names_entered}
use Rattle.pf_tokens.specs.TokenKinds.{placed_of}
use Rattle.pf_tokens.specs.NumberedTokens.{atom_name, atoms_after, numbered_after, numbered_token_in, variable_name}
use Rattle.pf_tokens.specs.NumberedTokens.{variables_of}
use Rattle.pf_tokens.specs.View.{token_list}
use Rattle.pf_tokens.proofs.number.number_all.Given as goal

-- the names and the tokens so far, and those of what is left, are those of all
abbrev pub invariant-loop-token : goal.invariant-loop-token
invariant-loop-token l = record {
  atoms : names_entered l.atoms (flat_map (λ t. atom_name t.kind) (map placed_of (drop l.token-index l.tokens)))
      ≡ atoms_after l.fn.atoms (map placed_of l.tokens);
  variables : names_entered l.variables (flat_map (λ t. variable_name t.kind)
      (map placed_of (drop l.token-index l.tokens))) ≡ variables_of (map placed_of l.tokens);
  token_list : token_list l.found.items ++ map (numbered_token_in (atoms_after l.fn.atoms (map placed_of l.tokens))
      (variables_of (map placed_of l.tokens))) (map placed_of (drop l.token-index l.tokens)) ≡ numbered_after l.fn.atoms
      (map placed_of l.tokens);
  atom_room : length l.atoms < 2 ^ 32;
  variable_room : length l.variables < 2 ^ 32;
}
