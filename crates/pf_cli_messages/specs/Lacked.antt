-- Atoms that a module lacks.
use Rattle.std.specs.Prelude.{List, [], ◌∷◌, ℕ, Option, None, Some, if◌then◌else◌}
use Rattle.std.specs.List.{list_any}
use Rattle.std.specs.Str.{bytes_eq}
use Rattle.pf_tokens.specs.TokenKinds.{PlacedToken, TokenKind, atom}

-- the name of a token that is an atom and none of these names
abbrev pub lacked_name : (names : List (List ℕ)) → TokenKind → Option (List ℕ)
lacked_name names (atom name) = if list_any (bytes_eq name) names then None else Some name
lacked_name names _ = None

-- the first atom among tokens that is none of these names
abbrev pub lacked : (names : List (List ℕ)) → List PlacedToken → Option (List ℕ)
lacked names [] = None
lacked names (t ∷ ts) = elim (lacked_name names t.kind) [ None ↦ lacked names ts | Some name ↦ Some name ]
