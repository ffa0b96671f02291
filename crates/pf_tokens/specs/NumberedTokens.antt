-- Tokens whose names are numbers: those of atoms in one table, those of variables in another.
use Rattle.std.specs.Prelude.{ℕ, List, [], ◌∷◌, map, not, flat_map}
use Rattle.std.specs.List.{prefix_len}
use Rattle.std.specs.Str.{bytes_eq}
use Rattle.pf_terms.specs.Atoms.{fixed_names, names_entered}
use Rattle.pf_tokens.specs.declared.marks.TokenMark.{TokenMark}
use Rattle.pf_tokens.specs.declared.words.Reserved.{Reserved}
use Rattle.pf_tokens.specs.TokenKinds.{PlacedToken}
use Rattle.pf_tokens.specs.TokenKinds as token

-- what a token is
pub data NumberedKind : Type 0 where
  integer : ℕ → NumberedKind
  atom : ℕ → NumberedKind
  variable : ℕ → NumberedKind
  anonymous : NumberedKind
  text : List ℕ → NumberedKind
  own_module : NumberedKind
  dot : NumberedKind
  mark : TokenMark → NumberedKind
  reserved : Reserved → NumberedKind

-- a token, and the offset of its first byte
pub record NumberedToken : Type 0 where
  pub kind : NumberedKind
  pub at : ℕ

-- ---- names

-- the name of an atom or of a variable, where the token is one
abbrev pub atom_name : token.TokenKind → List (List ℕ)
atom_name (token.atom name) = name ∷ []
atom_name _ = []

abbrev pub variable_name : token.TokenKind → List (List ℕ)
variable_name (token.variable name) = name ∷ []
variable_name _ = []

-- the names, and after them the atoms that tokens have and they lack, in order of appearance
abbrev pub atoms_after : List (List ℕ) → List PlacedToken → List (List ℕ)
atoms_after names ts = names_entered names (flat_map (λ t. atom_name t.kind) ts)

-- the atoms of a source: the fixed ones, and then its own in order of appearance
abbrev pub atoms_of : List PlacedToken → List (List ℕ)
atoms_of ts = atoms_after fixed_names ts

-- the names of its variables, which are numbered in the same way in a table of their own
abbrev pub variables_of : List PlacedToken → List (List ℕ)
variables_of ts = names_entered fixed_names (flat_map (λ t. variable_name t.kind) ts)

-- the number of a name
abbrev pub number_in : List (List ℕ) → List ℕ → ℕ
number_in names name = prefix_len (λ other. not (bytes_eq name other)) names

-- ---- tokens by number

abbrev pub kind_in : List (List ℕ) → List (List ℕ) → token.TokenKind → NumberedKind
kind_in atoms variables (token.integer n) = integer n
kind_in atoms variables (token.atom name) = atom (number_in atoms name)
kind_in atoms variables (token.variable name) = variable (number_in variables name)
kind_in atoms variables token.anonymous = anonymous
kind_in atoms variables (token.text cs) = text cs
kind_in atoms variables token.own_module = own_module
kind_in atoms variables token.dot = dot
kind_in atoms variables (token.mark m) = mark m
kind_in atoms variables (token.reserved r) = reserved r

abbrev pub numbered_token_in : List (List ℕ) → List (List ℕ) → PlacedToken → NumberedToken
numbered_token_in atoms variables t = record { kind = kind_in atoms variables t.kind; at = t.start }

-- tokens with numbers for names, where those of their atoms go on from these names
abbrev pub numbered_after : List (List ℕ) → List PlacedToken → List NumberedToken
numbered_after names ts = map (numbered_token_in (atoms_after names ts) (variables_of ts)) ts

-- the tokens of a source, with numbers for names
abbrev pub numbered_tokens : List PlacedToken → List NumberedToken
numbered_tokens ts = numbered_after fixed_names ts
