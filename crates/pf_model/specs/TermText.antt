-- The text of a term, and a line of text.
use Rattle.std.specs.Prelude.{ℕ, Bool, false, not, ◌&&◌, ◌==◌, if◌then◌else◌, List, [], ◌∷◌, ◌++◌, flat_map, is_some}
use Rattle.std.specs.Prelude.{codes}
use Rattle.std.specs.List.{list_all}
use Rattle.std.specs.Fmt.{decimal, signed_decimal}
use Rattle.pf_terms.specs.Value.{Value, Values, int, atom, ref, pid, tuple, list, none, more}
use Rattle.pf_tokens.specs.Bytes.{is_lower, is_word_byte, single_quote, backslash}
use Rattle.pf_tokens.specs.TokenKinds.{reserved_of}

-- a lower-case letter begins the name, words go on with it, and it is no reserved word
abbrev pub is_plain_name : List ℕ → Bool
is_plain_name [] = false
is_plain_name (b ∷ bs) = is_lower b && list_all is_word_byte bs && not (is_some (reserved_of (b ∷ bs)))

-- in quotes a line end, a tabulator, `\` and the quote are escaped
abbrev pub quoted_byte : ℕ → List ℕ
quoted_byte b =
    if b == 10 then codes "\\n"
    else (if b == 9 then codes "\\t"
    else (if b == backslash then backslash ∷ backslash ∷ []
    else (if b == single_quote then backslash ∷ single_quote ∷ []
    else b ∷ [])))

-- an atom is quoted unless its name is an unquoted atom
abbrev pub atom_text : List ℕ → List ℕ
atom_text name = if is_plain_name name then name else codes "'" ++ flat_map quoted_byte name ++ codes "'"

abbrev pub pid_text : ℕ → List ℕ
pid_text p = codes "<" ++ decimal p ++ codes ">"

-- terms print without blanks; `name` gives the names of atoms
abbrev mutual
  pub value_text : (ℕ → List ℕ) → Value → List ℕ
  value_text name (int z) = signed_decimal z
  value_text name (atom a) = atom_text (name a)
  value_text name (ref r) = codes "#Ref<" ++ decimal r ++ codes ">"
  value_text name (pid p) = pid_text p
  value_text name (tuple vs) = codes "{" ++ values_text name vs ++ codes "}"
  value_text name (list vs) = codes "[" ++ values_text name vs ++ codes "]"

  -- elements have commas between them
  pub values_text : (ℕ → List ℕ) → Values → List ℕ
  values_text name none = []
  values_text name (more v vs) = value_text name v ++ rest_text name vs

  pub rest_text : (ℕ → List ℕ) → Values → List ℕ
  rest_text name none = []
  rest_text name (more v vs) = codes "," ++ value_text name v ++ rest_text name vs

abbrev pub line : List ℕ → List ℕ
line text = text ++ 10 ∷ []
