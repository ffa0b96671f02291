-- What tokens stand for, and how marks, reserved words and integers are written.
use Rattle.std.specs.Prelude.{ℕ, ◌+◌, ◌-◌, ◌*◌, ◌^◌, Bool, nat_eq, nat_lt, if◌then◌else◌, List, [], ◌∷◌, Option, Some}
use Rattle.std.specs.Prelude.{None, codes}
use Rattle.std.specs.List.{fold, find, starts_with}
use Rattle.std.specs.Str.{bytes_eq}
use Rattle.pf_tokens.specs.declared.marks.TokenMark.{TokenMark}
use Rattle.pf_tokens.specs.declared.marks.TokenMark.TheVariants as symbols
use Rattle.pf_tokens.specs.declared.words.Reserved.{Reserved}
use Rattle.pf_tokens.specs.declared.words.Reserved.TheVariants as words
use Rattle.pf_tokens.specs.declared.token.TokenForm.{TokenForm}
use Rattle.pf_tokens.specs.declared.token.TokenForm.TheVariants as kinds
use Rattle.pf_tokens.specs.declared.token.Token.{Token}

-- a token without its place in memory
pub data TokenKind : Type 0 where
  integer : ℕ → TokenKind
  atom : List ℕ → TokenKind
  variable : List ℕ → TokenKind
  anonymous : TokenKind
  text : List ℕ → TokenKind
  own_module : TokenKind
  dot : TokenKind
  mark : TokenMark → TokenKind
  reserved : Reserved → TokenKind

-- a kind of token, the offset of its first byte and that after its last
pub record PlacedToken : Type 0 where
  pub kind : TokenKind
  pub start : ℕ
  pub end : ℕ

-- what a kind of token stands for
abbrev pub kind_of : TokenForm → TokenKind
kind_of (kinds.Integer n) = integer n.value
kind_of (kinds.Atom name) = atom name.items
kind_of (kinds.Variable name) = variable name.items
kind_of kinds.Anonymous = anonymous
kind_of (kinds.Text bytes) = text bytes.items
kind_of kinds.Module = own_module
kind_of kinds.Dot = dot
kind_of (kinds.Mark m) = mark m
kind_of (kinds.Reserved r) = reserved r

-- what a token stands for, with its offsets
abbrev pub placed_of : Token → PlacedToken
placed_of t = record { kind = kind_of t.kind; start = t.start; end = t.end }

-- how a mark is written
abbrev pub mark_text : TokenMark → List ℕ
mark_text symbols.ExactlyEqual = codes "=:="
mark_text symbols.ExactlyUnequal = codes "=/="
mark_text symbols.Arrow = codes "->"
mark_text symbols.Append = codes "++"
mark_text symbols.Equal = codes "=="
mark_text symbols.Unequal = codes "/="
mark_text symbols.AtMost = codes "=<"
mark_text symbols.AtLeast = codes ">="
mark_text symbols.Subtract = codes "--"
mark_text symbols.Generator = codes "<-"
mark_text symbols.OpenParenthesis = codes "("
mark_text symbols.CloseParenthesis = codes ")"
mark_text symbols.OpenBrace = codes "{"
mark_text symbols.CloseBrace = codes "}"
mark_text symbols.OpenBracket = codes "["
mark_text symbols.CloseBracket = codes "]"
mark_text symbols.Comma = codes ","
mark_text symbols.Semicolon = codes ";"
mark_text symbols.Bar = codes "|"
mark_text symbols.Match = codes "="
mark_text symbols.Send = codes "!"
mark_text symbols.Plus = codes "+"
mark_text symbols.Minus = codes "-"
mark_text symbols.Times = codes "*"
mark_text symbols.Slash = codes "/"
mark_text symbols.Less = codes "<"
mark_text symbols.Greater = codes ">"

-- all marks, the longer ones first
abbrev pub marks : List TokenMark
marks =
    symbols.ExactlyEqual ∷ symbols.ExactlyUnequal ∷ symbols.Arrow ∷ symbols.Append ∷ symbols.Equal ∷ symbols.Unequal
    ∷ symbols.AtMost ∷ symbols.AtLeast ∷ symbols.Subtract ∷ symbols.Generator
    ∷ symbols.OpenParenthesis ∷ symbols.CloseParenthesis ∷ symbols.OpenBrace ∷ symbols.CloseBrace
    ∷ symbols.OpenBracket ∷ symbols.CloseBracket ∷ symbols.Comma ∷ symbols.Semicolon ∷ symbols.Bar ∷ symbols.Match
    ∷ symbols.Send ∷ symbols.Plus ∷ symbols.Minus ∷ symbols.Times ∷ symbols.Slash ∷ symbols.Less ∷ symbols.Greater ∷ []

-- how a reserved word is written
abbrev pub reserved_text : Reserved → List ℕ
reserved_text words.After = codes "after"
reserved_text words.And = codes "and"
reserved_text words.Andalso = codes "andalso"
reserved_text words.Band = codes "band"
reserved_text words.Begin = codes "begin"
reserved_text words.Bnot = codes "bnot"
reserved_text words.Bor = codes "bor"
reserved_text words.Bsl = codes "bsl"
reserved_text words.Bsr = codes "bsr"
reserved_text words.Bxor = codes "bxor"
reserved_text words.Case = codes "case"
reserved_text words.Catch = codes "catch"
reserved_text words.Cond = codes "cond"
reserved_text words.Div = codes "div"
reserved_text words.End = codes "end"
reserved_text words.Fun = codes "fun"
reserved_text words.If = codes "if"
reserved_text words.Let = codes "let"
reserved_text words.Not = codes "not"
reserved_text words.Of = codes "of"
reserved_text words.Or = codes "or"
reserved_text words.Orelse = codes "orelse"
reserved_text words.Receive = codes "receive"
reserved_text words.Rem = codes "rem"
reserved_text words.Try = codes "try"
reserved_text words.When = codes "when"
reserved_text words.Xor = codes "xor"

-- all reserved words
abbrev pub reserved_words : List Reserved
reserved_words =
    words.After ∷ words.And ∷ words.Andalso ∷ words.Band ∷ words.Begin ∷ words.Bnot ∷ words.Bor ∷ words.Bsl
    ∷ words.Bsr ∷ words.Bxor ∷ words.Case ∷ words.Catch ∷ words.Cond ∷ words.Div ∷ words.End ∷ words.Fun
    ∷ words.If ∷ words.Let ∷ words.Not ∷ words.Of ∷ words.Or ∷ words.Orelse ∷ words.Receive ∷ words.Rem
    ∷ words.Try ∷ words.When ∷ words.Xor ∷ []

-- the value of digits, the first of which counts most
abbrev pub decimal : List ℕ → ℕ
decimal digits = fold (λ value digit. 10 * value + (digit - 48)) 0 digits

-- an integer is at most 9223372036854775807
abbrev pub in_range : ℕ → Bool
in_range value = nat_lt value (2 ^ 63)

-- the value, where it is in range
abbrev pub checked : ℕ → Option ℕ
checked value = if in_range value then Some value else None

-- the longest mark at the front of the bytes
abbrev pub longest_mark : List ℕ → Option TokenMark
longest_mark bytes = find (λ m. starts_with nat_eq bytes (mark_text m)) marks

-- the reserved word that the bytes write
abbrev pub reserved_of : List ℕ → Option Reserved
reserved_of bytes = find (λ r. bytes_eq (reserved_text r) bytes) reserved_words

-- the token of a piece, where it has one
abbrev pub one_token : Option TokenKind → ℕ → ℕ → List PlacedToken
one_token None start end = []
one_token (Some s) start end = record { kind = s; start = start; end = end } ∷ []

-- a token before others, where the piece has one
abbrev pub put_first : Option TokenKind → ℕ → ℕ → List PlacedToken → List PlacedToken
put_first None start end ts = ts
put_first (Some s) start end ts = record { kind = s; start = start; end = end } ∷ ts
