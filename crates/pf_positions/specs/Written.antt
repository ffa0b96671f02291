-- The signs of a source: which of its tokens are some, and on which line each is.
use Rattle.std.specs.Prelude.{◌≡◌, ℕ, ◌+◌, Bool, true, false, not, if◌then◌else◌, ◌==◌, List, [], ◌∷◌, ◌++◌, Option}
use Rattle.std.specs.Prelude.{Some, None, take, count_by}
use Rattle.pf_tokens.specs.Rules.{HasTokens, HasSomeFault}
use Rattle.pf_tokens.specs.TokenKinds.{TokenKind, PlacedToken}
use Rattle.pf_tokens.specs.TokenKinds as token
use Rattle.pf_tokens.specs.declared.marks.TokenMark.{TokenMark}
use Rattle.pf_tokens.specs.declared.marks.TokenMark.TheVariants as marks
use Rattle.pf_tokens.specs.declared.words.Reserved.{Reserved}
use Rattle.pf_tokens.specs.declared.words.Reserved.TheVariants as words
use Rattle.pf_positions.specs.declared.sign.Sign.{Sign}
use Rattle.pf_positions.specs.declared.sign.Sign.TheVariants as signs
use Rattle.pf_positions.specs.declared.written.WrittenSign.{WrittenSign}

-- ---- lines

-- the line of an offset, from 1: one more than there are line ends before it
abbrev pub line_at : (source : List ℕ) (offset : ℕ) → ℕ
line_at source offset = 1 + count_by (λ b. b == 10) (take offset source)

-- ---- tokens

-- the sign that a mark is
abbrev pub mark_sign : TokenMark → Option Sign
mark_sign marks.Send = Some signs.Send
mark_sign marks.Match = Some signs.Match
mark_sign marks.OpenBrace = Some signs.Brace
mark_sign marks.Plus = Some signs.Plus
mark_sign marks.Minus = Some signs.Minus
mark_sign marks.Times = Some signs.Times
mark_sign marks.Append = Some signs.Append
mark_sign marks.Equal = Some signs.Equal
mark_sign marks.ExactlyEqual = Some signs.Equal
mark_sign marks.Unequal = Some signs.Unequal
mark_sign marks.ExactlyUnequal = Some signs.Unequal
mark_sign marks.Less = Some signs.Less
mark_sign marks.AtMost = Some signs.AtMost
mark_sign marks.Greater = Some signs.Greater
mark_sign marks.AtLeast = Some signs.AtLeast
mark_sign m = None

-- the sign that a reserved word is
abbrev pub word_sign : Reserved → Option Sign
word_sign words.Receive = Some signs.Receive
word_sign words.Case = Some signs.Case
word_sign words.If = Some signs.If
word_sign words.Andalso = Some signs.AndAlso
word_sign words.Orelse = Some signs.OrElse
word_sign words.Div = Some signs.Quotient
word_sign words.Rem = Some signs.Remainder
word_sign r = None

-- whether a token is a parenthesis that opens
abbrev pub opens : TokenKind → Bool
opens (token.mark marks.OpenParenthesis) = true
opens k = false

-- a name is a sign if a parenthesis opens after it
abbrev pub name_sign : (following : List PlacedToken) → Option Sign
name_sign [] = None
name_sign (t ∷ ts) = if opens t.kind then Some signs.Name else None

-- the sign that a token is before these others
abbrev pub token_sign : TokenKind → (following : List PlacedToken) → Option Sign
token_sign (token.mark m) following = mark_sign m
token_sign (token.reserved r) following = word_sign r
token_sign (token.atom name) following = name_sign following
token_sign token.own_module following = name_sign following
token_sign k following = None

-- ---- sources

abbrev pub is_minus : TokenKind → Bool
is_minus (token.mark marks.Minus) = true
is_minus k = false

abbrev pub is_dot : TokenKind → Bool
is_dot token.dot = true
is_dot k = false

-- the tokens of the functions: after the forms at the front that begin with a minus, each up to its dot
abbrev pub functions_in : (within : Bool) → List PlacedToken → List PlacedToken
functions_in within [] = []
functions_in true (t ∷ ts) = functions_in (not (is_dot t.kind)) ts
functions_in false (t ∷ ts) = if is_minus t.kind then functions_in true ts else t ∷ ts

abbrev pub sign_at : (line : ℕ) → Option Sign → List WrittenSign
sign_at line None = []
sign_at line (Some s) = record { sign = s; line = line } ∷ []

-- the signs among tokens, in their order
abbrev pub signs_of : (source : List ℕ) → List PlacedToken → List WrittenSign
signs_of source [] = []
signs_of source (t ∷ ts) = sign_at (line_at source t.start) (token_sign t.kind ts) ++ signs_of source ts

-- the signs of a source; a source with a fault has none
pub data AreSignsOf (source : List ℕ) (ws : List WrittenSign) : Type 0 where
  read : (tokens : List PlacedToken) → HasTokens source tokens → ws ≡ signs_of source (functions_in false tokens)
      → AreSignsOf source ws
  refused : HasSomeFault source → ws ≡ [] → AreSignsOf source ws
