-- The rules of tokens: how the pieces of a text are written, and where a text is at fault.
use Rattle.std.specs.Prelude.{◌≡◌, ◌≢◌, ◌⊎◌, ℕ, ◌+◌, ◌^◌, ◌<◌, ◌≤◌, Bool, ◌==◌, ◌&&◌, ◌||◌, not, IsTrue, IsFalse, List}
use Rattle.std.specs.Prelude.{[], ◌∷◌, ◌++◌, length, Option, Some, None, codes}
use Rattle.std.specs.List.{list_all}
use Rattle.pf_errors.specs.declared.code.Code.{Code}
use Rattle.pf_errors.specs.declared.code.Code.TheVariants.{UnexpectedByte, Unfinished, IntegerTooLarge, SourceTooLong}
use Rattle.pf_errors.specs.declared.fault.OrNoMemory.{OrNoMemory}
use Rattle.pf_errors.specs.declared.refusal.SourceRefusal.{SourceRefusal}
use Rattle.pf_errors.specs.declared.fault.OrNoMemory.TheVariants.{NoMemory, Fault}
use Rattle.pf_tokens.specs.declared.marks.TokenMark.{TokenMark}
use Rattle.pf_tokens.specs.declared.words.Reserved.{Reserved}
use Rattle.pf_tokens.specs.declared.scan.TheConstants.{MOST_SOURCE_BYTES}
use Rattle.pf_tokens.specs.Bytes.{percent, dollar, single_quote, double_quote, backslash, is_blank, is_digit, is_lower}
use Rattle.pf_tokens.specs.Bytes.{is_upper, is_word_byte, is_visible, is_quotable, is_comment, is_joined, ends}
use Rattle.pf_tokens.specs.Bytes.{escape_of}
use Rattle.pf_tokens.specs.TokenKinds.{TokenKind, PlacedToken, decimal, mark_text, reserved_text, put_first}
use Rattle.pf_tokens.specs.TokenKinds as kinds

-- all the bytes pass, and the text after them goes on with none that does
pub record IsRun (test : ℕ → Bool) (bytes rest : List ℕ) : Type 0 where
  pub each : IsTrue (list_all test bytes)
  pub whole : IsTrue (ends test rest)

-- a blank is one byte
abbrev pub IsBlank : List ℕ → Type 0
IsBlank bytes = (b : ℕ) × IsTrue (is_blank b) × (bytes ≡ b ∷ [])

-- a comment is `%` and all that is before the line end, or the end
abbrev pub IsComment : List ℕ → List ℕ → Type 0
IsComment bytes rest = (words : List ℕ) × (bytes ≡ percent ∷ words) × IsRun is_comment words rest

-- a numeral is a run of digits, and its value is theirs
pub record IsNumeral (value : ℕ) (bytes rest : List ℕ) : Type 0 where
  pub some : 0 < length bytes
  pub digits : IsRun is_digit bytes rest
  pub value_is : value ≡ decimal bytes

-- a name is a run of bytes of words, the first of which may begin it
abbrev pub IsName : (ℕ → Bool) → List ℕ → List ℕ → Type 0
IsName begins [] rest = ⊥
IsName begins (b ∷ bs) rest = IsTrue (begins b) × IsRun is_word_byte (b ∷ bs) rest

-- a byte is written as itself, where it may be, or as a `\` and the letter that stands for it
abbrev pub WritesByte : (ℕ → Bool) → ℕ → List ℕ → Type 0
WritesByte plain c bytes =
    (IsTrue (plain c) × (bytes ≡ c ∷ [])) ⊎ ((letter : ℕ) × (escape_of letter ≡ Some c)
    × (bytes ≡ backslash ∷ letter ∷ []))

-- within quotes each byte that is allowed there is written as itself, but for the quote and `\`
abbrev pub is_plain_in : ℕ → ℕ → Bool
is_plain_in quote b = is_quotable b && not (b == quote || b == backslash)

-- after `$` each visible byte is written as itself, but for `\`
abbrev pub is_plain_character : ℕ → Bool
is_plain_character b = is_visible b && not (b == backslash)

-- the bytes are written one after the other
abbrev pub WritesAll : ℕ → List ℕ → List ℕ → Type 0
WritesAll quote [] bytes = bytes ≡ []
WritesAll quote (c ∷ meant) bytes =
    (one more : List ℕ) × (bytes ≡ one ++ more) × WritesByte (is_plain_in quote) c one × WritesAll quote meant more

-- a quoted text is written between two quotes
abbrev pub IsQuoted : ℕ → List ℕ → List ℕ → Type 0
IsQuoted quote meant bytes = (body : List ℕ) × WritesAll quote meant body × (bytes ≡ quote ∷ (body ++ quote ∷ []))

-- a character is written after `$`
abbrev pub IsCharacter : ℕ → List ℕ → Type 0
IsCharacter code bytes = (one : List ℕ) × WritesByte is_plain_character code one × (bytes ≡ dollar ∷ one)

-- a mark is written, and no longer mark is there
pub record IsLongestMark (m : TokenMark) (bytes rest : List ℕ) : Type 0 where
  pub written : bytes ≡ mark_text m
  pub longest : (other : TokenMark) (tail : List ℕ) → bytes ++ rest ≡ mark_text other ++ tail
      → length (mark_text other) ≤ length bytes

-- the bytes are a token of this kind of token, before this rest
abbrev pub IsToken : TokenKind → List ℕ → List ℕ → Type 0
IsToken (kinds.integer value) bytes rest = (IsNumeral value bytes rest × (value < 2 ^ 63)) ⊎ IsCharacter value bytes
IsToken (kinds.atom name) bytes rest =
    (IsName is_lower bytes rest × (name ≡ bytes) × ((r : Reserved) → bytes ≢ reserved_text r))
    ⊎ IsQuoted single_quote name bytes
IsToken (kinds.variable name) bytes rest = IsName is_upper bytes rest × (name ≡ bytes) × (bytes ≢ codes "_")
IsToken kinds.anonymous bytes rest = IsName is_upper bytes rest × (bytes ≡ codes "_")
IsToken (kinds.text meant) bytes rest = IsQuoted double_quote meant bytes
IsToken kinds.own_module bytes rest = (bytes ≡ codes "?MODULE") × IsTrue (ends is_word_byte rest)
IsToken kinds.dot bytes rest = (bytes ≡ codes ".") × IsTrue (ends is_joined rest)
IsToken (kinds.mark m) bytes rest = IsLongestMark m bytes rest
IsToken (kinds.reserved r) bytes rest = IsName is_lower bytes rest × (bytes ≡ reserved_text r)

-- a piece is a blank, a comment or a token
abbrev pub IsPiece : Option TokenKind → List ℕ → List ℕ → Type 0
IsPiece None bytes rest = IsBlank bytes ⊎ IsComment bytes rest
IsPiece (Some kind) bytes rest = IsToken kind bytes rest

-- a numeral, a quoted text or a character begins with such a byte
abbrev pub is_opening : ℕ → Bool
is_opening b = is_digit b || b == double_quote || b == dollar || b == single_quote

-- the first byte is none of those, and no piece is there
abbrev pub IsStrayByte : List ℕ → Type 0
IsStrayByte [] = ⊥
IsStrayByte (b ∷ bs) = IsFalse (is_opening b)
    × ((kind : Option TokenKind) (bytes rest : List ℕ) → b ∷ bs ≡ bytes ++ rest → IsPiece kind bytes rest → ⊥)

-- a `\` and this make no escape
abbrev pub IsNoEscape : List ℕ → Type 0
IsNoEscape [] = ⊥
IsNoEscape (letter ∷ rest) = escape_of letter ≡ None

-- a byte isn't allowed there, or is a `\` that begins no escape
abbrev pub IsWrong : (ℕ → Bool) → List ℕ → Type 0
IsWrong may_be_there [] = ⊥
IsWrong may_be_there (b ∷ rest) = IsFalse (may_be_there b) ⊎ ((b ≡ backslash) × IsNoEscape rest)

-- the file ends, or ends after a `\`
abbrev pub IsCutOff : List ℕ → Type 0
IsCutOff rest = (rest ≡ []) ⊎ (rest ≡ backslash ∷ [])

-- the text opens a quoted text, writes n bytes of it with the quote, and goes on
pub record OpensQuoted (text : List ℕ) (written : ℕ) (rest : List ℕ) : Type 0 where
  pub quote : ℕ
  pub is_quote : (quote ≡ single_quote) ⊎ (quote ≡ double_quote)
  pub meant : List ℕ
  pub body : List ℕ
  pub writes : WritesAll quote meant body
  pub whole : text ≡ quote ∷ (body ++ rest)
  pub written_is : written ≡ length body + 1

-- a quoted text or a character goes on with a wrong byte, n bytes on
abbrev pub HasWrongByte : List ℕ → ℕ → Type 0
HasWrongByte text n = (rest : List ℕ)
    × ((OpensQuoted text n rest × IsWrong is_quotable rest)
    ⊎ ((text ≡ dollar ∷ rest) × (n ≡ 1) × IsWrong is_visible rest))

-- a quoted text or a character is cut off by the end of the file
abbrev pub IsUnfinished : List ℕ → Type 0
IsUnfinished text = (rest : List ℕ) × IsCutOff rest × (((n : ℕ) × OpensQuoted text n rest) ⊎ (text ≡ dollar ∷ rest))

-- a numeral is above 9223372036854775807
abbrev pub IsTooLarge : List ℕ → Type 0
IsTooLarge text = (value : ℕ) × (bytes rest : List ℕ) × (text ≡ bytes ++ rest) × IsNumeral value bytes rest
    × (2 ^ 63 ≤ value)

-- a text that begins with no piece has this fault, n bytes on
abbrev pub IsFault : Code → ℕ → List ℕ → Type 0
IsFault UnexpectedByte n text = (IsStrayByte text × (n ≡ 0)) ⊎ HasWrongByte text n
IsFault Unfinished n text = IsUnfinished text × (n ≡ 0)
IsFault IntegerTooLarge n text = IsTooLarge text × (n ≡ 0)
IsFault _ n text = ⊥

-- the bytes of a piece, and what it stands for, unless it is a blank or a comment
pub record RulePart : Type 0 where
  pub kind : Option TokenKind
  pub bytes : List ℕ

-- the text is the parts, one after the other and each a piece, and then the rest
abbrev pub BeginsWithParts : List RulePart → List ℕ → List ℕ → Type 0
BeginsWithParts [] text rest = text ≡ rest
BeginsWithParts (p ∷ ps) text rest = (tail : List ℕ) × (text ≡ p.bytes ++ tail) × IsPiece p.kind p.bytes tail
    × BeginsWithParts ps tail rest

-- the tokens of parts, the first of which is at the offset
abbrev pub tokens_from : ℕ → List RulePart → List PlacedToken
tokens_from offset [] = []
tokens_from offset (p ∷ ps) =
    put_first p.kind offset (offset + length p.bytes) (tokens_from (offset + length p.bytes) ps)

-- how many bytes parts take
abbrev pub total_length : List RulePart → ℕ
total_length [] = 0
total_length (p ∷ ps) = length p.bytes + total_length ps

-- the text is cut into pieces, and these are its tokens
pub record HasTokens (text : List ℕ) (tokens : List PlacedToken) : Type 0 where
  pub short : length text ≤ MOST_SOURCE_BYTES
  pub parts : List RulePart
  pub whole : BeginsWithParts parts text []
  pub tokens_are : tokens ≡ tokens_from 0 parts

-- after pieces the text has this fault at the offset
pub record HasFaultAt (text : List ℕ) (fault : Code) (offset : ℕ) : Type 0 where
  pub parts : List RulePart
  pub rest : List ℕ
  pub begins : BeginsWithParts parts text rest
  pub further : ℕ
  pub fault_is : IsFault fault further rest
  pub offset_is : offset ≡ total_length parts + further

-- the first fault of the text is this, at the offset
abbrev pub HasFault : List ℕ → Code → ℕ → Type 0
HasFault text fault offset =
    ((MOST_SOURCE_BYTES < length text) × (fault ≡ SourceTooLong) × (offset ≡ 0))
    ⊎ ((length text ≤ MOST_SOURCE_BYTES) × HasFaultAt text fault offset)

-- the text has tokens
abbrev pub HasSomeTokens : List ℕ → Type 0
HasSomeTokens text = (tokens : List PlacedToken) × HasTokens text tokens

-- the text has a first fault
abbrev pub HasSomeFault : List ℕ → Type 0
HasSomeFault text = (fault : Code) × (offset : ℕ) × HasFault text fault offset

-- tokens are in order, none of them empty, from the one offset to the other
abbrev pub IsOrdered : ℕ → List PlacedToken → ℕ → Type 0
IsOrdered start [] end = start ≤ end
IsOrdered start (t ∷ ts) end = (start ≤ t.start) × (t.start < t.end) × IsOrdered t.end ts end

-- out of memory says nothing of a text, and a fault is its first
abbrev pub IsFaultOf : List ℕ → OrNoMemory SourceRefusal → Type 0
IsFaultOf text NoMemory = Unit {0}
IsFaultOf text (Fault r) = HasFault text r.code r.offset
