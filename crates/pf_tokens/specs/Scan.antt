-- The tokens of a text, or its first fault and the fault's offset, read from left to right.
use Rattle.std.specs.Prelude.{◌≡◌, ℕ, zero, suc, ◌+◌, Bool, true, false, List, [], ◌∷◌, length, take, drop, Option}
use Rattle.std.specs.Prelude.{Some, None, option_map, Result, Ok, Err, if◌then◌else◌, nat_eq, nat_le, ◌==◌, ◌&&◌}
use Rattle.std.specs.Prelude.{slice_index, codes}
use Rattle.std.specs.List.{prefix_len, starts_with}
use Rattle.std.specs.Str.{bytes_eq}
use Rattle.pf_tokens.specs.declared.bytes.Class.{Class}
use Rattle.pf_tokens.specs.declared.bytes.Class.TheVariants as classes
use Rattle.pf_errors.specs.declared.code.Code.{Code}
use Rattle.pf_errors.specs.declared.code.Code.TheVariants.{UnexpectedByte, Unfinished, IntegerTooLarge, SourceTooLong}
use Rattle.pf_errors.specs.declared.fault.OrNoMemory.{OrNoMemory}
use Rattle.pf_errors.specs.declared.refusal.SourceRefusal.{SourceRefusal}
use Rattle.pf_errors.specs.declared.fault.OrNoMemory.TheVariants.{NoMemory, Fault}
use Rattle.pf_tokens.specs.declared.quoted.QuoteStep.{QuoteStep}
use Rattle.pf_tokens.specs.declared.quoted.QuoteStep.TheVariants as steps
use Rattle.pf_tokens.specs.declared.piece.Piece.{Piece}
use Rattle.pf_tokens.specs.declared.words.Reserved.{Reserved}
use Rattle.pf_tokens.specs.declared.scan.TheConstants.{MOST_SOURCE_BYTES}
use Rattle.pf_tokens.specs.Bytes.{backslash, is_digit, is_word_byte, is_comment, is_joined, is_visible, is_quotable}
use Rattle.pf_tokens.specs.Bytes.{ends, class_of, escape_of}
use Rattle.pf_tokens.specs.TokenKinds.{TokenKind, PlacedToken, kind_of, decimal, checked, longest_mark, mark_text}
use Rattle.pf_tokens.specs.TokenKinds.{reserved_of, put_first}
use Rattle.pf_tokens.specs.TokenKinds as kinds

-- a value, or a fault and its offset
abbrev pub Read : Type 0 → Type 0
Read X = Result X (Code × ℕ)

-- a piece is the token, unless it is a blank or a comment, and its length
abbrev pub Cut : Type 0
Cut = Option TokenKind × ℕ

-- what a piece of the program shows
abbrev pub shown_piece : Piece → Cut
shown_piece p = (option_map kind_of p.kind, p.length)

infixl 10 ◌>>=◌
abbrev pub ◌>>=◌ : {A B : Type 0} → Read A → (A → Read B) → Read B
(Ok x) >>= f = f x
(Err e) >>= f = Err e

-- out of memory says nothing of the text, and a fault is the one that was read
abbrev pub Fails : {Y : Type 0} → OrNoMemory SourceRefusal → Read Y → Type 0
Fails NoMemory read = Unit {0}
Fails (Fault r) read = read ≡ Err (r.code, r.offset)

-- a result, seen by a view, is what was read, unless memory ran out
abbrev pub Gives : {X Y : Type 0} → (X → Y) → Result X (OrNoMemory SourceRefusal) → Read Y → Type 0
Gives view (Ok x) read = read ≡ Ok (view x)
Gives view (Err e) read = Fails e read

-- an escape means a byte, or fails
abbrev pub escape_step : Option ℕ → QuoteStep
escape_step (Some c) = steps.Means c
escape_step None = steps.Fails

-- what a byte within quotes does, after a `\` or not
abbrev pub step_of : ℕ → Bool → ℕ → QuoteStep
step_of quote true b = escape_step (escape_of b)
step_of quote false b =
    if b == quote then steps.Closes
    else (if b == backslash then steps.Escapes
    else (if is_quotable b then steps.Means b
    else steps.Fails))

-- a byte before the text that is read, whose length stays
abbrev pub put_byte : ℕ → Read (List ℕ × ℕ) → Read (List ℕ × ℕ)
put_byte c read = read >>= λ p. Ok (c ∷ p.0, p.1)

-- a byte is alone or after a `\`
abbrev pub width : Bool → ℕ
width true = 2
width false = 1

-- how a step goes on
abbrev pub go_on : (Bool → ℕ → Read (List ℕ × ℕ)) → ℕ → Bool → ℕ → QuoteStep → Read (List ℕ × ℕ)
go_on more offset escaped n steps.Closes = Ok ([], n + 1)
go_on more offset escaped n steps.Escapes = more true n
go_on more offset escaped n (steps.Means c) = put_byte c (more false (n + width escaped))
go_on more offset escaped n steps.Fails = Err (UnexpectedByte, offset + n)

-- the bytes up to the closing quote, and the length with it, where n bytes of the text at the offset are read
unfoldable pub closing : ℕ → ℕ → List ℕ → Bool → ℕ → Read (List ℕ × ℕ)
closing quote offset [] escaped n = Err (Unfinished, offset)
closing quote offset (b ∷ bs) escaped n = go_on (closing quote offset bs) offset escaped n (step_of quote escaped b)

-- the bytes in the quotes at the front, and the length with both quotes
abbrev pub quoted : ℕ → List ℕ → Read (List ℕ × ℕ)
quoted offset bytes = closing (slice_index bytes 0) offset (drop 1 bytes) false 1

-- the character that an escape stands for
abbrev pub escaped_character : ℕ → Option ℕ → Read (ℕ × ℕ)
escaped_character offset (Some c) = Ok (c, 3)
escaped_character offset None = Err (UnexpectedByte, offset + 1)

-- the character after a `\`
abbrev pub after_backslash : ℕ → List ℕ → Read (ℕ × ℕ)
after_backslash offset [] = Err (Unfinished, offset)
after_backslash offset (e ∷ rest) = escaped_character offset (escape_of e)

-- the character after a `$`
abbrev pub after_dollar : ℕ → List ℕ → Read (ℕ × ℕ)
after_dollar offset [] = Err (Unfinished, offset)
after_dollar offset (c ∷ rest) =
    if c == backslash then after_backslash offset rest
    else (if is_visible c then Ok (c, 2)
    else Err (UnexpectedByte, offset + 1))

-- the character at the front, and its length with the `$`
abbrev pub character : ℕ → List ℕ → Read (ℕ × ℕ)
character offset bytes = after_dollar offset (drop 1 bytes)

-- a token of that length
abbrev pub token : TokenKind → ℕ → Cut
token kind n = (Some kind, n)

-- a value, or a fault here
abbrev pub or_fault : {A : Type 0} → Code → ℕ → (A → Cut) → Option A → Read Cut
or_fault fault offset make (Some x) = Ok (make x)
or_fault fault offset make None = Err (fault, offset)

-- the digits at the front
abbrev pub number_at : ℕ → List ℕ → Read Cut
number_at offset bytes =
    let n = prefix_len is_digit bytes in
    or_fault IntegerTooLarge offset (λ value. token (kinds.integer value) n) (checked (decimal (take n bytes)))

-- a word is an atom unless it is reserved
abbrev pub atom_unless : List ℕ → Option Reserved → TokenKind
atom_unless word (Some r) = kinds.reserved r
atom_unless word None = kinds.atom word

-- a word stands for a reserved word or an atom
abbrev pub word_kind : List ℕ → TokenKind
word_kind word = atom_unless word (reserved_of word)

-- the word at the front
abbrev pub word_at : List ℕ → Read Cut
word_at bytes = Ok (token (word_kind (take (prefix_len is_word_byte bytes) bytes)) (prefix_len is_word_byte bytes))

-- `_` alone is the anonymous variable
abbrev pub variable_kind : List ℕ → TokenKind
variable_kind name = if bytes_eq name (codes "_") then kinds.anonymous else kinds.variable name

-- the variable at the front
abbrev pub variable_at : List ℕ → Read Cut
variable_at bytes = Ok (token (variable_kind (take (prefix_len is_word_byte bytes) bytes))
    (prefix_len is_word_byte bytes))

-- the character at the front, as an integer
abbrev pub character_at : ℕ → List ℕ → Read Cut
character_at offset bytes = character offset bytes >>= λ p. Ok (token (kinds.integer p.0) p.1)

-- the quoted atom at the front
abbrev pub atom_at : ℕ → List ℕ → Read Cut
atom_at offset bytes = quoted offset bytes >>= λ p. Ok (token (kinds.atom p.0) p.1)

-- the string at the front
abbrev pub text_at : ℕ → List ℕ → Read Cut
text_at offset bytes = quoted offset bytes >>= λ p. Ok (token (kinds.text p.0) p.1)

-- `?MODULE` at the front, with no byte of a word after it
abbrev pub module_at : ℕ → List ℕ → Read Cut
module_at offset bytes =
    if starts_with nat_eq bytes (codes "?MODULE") && ends is_word_byte (drop 7 bytes)
    then Ok (token kinds.own_module 7) else Err (UnexpectedByte, offset)

-- the dot at the front, with a blank, a comment or nothing after it
abbrev pub dot_at : ℕ → List ℕ → Read Cut
dot_at offset bytes = if ends is_joined (drop 1 bytes) then Ok (token kinds.dot 1) else Err (UnexpectedByte, offset)

-- the longest mark at the front
abbrev pub mark_at : ℕ → List ℕ → Read Cut
mark_at offset bytes = or_fault UnexpectedByte offset (λ m. token (kinds.mark m) (length (mark_text m)))
    (longest_mark bytes)

-- the piece at the front, whose first byte has this class
abbrev pub piece_of : Class → ℕ → List ℕ → Read Cut
piece_of classes.Blank offset bytes = Ok (None, 1)
piece_of classes.Percent offset bytes = Ok (None, prefix_len is_comment bytes)
piece_of classes.Digit offset bytes = number_at offset bytes
piece_of classes.Lower offset bytes = word_at bytes
piece_of classes.Upper offset bytes = variable_at bytes
piece_of classes.Dollar offset bytes = character_at offset bytes
piece_of classes.Quote offset bytes = atom_at offset bytes
piece_of classes.DoubleQuote offset bytes = text_at offset bytes
piece_of classes.Question offset bytes = module_at offset bytes
piece_of classes.Dot offset bytes = dot_at offset bytes
piece_of classes.Other offset bytes = mark_at offset bytes

-- the piece at the front
unfoldable pub piece_at : ℕ → List ℕ → Read Cut
piece_at offset bytes = piece_of (class_of (slice_index bytes 0)) offset bytes

-- a piece, and then what is left
abbrev pub scan_step : (ℕ → List ℕ → Read (List PlacedToken)) → ℕ → List ℕ → Read (List PlacedToken)
scan_step more offset [] = Ok []
scan_step more offset (b ∷ bs) =
    piece_at offset (b ∷ bs) >>= λ p. more (offset + p.1) (drop p.1 (b ∷ bs)) >>= λ ts.
    Ok (put_first p.0 offset (offset + p.1) ts)

-- the tokens from an offset on, of at most n pieces
unfoldable pub scan : ℕ → ℕ → List ℕ → Read (List PlacedToken)
scan zero offset bytes = Ok []
scan (suc n) offset bytes = scan_step (scan n) offset bytes

-- the tokens of a text, unless it is too long
abbrev pub tokens : List ℕ → Read (List PlacedToken)
tokens bytes = if nat_le (length bytes) MOST_SOURCE_BYTES then scan (length bytes) 0 bytes else Err (SourceTooLong, 0)
