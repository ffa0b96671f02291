-- Classes of bytes.
use Rattle.std.specs.Prelude.{ℕ, Bool, true, List, [], ◌∷◌, ◌==◌, nat_le, ◌&&◌, ◌||◌, not, if◌then◌else◌, Option, Some}
use Rattle.std.specs.Prelude.{None}
use Rattle.pf_tokens.specs.declared.bytes.Class.{Class}
use Rattle.pf_tokens.specs.declared.bytes.Class.TheVariants as classes

-- `%`
abbrev pub percent : ℕ
percent = 37

-- `$`
abbrev pub dollar : ℕ
dollar = 36

-- `'`
abbrev pub single_quote : ℕ
single_quote = 39

-- `"`
abbrev pub double_quote : ℕ
double_quote = 34

-- `\`
abbrev pub backslash : ℕ
backslash = 92

-- a blank is a tabulator, a line end, a carriage return or a space
abbrev pub is_blank : ℕ → Bool
is_blank b = b == 9 || b == 10 || b == 13 || b == 32

-- a digit is from `0` to `9`
abbrev pub is_digit : ℕ → Bool
is_digit b = nat_le 48 b && nat_le b 57

-- a lower-case letter is from `a` to `z`
abbrev pub is_lower : ℕ → Bool
is_lower b = nat_le 97 b && nat_le b 122

-- a variable begins with a letter from `A` to `Z` or with `_`
abbrev pub is_upper : ℕ → Bool
is_upper b = nat_le 65 b && nat_le b 90 || b == 95

-- a word goes on with letters, digits, `_` and `@`
abbrev pub is_word_byte : ℕ → Bool
is_word_byte b = is_lower b || is_upper b || is_digit b || b == 64

-- a visible byte is from the space to `~`
abbrev pub is_visible : ℕ → Bool
is_visible b = nat_le 32 b && nat_le b 126

-- quotes may contain visible bytes, tabulators and line ends
abbrev pub is_quotable : ℕ → Bool
is_quotable b = is_visible b || b == 9 || b == 10

-- a comment goes on with every byte but the line end
abbrev pub is_comment : ℕ → Bool
is_comment b = not (b == 10)

-- a full stop before such a byte is no end of a form
abbrev pub is_joined : ℕ → Bool
is_joined b = not (is_blank b || b == percent)

-- the text is at its end, or goes on with a byte that fails the test
abbrev pub ends : (ℕ → Bool) → List ℕ → Bool
ends test [] = true
ends test (b ∷ rest) = not (test b)

-- after `\`, `n` stands for a line end, `t` for a tabulator, `s` for a space, and `\`, `'` and `"` for themselves
abbrev pub escape_of : ℕ → Option ℕ
escape_of b =
    if b == 110 then Some 10
    else (if b == 116 then Some 9
    else (if b == 115 then Some 32
    else (if b == backslash || b == single_quote || b == double_quote then Some b
    else None)))

-- what begins with a byte that is no blank, `%`, letter, digit or `_`
abbrev pub kind_class_of : ℕ → Class
kind_class_of b =
    if b == dollar then classes.Dollar
    else (if b == single_quote then classes.Quote
    else (if b == double_quote then classes.DoubleQuote
    else (if b == 63 then classes.Question
    else (if b == 46 then classes.Dot
    else classes.Other))))

-- what begins with a byte
abbrev pub class_of : ℕ → Class
class_of b =
    if is_blank b then classes.Blank
    else (if b == percent then classes.Percent
    else (if is_digit b then classes.Digit
    else (if is_lower b then classes.Lower
    else (if is_upper b then classes.Upper
    else kind_class_of b))))
