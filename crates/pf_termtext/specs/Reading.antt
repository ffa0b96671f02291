-- The value at the front of a text, read from left to right.
use Rattle.std.specs.Prelude.{◌≡◌, ℕ, zero, suc, ◌^◌, ℤ, pos, negsuc, Bool, true, false, ◌==◌, ◌&&◌, ◌||◌, not, nat_lt}
use Rattle.std.specs.Prelude.{nat_le, if◌then◌else◌, List, [], ◌∷◌, take, drop, Option, Some, None, option_map}
use Rattle.std.specs.Prelude.{option_and_then, Result, Ok, Err}
use Rattle.std.specs.List.{prefix_len}
use Rattle.std.specs.Str.{bytes_eq}
use Rattle.pf_errors.specs.declared.fault.OrNoMemory.{OrNoMemory}
use Rattle.pf_errors.specs.declared.fault.OrNoMemory.TheVariants.{NoMemory, Fault}
use Rattle.pf_terms.specs.declared.limits.TheConstants.{MOST_DEPTH, MOST_NODES}
use Rattle.pf_terms.specs.Value.{Value, Values, int, atom, tuple, list, none, more, nodes, depth}
use Rattle.pf_tokens.specs.Bytes.{is_digit, is_word_byte, single_quote, backslash}
use Rattle.pf_tokens.specs.TokenKinds.{decimal}
use Rattle.pf_model.specs.TermText.{is_plain_name}
use Rattle.pf_text.specs.Numbers.{is_numeral}
use Rattle.pf_termtext.specs.declared.fault.NoTerm.{NoTerm}

-- what is at the front of a text, and the bytes after it
abbrev pub TextFront : Type 0 → Type 0
TextFront X = Option (X × List ℕ)

infixl 10 ◌>>=◌
abbrev pub ◌>>=◌ : {A B : Type 0} → Option A → (A → Option B) → Option B
o >>= f = option_and_then f o

-- out of memory says nothing of the text, and a fault says that nothing is read
abbrev pub Fails : {Y : Type 0} → OrNoMemory NoTerm → Option Y → Type 0
Fails NoMemory read = Unit {0}
Fails (Fault e) read = read ≡ None

-- a result, seen by a view, is what is read, unless memory ran out
abbrev pub Gives : {X Y : Type 0} → (X → Y) → Result X (OrNoMemory NoTerm) → Option Y → Type 0
Gives view (Ok x) read = read ≡ Some (view x)
Gives view (Err e) read = Fails e read

-- the bytes after this byte, where it is at the front
abbrev pub after_byte : ℕ → List ℕ → Option (List ℕ)
after_byte b [] = None
after_byte b (c ∷ text) = if c == b then Some text else None

-- what is made of a value, before the same bytes
abbrev pub with_value_before : {X Y : Type 0} → List ℕ → (X → Y) → Option X → TextFront Y
with_value_before rest make x = option_map (λ y. (make y, rest)) x

-- a name or digits go on as long as bytes of words do
abbrev pub word_bytes : List ℕ → List ℕ
word_bytes text = take (prefix_len is_word_byte text) text

abbrev pub after_word : List ℕ → List ℕ
after_word text = drop (prefix_len is_word_byte text) text

-- an integer has 64 bits, and zero has no sign
abbrev pub signed : Bool → ℕ → Option ℤ
signed false n = if nat_lt n (2 ^ 63) then Some (pos n) else None
signed true zero = None
signed true (suc n) = if nat_lt n (2 ^ 63) then Some (negsuc n) else None

-- the integer that digits are, with a minus sign or without
abbrev pub integer_of_digits : Bool → List ℕ → Option ℤ
integer_of_digits minus digits = if is_numeral digits then signed minus (decimal digits) else None

-- the integer whose digits are at the front
abbrev pub integer_at : Bool → List ℕ → TextFront Value
integer_at minus text = with_value_before (after_word text) int (integer_of_digits minus (word_bytes text))

-- the atom of this name, which is the first that has it
abbrev pub atom_of : List (List ℕ) → List ℕ → Option ℕ
atom_of [] name = None
atom_of (n ∷ names) name = if bytes_eq name n then Some 0 else option_map suc (atom_of names name)

-- the atom whose name is at the front as it is
abbrev pub plain_at : List (List ℕ) → List ℕ → TextFront Value
plain_at names text =
    if is_plain_name (word_bytes text) then with_value_before (after_word text) atom (atom_of names (word_bytes text))
    else None

-- the byte that a letter stands for after `\`
abbrev pub escaped_byte : ℕ → Option ℕ
escaped_byte letter =
    if letter == 110 then Some 10
    else (if letter == 116 then Some 9
    else (if letter == backslash || letter == single_quote then Some letter
    else None))

-- a byte that stands for itself in quotes: neither the quote nor one that is escaped
abbrev pub is_alone : ℕ → Bool
is_alone b = not (b == single_quote || b == backslash || b == 10 || b == 9)

-- the byte that is written after `\`
abbrev pub escaped_at : List ℕ → TextFront ℕ
escaped_at [] = None
escaped_at (letter ∷ text) = option_map (λ b. (b, text)) (escaped_byte letter)

-- the byte that is written at the front, in quotes
abbrev pub written_byte : List ℕ → TextFront ℕ
written_byte [] = None
written_byte (b ∷ text) =
    if b == backslash then escaped_at text
    else (if is_alone b then Some (b, text) else None)

-- a byte before what is read
abbrev pub put_byte : ℕ → TextFront (List ℕ) → TextFront (List ℕ)
put_byte b read = option_map (λ p. (b ∷ p.0, p.1)) read

-- the name that is written up to the closing quote; its first byte may come after `\`
unfoldable pub name_at : Bool → List ℕ → TextFront (List ℕ)
name_at is_escaped [] = None
name_at true (b ∷ text) = escaped_byte b >>= λ c. put_byte c (name_at false text)
name_at false (b ∷ text) =
    if b == single_quote then Some ([], text)
    else (if b == backslash then name_at true text
    else (if is_alone b then put_byte b (name_at false text)
    else None))

-- the atom whose name is in quotes at the front, the first of which is read; a plain name has none
abbrev pub quoted_at : List (List ℕ) → List ℕ → TextFront Value
quoted_at names text =
    name_at false text >>= λ p. if is_plain_name p.0 then None else with_value_before p.1 atom (atom_of names p.0)

-- the values in turn as elements
abbrev pub elements : List Value → Values
elements [] = none
elements (v ∷ vs) = more v (elements vs)

-- the value, where it is within the limits
abbrev pub bounded : Value → Option Value
bounded v = if nat_le (nodes v) MOST_NODES && nat_le (depth v) MOST_DEPTH then Some v else None

-- how the elements at the front are read
abbrev pub ElementsReader : Type 0
ElementsReader = ℕ → List ℕ → TextFront (List Value)

-- after an element come a comma and the next one, or they end there
abbrev pub next_items : (List ℕ → TextFront (List Value)) → Value → List ℕ → Option (List ℕ) → TextFront (List Value)
next_items others v rest None = Some (v ∷ [], rest)
next_items others v rest (Some text) = option_map (λ p. (v ∷ p.0, p.1)) (others text)

-- one element or several with commas between them, at most n
unfoldable pub items_at : (List ℕ → TextFront Value) → ℕ → List ℕ → TextFront (List Value)
items_at read zero text = None
items_at read (suc n) text = read text >>= λ p. next_items (items_at read n) p.0 p.1 (after_byte 44 p.1)

-- no elements, where their end comes at once, or some before their end
abbrev pub elements_by : (List ℕ → TextFront (List Value)) → ℕ → List ℕ → Option (List ℕ) → TextFront (List Value)
elements_by items close text (Some rest) = Some ([], rest)
elements_by items close text None = items text >>= λ p. option_map (λ rest. (p.0, rest)) (after_byte close p.1)

-- the elements up to their end
abbrev pub elements_at : (List ℕ → TextFront Value) → ElementsReader
elements_at read close text = elements_by (items_at read MOST_NODES) close text (after_byte close text)

-- the tuple whose elements are at the front, after its brace
abbrev pub tuple_at : ElementsReader → List ℕ → TextFront Value
tuple_at items text = items 125 text >>= λ p. with_value_before p.1 (λ v. v) (bounded (tuple (elements p.0)))

-- the list whose elements are at the front, after its bracket
abbrev pub list_at : ElementsReader → List ℕ → TextFront Value
list_at items text = items 93 text >>= λ p. with_value_before p.1 (λ v. v) (bounded (list (elements p.0)))

-- the value that begins with such a byte
abbrev pub value_by : ElementsReader → List (List ℕ) → List ℕ → TextFront Value
value_by items names [] = None
value_by items names (b ∷ text) =
    if b == 123 then tuple_at items text
    else (if b == 91 then list_at items text
    else (if b == single_quote then quoted_at names text
    else (if b == 45 then integer_at true text
    else (if is_digit b then integer_at false (b ∷ text)
    else plain_at names (b ∷ text)))))

-- the value at the front of a text, at most so deep
unfoldable pub value_at : List (List ℕ) → ℕ → List ℕ → TextFront Value
value_at names zero text = None
value_at names (suc room) text = value_by (elements_at (value_at names room)) names text

-- the value, where nothing follows it
abbrev pub value_alone : Value → List ℕ → Option Value
value_alone v [] = Some v
value_alone v (b ∷ rest) = None

-- the value whose text this is
abbrev pub value_of_text : List (List ℕ) → List ℕ → Option Value
value_of_text names text = value_at names MOST_DEPTH text >>= λ p. value_alone p.0 p.1
