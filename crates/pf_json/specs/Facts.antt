-- The facts that a line of text reports, and the parts of the shapes that lines have.
use Rattle.std.specs.Prelude.{ℕ, ◌+◌, ◌^◌, ◌==◌, nat_eq, nat_lt, nat_le, Bool, true, false, not, ◌&&◌, if◌then◌else◌}
use Rattle.std.specs.Prelude.{List, [], ◌∷◌, length, take, drop, Option, Some, None, option_map, option_and_then}
use Rattle.std.specs.Prelude.{unwrap_or, ◌||◌, codes}
use Rattle.std.specs.Str.{bytes_eq}
use Rattle.std.specs.List.{prefix_len, starts_with}
use Rattle.pf_tokens.specs.Bytes.{is_digit}
use Rattle.pf_text.specs.Numbers.{is_numeral, long_number_of}

-- a value is a number, a text, or whether something is so
pub data Value : Type 0 where
  number : ℕ → Value
  text : List ℕ → Value
  truth : Bool → Value

-- a fact has a key and a value
pub record Fact : Type 0 where
  pub key : List ℕ
  pub value : Value

abbrev pub fact : List ℕ → Value → Fact
fact key value = record { key = key; value = value }

-- ---- the values of texts

abbrev pub value_by_number : Option ℕ → List ℕ → Value
value_by_number None t = text t
value_by_number (Some n) t = if nat_lt n (2 ^ 53) then number n else text t

-- digits without a zero before others are a number, if it is below 9,007,199,254,740,992; else a text is itself
abbrev pub fact_value : List ℕ → Value
fact_value t = value_by_number (long_number_of t) t

abbrev pub is_no_blank : ℕ → Bool
is_no_blank b = not (b == 32)

abbrev pub said_by : (t : List ℕ) → (n : ℕ) → Fact
said_by t n = if n == length t then fact t (truth true) else fact (take n t) (fact_value (drop (n + 1) t))

-- `WORD REST` says REST of WORD, and a word alone that it is so
abbrev pub said : List ℕ → Fact
said t = said_by t (prefix_len is_no_blank t)

-- ---- shapes

-- a shape is made of parts, which come one after another and reach to the line's end
pub data ShapePart : Type 0 where
  -- these words
  words : List ℕ → ShapePart
  -- these words, or nothing
  maybe : List ℕ → ShapePart
  -- a number, reported under a key
  count : (key : List ℕ) → ShapePart
  -- what is before the next blank, or the end
  word : (key : List ℕ) → ShapePart
  -- the code of a refusal: a capital letter and a number
  code : (key : List ℕ) → ShapePart
  -- all the rest, as a text
  rest : (key : List ℕ) → ShapePart
  -- all the rest, as a text, which is the name of a property or begins as a pattern that is never sent
  property : (key : List ℕ) → ShapePart
  -- all the rest, by the rule of words: a word alone, or one before the others
  says : ShapePart
  -- nothing, and yet this is reported
  reports : Fact → ShapePart

-- what follows words at the front of a text
abbrev pub after_words : (front t : List ℕ) → Option (List ℕ)
after_words front t = if starts_with nat_eq t front then Some (drop (length front) t) else None

-- what follows the first n bytes, with a fact of these if they are right
abbrev pub reported_if : Bool → Value → (key t : List ℕ) → (n : ℕ) → Option (List ℕ × Option Fact)
reported_if true value key t n = Some (drop n t, Some (fact key value))
reported_if false value key t n = None

abbrev pub is_capital : ℕ → Bool
is_capital b = nat_le 65 b && nat_le b 90

abbrev pub is_code : List ℕ → Bool
is_code [] = false
is_code (b ∷ bs) = is_capital b && is_numeral bs

abbrev pub counted_fact : (key t : List ℕ) → (n : ℕ) → Option (List ℕ × Option Fact)
counted_fact key t n = reported_if (is_numeral (take n t)) (fact_value (take n t)) key t n

abbrev pub word_fact : (key t : List ℕ) → (n : ℕ) → Option (List ℕ × Option Fact)
word_fact key t n = reported_if (nat_lt 0 n) (text (take n t)) key t n

abbrev pub coded : (key t : List ℕ) → (n : ℕ) → Option (List ℕ × Option Fact)
coded key t n = reported_if (is_code (take n t)) (text (take n t)) key t n

abbrev pub is_property : List ℕ → Bool
is_property t =
    bytes_eq t (codes "returns") || (bytes_eq t (codes "true") || (bytes_eq t (codes "nocrash")
    || (bytes_eq t (codes "nodeadlock") || (bytes_eq t (codes "withinlimit")
    || starts_with nat_eq t (codes "never:")))))

-- what follows a part at the front of a text, and what the part reports; nothing if it isn't there
abbrev pub part_step : ShapePart → List ℕ → Option (List ℕ × Option Fact)
part_step (words w) t = option_map (λ following. (following, None)) (after_words w t)
part_step (maybe w) t = Some (unwrap_or (after_words w t) t, None)
part_step (count key) t = counted_fact key t (prefix_len is_digit t)
part_step (word key) t = word_fact key t (prefix_len is_no_blank t)
part_step (code key) t = coded key t (1 + prefix_len is_digit (drop 1 t))
part_step (rest key) t = Some ([], Some (fact key (text t)))
part_step (property key) t = if is_property t then Some ([], Some (fact key (text t))) else None
part_step says t = Some ([], Some (said t))
part_step (reports f) t = Some (t, Some f)

abbrev pub with_fact : Option Fact → List Fact → List Fact
with_fact None fs = fs
with_fact (Some f) fs = f ∷ fs

abbrev pub none_at_end : List ℕ → Option (List Fact)
none_at_end [] = Some []
none_at_end (b ∷ bs) = None

-- the facts of a line that has this shape
abbrev pub facts_by : List ShapePart → List ℕ → Option (List Fact)
facts_by [] t = none_at_end t
facts_by (p ∷ ps) t = option_and_then (λ s. option_map (with_fact s.1) (facts_by ps s.0)) (part_step p t)

abbrev pub or_else : {T : Type 0} → Option T → Option T → Option T
or_else None other = other
or_else (Some x) other = Some x

-- the facts of a line by the first of these shapes that it has
unfoldable pub facts_by_first : List (List ShapePart) → List ℕ → Option (List Fact)
facts_by_first [] t = None
facts_by_first (s ∷ ss) t = or_else (facts_by s t) (facts_by_first ss t)
