-- What is written by the rules is read so.
use Rattle.std.proofs.Common.{◌≡◌, ◌≢◌, inl, inr, ℕ, suc, ◌+◌, ◌<◌, ◌≤◌, ◌^◌, Bool, true, false, cond, List, [], ◌∷◌}
use Rattle.std.proofs.Common.{◌++◌, length, take, drop, Option, Some, None, Ok, Err, refl, sym, ap, ◌∙◌, append_assoc}
use Rattle.std.proofs.Common.{length-append, arith}
use Rattle.std.specs.Prelude.{slice_index, codes, nat_eq}
use Rattle.std.specs.List.{prefix_len, starts_with}
use Rattle.std.specs.Str.{bytes_eq}
use Rattle.std.proofs.lemmas.Bool.{lt-ltb, le-ltb}
use Rattle.std.proofs.lemmas.List.{take_at, append-nil}
use Rattle.std.proofs.lemmas.Slice.Eq.{bytes_eq-Decides}
use Rattle.pf_tokens.specs.declared.bytes.Class.{Class}
use Rattle.pf_tokens.specs.declared.bytes.Class.TheVariants as classes
use Rattle.pf_errors.specs.declared.code.Code.TheVariants.{UnexpectedByte, IntegerTooLarge}
use Rattle.pf_tokens.specs.declared.marks.TokenMark.{TokenMark}
use Rattle.pf_tokens.specs.declared.words.Reserved.{Reserved}
use Rattle.pf_tokens.specs.Bytes.{is_digit, is_lower, is_upper, is_word_byte, is_comment, class_of}
use Rattle.pf_tokens.specs.TokenKinds.{TokenKind, decimal, mark_text, marks, longest_mark, reserved_text, reserved_of}
use Rattle.pf_tokens.specs.TokenKinds.{reserved_words}
use Rattle.pf_tokens.specs.TokenKinds as kinds
use Rattle.pf_tokens.specs.Scan.{closing, atom_unless, number_at, word_at, variable_at, mark_at, piece_of, piece_at}
use Rattle.pf_tokens.specs.Scan.{or_fault, token}
use Rattle.pf_tokens.specs.Rules.{IsRun, IsNumeral, IsName, IsPiece, IsLongestMark, WritesAll}
use Rattle.pf_tokens.proofs.Runs.{prefix_len-run}
use Rattle.pf_tokens.proofs.Tables.{find_passes, find_some, find_largest, begins, begins_again}
use Rattle.pf_tokens.proofs.Classes.{blank_class, digit_class, lower_class, upper_class}
use Rattle.pf_tokens.proofs.Written.{mark_found, mark_class, one_mark, reserved_found}
use Rattle.pf_tokens.proofs.Quotes.{with_front}
use Rattle.pf_tokens.proofs.Skips.{IsQuoteMark, closing_skips, closing_closes, character_again}
use Rattle.pf_errors.proofs.Bools.{both}

-- the piece of a text is that of its class
pub piece_is : (offset : ℕ) (text : List ℕ) (k : Class) → class_of (slice_index text 0) ≡ k
    → piece_at offset text ≡ piece_of k offset text
unfolding piece_at
piece_is offset text k e = rw e refl

-- what the front of a text is
front : (text bytes rest : List ℕ) → text ≡ bytes ++ rest → take (length bytes) text ≡ bytes
front text bytes rest whole = ap (take (length bytes)) whole ∙ take_at bytes rest (length bytes) refl

run_length : (test : ℕ → Bool) (text bytes rest : List ℕ) → text ≡ bytes ++ rest → IsRun test bytes rest
    → prefix_len test text ≡ length bytes
run_length test text bytes rest whole run = ap (prefix_len test) whole ∙ prefix_len-run test bytes rest run

-- ---- numerals

numeral_class : (value : ℕ) (bytes rest : List ℕ) → IsNumeral value bytes rest
    → class_of (slice_index (bytes ++ rest) 0) ≡ classes.Digit
numeral_class value [] rest h = let some = h.some in absurd (omega arith)
numeral_class value (b ∷ bs) rest h = digit_class b (both _ _ h.digits.each).0

number_again : (offset value : ℕ) (text bytes rest : List ℕ) → text ≡ bytes ++ rest → IsNumeral value bytes rest
    → value < 2 ^ 63 → number_at offset text ≡ Ok (Some (kinds.integer value), length bytes)
number_again offset value text bytes rest whole h lt =
    rw (
      run_length is_digit text bytes rest whole h.digits,
      front text bytes rest whole,
      ← h.value_is,
      lt-ltb value (2 ^ 63) lt,
    ) refl

number_large : (offset value : ℕ) (text bytes rest : List ℕ) → text ≡ bytes ++ rest → IsNumeral value bytes rest
    → 2 ^ 63 ≤ value → number_at offset text ≡ Err (IntegerTooLarge, offset)
number_large offset value text bytes rest whole h le =
    rw (
      run_length is_digit text bytes rest whole h.digits,
      front text bytes rest whole,
      ← h.value_is,
      le-ltb value (2 ^ 63) le,
    ) refl

pub numeral_again : (offset value : ℕ) (bytes rest : List ℕ) → IsNumeral value bytes rest → value < 2 ^ 63
    → piece_at offset (bytes ++ rest) ≡ Ok (Some (kinds.integer value), length bytes)
numeral_again offset value bytes rest h lt = piece_is offset (bytes ++ rest) classes.Digit
    (numeral_class value bytes rest h) ∙ number_again offset value (bytes ++ rest) bytes rest refl h lt

pub numeral_fails : (offset value : ℕ) (bytes rest : List ℕ) → IsNumeral value bytes rest → 2 ^ 63 ≤ value
    → piece_at offset (bytes ++ rest) ≡ Err (IntegerTooLarge, offset)
numeral_fails offset value bytes rest h le = piece_is offset (bytes ++ rest) classes.Digit
    (numeral_class value bytes rest h) ∙ number_large offset value (bytes ++ rest) bytes rest refl h le

-- ---- names

name_begins : (test : ℕ → Bool) (bytes rest : List ℕ) → IsName test bytes rest
    → test (slice_index (bytes ++ rest) 0) ≡ true
name_begins test [] rest h = absurd h
name_begins test (b ∷ bs) rest h = h.0

name_run : (test : ℕ → Bool) (bytes rest : List ℕ) → IsName test bytes rest → IsRun is_word_byte bytes rest
name_run test [] rest h = absurd h
name_run test (b ∷ bs) rest h = h.1

unreserved : (bytes : List ℕ) → ((r : Reserved) → bytes ≢ reserved_text r) → reserved_of bytes ≡ None
unreserved bytes h = by (reserved_of bytes) refl
  where
    by : (o : Option Reserved) → reserved_of bytes ≡ o → reserved_of bytes ≡ None
    by None e = e
    by (Some r) e =
        absurd
        (h r (sym ((bytes_eq-Decides (reserved_text r) bytes).0
        (find_passes (λ w. bytes_eq (reserved_text w) bytes) reserved_words r e))))

word_again : (text bytes rest : List ℕ) (o : Option Reserved) → text ≡ bytes ++ rest → IsName is_lower bytes rest
    → reserved_of bytes ≡ o → word_at text ≡ Ok (Some (atom_unless bytes o), length bytes)
word_again text bytes rest o whole h e = rw (
  run_length is_word_byte text bytes rest whole
      (name_run is_lower bytes rest h),
  front text bytes rest whole,
  e,
) refl

pub lower_again : (offset : ℕ) (bytes rest : List ℕ) (o : Option Reserved) → IsName is_lower bytes rest
    → reserved_of bytes ≡ o → piece_at offset (bytes ++ rest) ≡ Ok (Some (atom_unless bytes o), length bytes)
lower_again offset bytes rest o h e = piece_is offset (bytes ++ rest) classes.Lower
    (lower_class (slice_index (bytes ++ rest) 0) (name_begins is_lower bytes rest h)) ∙ word_again (bytes ++ rest) bytes
    rest o refl h e

underscore : (bytes : List ℕ) → bytes ≢ codes "_" → bytes_eq bytes (codes "_") ≡ false
underscore bytes h = by (bytes_eq bytes (codes "_")) refl
  where
    by : (t : Bool) → bytes_eq bytes (codes "_") ≡ t → bytes_eq bytes (codes "_") ≡ false
    by true e = absurd (h ((bytes_eq-Decides bytes (codes "_")).0 e))
    by false e = e

variable_at_again : (text bytes rest : List ℕ) (t : Bool) → text ≡ bytes ++ rest → IsName is_upper bytes rest
    → bytes_eq bytes (codes "_") ≡ t → variable_at text
    ≡ Ok (Some (cond t kinds.anonymous (kinds.variable bytes)), length bytes)
variable_at_again text bytes rest t whole h e =
    rw (
      run_length is_word_byte text bytes rest whole (name_run is_upper bytes rest h),
      front text bytes rest whole,
      e,
    ) refl

pub upper_again : (offset : ℕ) (bytes rest : List ℕ) (t : Bool) → IsName is_upper bytes rest
    → bytes_eq bytes (codes "_") ≡ t → piece_at offset (bytes ++ rest)
    ≡ Ok (Some (cond t kinds.anonymous (kinds.variable bytes)), length bytes)
upper_again offset bytes rest t h e = piece_is offset (bytes ++ rest) classes.Upper
    (upper_class (slice_index (bytes ++ rest) 0) (name_begins is_upper bytes rest h)) ∙ variable_at_again
    (bytes ++ rest) bytes rest t refl h e

-- ---- quoted texts and characters

quoted_end : (quote : ℕ) (body : List ℕ) → 1 + length body + 1 ≡ suc (length (body ++ quote ∷ []))
quoted_end quote body = omega (arith, length-append body (quote ∷ []))

pub quoted_again : (quote offset : ℕ) (meant body rest : List ℕ) → IsQuoteMark quote → WritesAll quote meant body
    → closing quote offset ((body ++ quote ∷ []) ++ rest) false 1 ≡ Ok (meant, suc (length (body ++ quote ∷ [])))
quoted_again quote offset meant body rest mark writes =
    let regrouped : (body ++ quote ∷ []) ++ rest ≡ body ++ (quote ∷ rest) = append_assoc body (quote ∷ []) rest in
    ap (λ t. closing quote offset t false 1) regrouped ∙ closing_skips quote offset meant body
    (quote ∷ rest) 1 mark writes
    ∙ ap (with_front meant) (closing_closes quote offset (1 + length body) rest)
    ∙ rw (append-nil, quoted_end quote body) refl

-- ---- marks

mark_again : (m : TokenMark) (bytes rest : List ℕ) → IsLongestMark m bytes rest → longest_mark (bytes ++ rest) ≡ Some m
mark_again m bytes rest h =
    let text : List ℕ = bytes ++ rest in
    let p : TokenMark → Bool = λ x. starts_with nat_eq text (mark_text x) in
    let q : TokenMark → Bool = λ x. bytes_eq (mark_text x) (mark_text m) in
    let is_there : p m ≡ true = rw h.written (begins_again (mark_text m) rest) in
    let found = find_some p q marks m (mark_found m) is_there in
    let larger = find_largest (λ x. length (mark_text x)) p q marks found.0 m refl found.1 (mark_found m) is_there in
    let whole = begins text (mark_text found.0) (find_passes p marks found.0 found.1) in
    let smaller = h.longest found.0 (drop (length (mark_text found.0)) text) whole in
    let long : length (mark_text found.0) ≡ length bytes = omega (arith, larger, smaller, ap length h.written) in
    let same : mark_text found.0 ≡ mark_text m =
    sym (front text (mark_text found.0) (drop (length (mark_text found.0)) text) whole) ∙ ap (λ k. take k text) long
    ∙ front text bytes rest refl ∙ h.written in
    found.1 ∙ ap Some (one_mark found.0 m same)

longest_again : (offset : ℕ) (m : TokenMark) (bytes rest : List ℕ) → IsLongestMark m bytes rest
    → mark_at offset (bytes ++ rest) ≡ Ok (Some (kinds.mark m), length bytes)
longest_again offset m bytes rest h =
    ap (or_fault UnexpectedByte offset (λ x. token (kinds.mark x) (length (mark_text x)))) (mark_again m bytes rest h)
    ∙ ap (λ n. Ok (Some (kinds.mark m), n)) (ap length (sym h.written))

-- ---- pieces

-- a piece that is written is read
pub piece_again : (offset : ℕ) (kind : Option TokenKind) (bytes rest : List ℕ) → IsPiece kind bytes rest
    → piece_at offset (bytes ++ rest) ≡ Ok (kind, length bytes)
piece_again offset None bytes rest (inl (b, e, is)) =
    piece_is offset (bytes ++ rest) classes.Blank (rw is (blank_class b e)) ∙ rw is refl
piece_again offset None bytes rest (inr (words, is, run)) =
    piece_is offset (bytes ++ rest) classes.Percent (rw is refl) ∙ rw (is, prefix_len-run is_comment words rest run)
    (ap (λ n. Ok (None, n)) (omega arith))
piece_again offset (Some (kinds.integer value)) bytes rest (inl (h, lt)) = numeral_again offset value bytes rest h lt
piece_again offset (Some (kinds.integer value)) bytes rest (inr (one, writes, is)) =
    piece_is offset (bytes ++ rest) classes.Dollar (rw is refl)
    ∙ rw (is, character_again offset value one rest writes) refl
piece_again offset (Some (kinds.atom name)) bytes rest (inl (h, is, free)) =
    lower_again offset bytes rest None h (unreserved bytes free) ∙ rw is refl
piece_again offset (Some (kinds.atom name)) bytes rest (inr (body, writes, is)) =
    piece_is offset (bytes ++ rest) classes.Quote (rw is refl)
    ∙ rw (is, quoted_again 39 offset name body rest (refl, refl) writes) refl
piece_again offset (Some (kinds.variable name)) bytes rest (h, is, free) =
    upper_again offset bytes rest false h (underscore bytes free) ∙ rw is refl
piece_again offset (Some kinds.anonymous) bytes rest (h, is) =
    upper_again offset bytes rest true h (rw is refl)
piece_again offset (Some (kinds.text meant)) bytes rest (body, writes, is) =
    piece_is offset (bytes ++ rest) classes.DoubleQuote (rw is refl)
    ∙ rw (is, quoted_again 34 offset meant body rest (refl, refl) writes) refl
piece_again offset (Some kinds.own_module) bytes rest (is, e) =
    piece_is offset (bytes ++ rest) classes.Question (rw is refl) ∙ rw (is, e) refl
piece_again offset (Some kinds.dot) bytes rest (is, e) =
    piece_is offset (bytes ++ rest) classes.Dot (rw is refl) ∙ rw (is, e) refl
piece_again offset (Some (kinds.mark m)) bytes rest h =
    piece_is offset (bytes ++ rest) classes.Other (rw h.written (mark_class m rest))
    ∙ longest_again offset m bytes rest h
piece_again offset (Some (kinds.reserved r)) bytes rest (h, is) =
    lower_again offset bytes rest (Some r) h (rw is (reserved_found r))
