-- What is read of a text is written there by the rules.
use Rattle.std.proofs.Common.{◌≡◌, ◌⊎◌, inl, inr, ℕ, suc, ◌+◌, ◌<◌, ◌≤◌, ◌^◌, Bool, true, false, cond, ltb, ◌&&◌, List}
use Rattle.std.proofs.Common.{[], ◌∷◌, ◌++◌, length, take, drop, Option, Some, None, Ok, Err, refl, sym, ap, subst, ◌∙◌}
use Rattle.std.proofs.Common.{append_assoc, length-append, arith}
use Rattle.std.specs.Prelude.{codes, nat_eq}
use Rattle.std.specs.List.{prefix_len, starts_with}
use Rattle.std.specs.Str.{bytes_eq}
use Rattle.std.proofs.lemmas.Bool.{ltb-true, ltb-false}
use Rattle.std.proofs.lemmas.List.{take-append-drop, length-take}
use Rattle.std.proofs.lemmas.List.Sums.{prefix_len-le-length}
use Rattle.std.proofs.lemmas.Slice.Eq.{bytes_eq-Decides}
use Rattle.pf_tokens.specs.declared.bytes.Class.{Class}
use Rattle.pf_tokens.specs.declared.bytes.Class.TheVariants as classes
use Rattle.pf_errors.specs.declared.code.Code.TheVariants.{UnexpectedByte, Unfinished, IntegerTooLarge}
use Rattle.pf_tokens.specs.declared.marks.TokenMark.{TokenMark}
use Rattle.pf_tokens.specs.declared.words.Reserved.{Reserved}
use Rattle.pf_tokens.specs.Bytes.{is_digit, is_lower, is_upper, is_word_byte, is_comment, is_joined, ends, class_of}
use Rattle.pf_tokens.specs.TokenKinds.{TokenKind, decimal, checked, mark_text, marks, longest_mark, reserved_text}
use Rattle.pf_tokens.specs.TokenKinds.{reserved_of, reserved_words}
use Rattle.pf_tokens.specs.TokenKinds as kinds
use Rattle.pf_tokens.specs.Scan.{Read, Cut, ◌>>=◌, atom_unless, or_fault, token, number_at, word_at, variable_at}
use Rattle.pf_tokens.specs.Scan.{character_at, atom_at, text_at, module_at, dot_at, mark_at, piece_of, piece_at}
use Rattle.pf_tokens.specs.Scan.{closing, after_dollar}
use Rattle.pf_tokens.specs.Rules.{IsRun, IsNumeral, IsName, IsToken, IsPiece, IsQuoted, IsLongestMark, IsFault}
use Rattle.pf_tokens.specs.Rules.{is_opening, OpensQuoted}
use Rattle.pf_tokens.proofs.Runs.{run_front}
use Rattle.pf_tokens.proofs.Tables.{find_passes, find_fails, find_largest, begins, begins_again}
use Rattle.pf_tokens.proofs.Classes.{Shows, class_shows, lower_word, upper_word}
use Rattle.pf_tokens.proofs.Written.{mark_found, reserved_found}
use Rattle.pf_tokens.proofs.Closes.{Reads, ReadsOne, closing_reads, character_reads}
use Rattle.pf_tokens.proofs.Again.{piece_is, piece_again}

-- the text begins with a piece of that length
pub record Cuts (text : List ℕ) (kind : Option TokenKind) (n : ℕ) : Type 0 where
  pub bytes : List ℕ
  pub rest : List ℕ
  pub whole : text ≡ bytes ++ rest
  pub length_is : n ≡ length bytes
  pub piece : IsPiece kind bytes rest

-- a piece that is read is there, and so is a fault
abbrev pub Says : ℕ → List ℕ → Read Cut → Type 0
Says offset text (Ok p) = Cuts text p.0 p.1
Says offset text (Err e) = (n : ℕ) × (e.1 ≡ offset + n) × IsFault e.0 n text

-- the front of a text, cut after n bytes
cut : (text : List ℕ) (kind : Option TokenKind) (n : ℕ) → n ≤ length text → IsPiece kind (take n text) (drop n text)
    → Cuts text kind n
cut text kind n within piece = record {
  bytes = take n text;
  rest = drop n text;
  whole = sym (take-append-drop n text);
  length_is = omega (arith, length-take n text);
  piece = piece;
}

-- a text at which nothing is read begins with a stray byte
stray : (offset : ℕ) (b : ℕ) (bs : List ℕ) → is_opening b ≡ false
    → piece_at offset (b ∷ bs) ≡ Err (UnexpectedByte, offset) → Says offset (b ∷ bs) (Err (UnexpectedByte, offset))
stray offset b bs opens fails = (0, omega arith, inl ((opens, none), refl))
  where
    none : (kind : Option TokenKind) (bytes rest : List ℕ) → b ∷ bs ≡ bytes ++ rest → IsPiece kind bytes rest → ⊥
    none kind bytes rest is piece =
        let reads : piece_at offset (b ∷ bs) ≡ Ok (kind, length bytes) =
        ap (piece_at offset) is ∙ piece_again offset kind bytes rest piece in
        cc

-- ---- numerals

digit_run : (b : ℕ) (bs : List ℕ) → is_digit b ≡ true → 0 < length (take (prefix_len is_digit (b ∷ bs)) (b ∷ bs))
digit_run b bs e = rw e (let one : 1 + prefix_len is_digit bs ≡ suc (prefix_len is_digit bs) = omega arith in
    rw one (omega arith))

number_outcome : (offset : ℕ) (text : List ℕ) (value n : ℕ) (t : Bool) → ltb value (2 ^ 63) ≡ t → n ≤ length text
    → IsNumeral value (take n text) (drop n text)
    → Says offset text (or_fault IntegerTooLarge offset (λ v. token (kinds.integer v) n) (cond t (Some value) None))
number_outcome offset text value n true e within numeral = cut text (Some (kinds.integer value)) n within
    (inl (numeral, ltb-true value (2 ^ 63) e))
number_outcome offset text value n false e within numeral = (
  0,
  omega arith,
  (
    (
      value,
      take n text,
      drop n text,
      sym (take-append-drop n text),
      numeral,
      ltb-false value (2 ^ 63) e,
    ),
    refl,
  ),
)

number_says : (offset b : ℕ) (bs : List ℕ) → is_digit b ≡ true → Says offset (b ∷ bs) (number_at offset (b ∷ bs))
number_says offset b bs e = by (b ∷ bs) (digit_run b bs e)
  where
    by : (text : List ℕ) → 0 < length (take (prefix_len is_digit text) text) → Says offset text (number_at offset text)
    by text some =
        let n = prefix_len is_digit text in
        let numeral : IsNumeral (decimal (take n text)) (take n text) (drop n text) =
        record { some = some; digits = run_front is_digit text; value_is = refl } in
        number_outcome offset text (decimal (take n text)) n (ltb (decimal (take n text)) (2 ^ 63)) refl
        (prefix_len-le-length is_digit text) numeral

-- ---- names

name_front : (test : ℕ → Bool) (b : ℕ) (bs : List ℕ) → test b ≡ true → is_word_byte b ≡ true
    → IsName test (take (prefix_len is_word_byte (b ∷ bs)) (b ∷ bs)) (drop (prefix_len is_word_byte (b ∷ bs)) (b ∷ bs))
name_front test b bs e word =
    let long : prefix_len is_word_byte (b ∷ bs) ≡ suc (prefix_len is_word_byte bs) = rw word (omega arith) in
    let with_begin : IsRun is_word_byte (take (suc (prefix_len is_word_byte bs)) (b ∷ bs))
    (drop (suc (prefix_len is_word_byte bs)) (b ∷ bs))
    → IsName test (take (suc (prefix_len is_word_byte bs)) (b ∷ bs))
    (drop (suc (prefix_len is_word_byte bs)) (b ∷ bs)) = λ run. (e, run) in
    subst (λ (k : ℕ). IsRun is_word_byte (take k (b ∷ bs)) (drop k (b ∷ bs))
    → IsName test (take k (b ∷ bs)) (drop k (b ∷ bs))) (sym long) with_begin (run_front is_word_byte (b ∷ bs))

word_token : (word rest : List ℕ) (o : Option Reserved) → reserved_of word ≡ o → IsName is_lower word rest
    → IsToken (atom_unless word o) word rest
word_token word rest (Some r) e h = (
  h,
  sym ((bytes_eq-Decides (reserved_text r) word).0
      (find_passes (λ w. bytes_eq (reserved_text w) word) reserved_words r e)),
)
word_token word rest None e h = inl (
  h,
  refl,
  λ r is. find_fails (λ w. bytes_eq (reserved_text w) word)
      (λ w. bytes_eq (reserved_text w) (reserved_text r)) reserved_words r e (reserved_found r)
      ((bytes_eq-Decides (reserved_text r) word).1 (sym is)),
)

word_says : (offset b : ℕ) (bs : List ℕ) → is_lower b ≡ true → Says offset (b ∷ bs) (word_at (b ∷ bs))
word_says offset b bs e =
    let n = prefix_len is_word_byte (b ∷ bs) in
    cut (b ∷ bs) _ n (prefix_len-le-length is_word_byte (b ∷ bs))
    (word_token (take n (b ∷ bs)) (drop n (b ∷ bs)) (reserved_of (take n (b ∷ bs))) refl
    (name_front is_lower b bs e (lower_word b e)))

variable_token : (name rest : List ℕ) (t : Bool) → bytes_eq name (codes "_") ≡ t → IsName is_upper name rest
    → IsToken (cond t kinds.anonymous (kinds.variable name)) name rest
variable_token name rest true e h = (h, (bytes_eq-Decides name (codes "_")).0 e)
variable_token name rest false e h = (h, refl, λ is. let passes = (bytes_eq-Decides name (codes "_")).1 is in cc)

variable_says : (offset b : ℕ) (bs : List ℕ) → is_upper b ≡ true → Says offset (b ∷ bs) (variable_at (b ∷ bs))
variable_says offset b bs e =
    let n = prefix_len is_word_byte (b ∷ bs) in
    cut (b ∷ bs) _ n (prefix_len-le-length is_word_byte (b ∷ bs))
    (variable_token (take n (b ∷ bs)) (drop n (b ∷ bs)) (bytes_eq (take n (b ∷ bs)) (codes "_")) refl
    (name_front is_upper b bs e (upper_word b e)))

-- ---- quoted texts and characters

quoted_outcome : (quote offset : ℕ) (bs : List ℕ) (make : List ℕ → TokenKind) (read : Read (List ℕ × ℕ))
    → (quote ≡ 39) ⊎ (quote ≡ 34) → ((meant bytes rest : List ℕ) → IsQuoted quote meant bytes
    → IsToken (make meant) bytes rest)
    → Reads quote offset bs 1 read → Says offset (quote ∷ bs) (read >>= λ p. Ok (token (make p.0) p.1))
quoted_outcome quote offset bs make (Ok p) is token_of (body, rest, whole, all, at) = record {
  bytes = quote ∷ (body ++ quote ∷ []);
  rest = rest;
  whole = ap (λ t. quote ∷ t) (whole ∙ sym (append_assoc body (quote ∷ []) rest));
  length_is = omega (arith, at, length-append body (quote ∷ []));
  piece = token_of p.0 (quote ∷ (body ++ quote ∷ [])) rest (body, all, refl);
}
quoted_outcome quote offset bs make (Err (UnexpectedByte, at)) is token_of (
  meant,
  body,
  rest,
  whole,
  all,
  (wrong, at_is),
) =
    let opens : OpensQuoted (quote ∷ bs) (length body + 1) rest =
    record {
      quote = quote;
      is_quote = is;
      meant = meant;
      body = body;
      writes = all;
      whole =
          ap (λ t. quote ∷ t) whole;
      written_is = refl;
    } in
    (length body + 1, omega (arith, at_is), inr (rest, inl (opens, wrong)))
quoted_outcome quote offset bs make (Err (Unfinished, at)) is token_of (meant, body, rest, whole, all, (short, at_is)) =
    let opens : OpensQuoted (quote ∷ bs) (length body + 1) rest =
    record {
      quote = quote;
      is_quote = is;
      meant = meant;
      body = body;
      writes = all;
      whole =
          ap (λ t. quote ∷ t) whole;
      written_is = refl;
    } in
    (0, omega (arith, at_is), ((rest, short, inl (length body + 1, opens)), refl))
quoted_outcome quote offset bs make (Err (IntegerTooLarge, at)) is token_of (meant, body, rest, whole, all, breaks) =
    absurd breaks
quoted_outcome quote offset bs make (Err (_, at)) is token_of (meant, body, rest, whole, all, breaks) = absurd breaks

code_outcome : (offset : ℕ) (bs : List ℕ) (read : Read (ℕ × ℕ)) → ReadsOne offset bs read
    → Says offset (36 ∷ bs) (read >>= λ p. Ok (token (kinds.integer p.0) p.1))
code_outcome offset bs (Ok p) (one, rest, whole, writes, at) = record {
  bytes = 36 ∷ one;
  rest = rest;
  whole = ap (λ t. 36 ∷ t) whole;
  length_is = at;
  piece = inr (one, writes, refl);
}
code_outcome offset bs (Err (UnexpectedByte, at)) (wrong, at_is) = (1, at_is, inr (bs, inr (refl, refl, wrong)))
code_outcome offset bs (Err (Unfinished, at)) (short, at_is) = (0, omega (arith, at_is), ((bs, short, inr refl), refl))
code_outcome offset bs (Err (IntegerTooLarge, at)) breaks = absurd breaks
code_outcome offset bs (Err (_, at)) breaks = absurd breaks

-- ---- marks and others

module_says : (offset b : ℕ) (bs : List ℕ) → is_opening b ≡ false → class_of b ≡ classes.Question
    → Says offset (b ∷ bs) (module_at offset (b ∷ bs))
module_says offset b bs opens class = by (starts_with nat_eq (b ∷ bs) (codes "?MODULE"))
    (ends is_word_byte (drop 7 (b ∷ bs))) refl refl
  where
    by : (p q : Bool) → starts_with nat_eq (b ∷ bs) (codes "?MODULE") ≡ p → ends is_word_byte (drop 7 (b ∷ bs)) ≡ q
        → Says offset (b ∷ bs) (cond (p && q) (Ok (token kinds.own_module 7)) (Err (UnexpectedByte, offset)))
    by true true pe qe = record {
      bytes = codes "?MODULE";
      rest = drop 7 (b ∷ bs);
      whole =
          begins (b ∷ bs) (codes "?MODULE") pe;
      length_is = refl;
      piece = (refl, qe);
    }
    by true false pe qe = stray offset b bs opens (piece_is offset (b ∷ bs) classes.Question class ∙ rw (pe, qe) refl)
    by false q pe qe = stray offset b bs opens (piece_is offset (b ∷ bs) classes.Question class ∙ rw pe refl)

dot_says : (offset b : ℕ) (bs : List ℕ) → is_opening b ≡ false → b ≡ 46 → class_of b ≡ classes.Dot
    → Says offset (b ∷ bs) (dot_at offset (b ∷ bs))
dot_says offset b bs opens is class = by (ends is_joined bs) refl
  where
    by : (q : Bool) → ends is_joined bs ≡ q → Says offset (b ∷ bs)
        (cond q (Ok (token kinds.dot 1)) (Err (UnexpectedByte, offset)))
    by true qe = record {
      bytes = codes ".";
      rest = bs;
      whole = ap (λ x. x ∷ bs) is;
      length_is = refl;
      piece = (refl, qe);
    }
    by false qe = stray offset b bs opens (piece_is offset (b ∷ bs) classes.Dot class ∙ rw qe refl)

longest_is : (text : List ℕ) (m : TokenMark) → longest_mark text ≡ Some m
    → IsLongestMark m (mark_text m) (drop (length (mark_text m)) text)
    × (text ≡ mark_text m ++ drop (length (mark_text m)) text)
longest_is text m e =
    let p : TokenMark → Bool = λ x. starts_with nat_eq text (mark_text x) in
    let whole = begins text (mark_text m) (find_passes p marks m e) in
    let largest : (other : TokenMark) → p other ≡ true → length (mark_text other) ≤ length (mark_text m) =
    λ other passes. find_largest (λ x. length (mark_text x)) p (λ x. bytes_eq (mark_text x) (mark_text other)) marks
    m other refl e (mark_found other) passes in
    let longest : (other : TokenMark) (tail : List ℕ)
    → mark_text m ++ drop (length (mark_text m)) text ≡ mark_text other ++ tail
    → length (mark_text other) ≤ length (mark_text m) =
    λ other tail is. largest other (ap (λ t. starts_with nat_eq t (mark_text other)) (whole ∙ is)
    ∙ begins_again (mark_text other) tail) in
    (record { written = refl; longest = longest }, whole)

mark_says : (offset b : ℕ) (bs : List ℕ) → is_opening b ≡ false → class_of b ≡ classes.Other
    → Says offset (b ∷ bs) (mark_at offset (b ∷ bs))
mark_says offset b bs opens class = by (longest_mark (b ∷ bs)) refl
  where
    by : (o : Option TokenMark) → longest_mark (b ∷ bs) ≡ o
        → Says offset (b ∷ bs) (or_fault UnexpectedByte offset (λ m. token (kinds.mark m) (length (mark_text m))) o)
    by (Some m) e =
        let is = longest_is (b ∷ bs) m e in
        record {
          bytes = mark_text m;
          rest = drop (length (mark_text m)) (b ∷ bs);
          whole = is.1;
          length_is =
              refl;
          piece = is.0;
        }
    by None e = stray offset b bs opens (piece_is offset (b ∷ bs) classes.Other class
        ∙ ap (or_fault UnexpectedByte offset (λ m. token (kinds.mark m) (length (mark_text m)))) e)

comment_says : (offset b : ℕ) (bs : List ℕ) → b ≡ 37 → Says offset (b ∷ bs) (Ok (None, prefix_len is_comment (b ∷ bs)))
comment_says offset b bs is = record {
  bytes = 37 ∷ take (prefix_len is_comment bs) bs;
  rest = drop (prefix_len is_comment bs) bs;
  whole = ap (λ x. x ∷ bs) is ∙ ap (λ t. 37 ∷ t) (sym (take-append-drop (prefix_len is_comment bs) bs));
  length_is = rw is (omega (arith, length-take (prefix_len is_comment bs) bs, prefix_len-le-length is_comment bs));
  piece = inr (take (prefix_len is_comment bs) bs, refl, run_front is_comment bs);
}

-- ---- pieces

piece_of_says : (offset b : ℕ) (bs : List ℕ) (k : Class) → class_of b ≡ k → Shows k b
    → Says offset (b ∷ bs) (piece_of k offset (b ∷ bs))
piece_of_says offset b bs classes.Blank e shows = record {
  bytes = b ∷ [];
  rest = bs;
  whole = refl;
  length_is = refl;
  piece = inl (b, shows, refl);
}
piece_of_says offset b bs classes.Percent e shows = comment_says offset b bs shows
piece_of_says offset b bs classes.Digit e shows = number_says offset b bs shows
piece_of_says offset b bs classes.Lower e shows = word_says offset b bs shows
piece_of_says offset b bs classes.Upper e shows = variable_says offset b bs shows
piece_of_says offset b bs classes.Dollar e shows = subst (λ x. Says offset (x ∷ bs) (character_at offset (x ∷ bs)))
    (sym shows) (code_outcome offset bs (after_dollar offset bs) (character_reads offset bs))
piece_of_says offset b bs classes.Quote e shows = subst (λ x. Says offset (x ∷ bs) (atom_at offset (x ∷ bs)))
    (sym shows) (quoted_outcome 39 offset bs (λ t. kinds.atom t) (closing 39 offset bs false 1) (inl refl)
    (λ meant bytes rest is. inr is) (closing_reads 39 offset bs false 1))
piece_of_says offset b bs classes.DoubleQuote e shows = subst (λ x. Says offset (x ∷ bs) (text_at offset (x ∷ bs)))
    (sym shows) (quoted_outcome 34 offset bs (λ t. kinds.text t) (closing 34 offset bs false 1) (inr refl)
    (λ meant bytes rest is. is) (closing_reads 34 offset bs false 1))
piece_of_says offset b bs classes.Question e shows = module_says offset b bs shows.0 e
piece_of_says offset b bs classes.Dot e shows = dot_says offset b bs shows.0 shows.1 e
piece_of_says offset b bs classes.Other e shows = mark_says offset b bs shows e

-- what is read at the front of a text is there
pub piece_says : (offset b : ℕ) (bs : List ℕ) → Says offset (b ∷ bs) (piece_at offset (b ∷ bs))
unfolding piece_at
piece_says offset b bs = piece_of_says offset b bs (class_of b) refl (class_shows b)
