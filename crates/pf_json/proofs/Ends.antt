-- An object has no line end within it.
use Rattle.std.proofs.Common.{◌≡◌, ◌≢◌, ℕ, ◌+◌, ◌/◌, ◌%◌, zero, suc, Bool, true, false, cond, List, [], ◌∷◌, ◌++◌, refl}
use Rattle.std.proofs.Common.{ap, sym, ◌∙◌, arith, zero-add}
use Rattle.std.specs.Prelude.{◌==◌, ◌&&◌, ◌||◌, nat_lt, flat_map, if◌then◌else◌}
use Rattle.std.specs.List.{count_by}
use Rattle.std.specs.Char.{digit_char}
use Rattle.std.specs.Fmt.{decimal, digit_glyph, digits, digits_onto}
use Rattle.std.specs.Str.Lossy.{utf8_lossy}
use Rattle.std.proofs.lemmas.Bool.{ne_eqb}
use Rattle.std.proofs.lemmas.List.Sums.{sum_by-append}
use Rattle.json.specs.Token as token
use Rattle.json.specs.Token.{Token}
use Rattle.json.specs.Print.{begins, ends, escape, escape_byte, escape_letter, print_from, quoted, separator}
use Rattle.json.specs.Print.{token_text}
use Rattle.pf_json.specs.Facts.{Fact, Value, number, text, truth}
use Rattle.pf_json.specs.Laws.{is_line_end}
use Rattle.pf_json.specs.Lines.{HeldText, after_line, objects_from, with_byte}
use Rattle.pf_json.specs.Objects.{fact_tokens, facts_at, object_line, object_tokens, value_token}

-- no byte of a text is a line end
abbrev Clean : List ℕ → Type 0
Clean [] = Unit {0}
Clean (b ∷ bs) = (b ≢ 10) × Clean bs

clean_both : (xs ys : List ℕ) → Clean xs → Clean ys → Clean (xs ++ ys)
clean_both [] ys h g = g
clean_both (x ∷ xs) ys h g = (h.0, clean_both xs ys h.1 g)

clean_if : (c : Bool) (xs ys : List ℕ) → (c ≡ true → Clean xs) → (c ≡ false → Clean ys) → Clean (cond c xs ys)
clean_if true xs ys h g = h refl
clean_if false xs ys h g = g refl

-- ---- strings

differ : (a : ℕ) → (a == 10) ≡ false → a ≢ 10
differ a h e = let other : true ≡ false = ap (λ (c : ℕ). c == 10) (sym e) ∙ h in absurd cc

other_if : (c : Bool) (m n : ℕ) → (c ≡ true → m ≢ 10) → n ≢ 10 → cond c m n ≢ 10
other_if true m n h g = h refl
other_if false m n h g = g

no_end : (b : ℕ) → ((b == 34) || (b == 92)) ≡ true → b ≢ 10
no_end b h e = let other : false ≡ true = ap (λ (c : ℕ). (c == 34) || (c == 92)) (sym e) ∙ h in absurd cc

letter_is_no_end : (b : ℕ) → escape_letter b ≢ 10
letter_is_no_end b =
    other_if ((b == 34) || (b == 92)) b _ (no_end b)
    (other_if (b == 8) 98 _ (λ h. differ 98 refl)
    (other_if (b == 12) 102 _ (λ h. differ 102 refl)
    (other_if (b == 10) 110 _ (λ h. differ 110 refl)
    (other_if (b == 13) 114 _ (λ h. differ 114 refl)
    (other_if (b == 9) 116 0 (λ h. differ 116 refl) (differ 0 refl))))))

digit_is_no_end : (d : ℕ) → digit_char d ≢ 10
digit_is_no_end d = other_if (nat_lt d 10) (48 + d) (87 + d) (λ h e. omega (arith, e)) (λ e. omega (arith, e))

above_is_no_end : (b : ℕ) → nat_lt b 32 ≡ false → b ≢ 10
above_is_no_end b h e = let other : true ≡ false = ap (λ (c : ℕ). nat_lt c 32) (sym e) ∙ h in absurd cc

byte_is_clean : (b : ℕ) → Clean (escape_byte b)
unfolding escape_byte
byte_is_clean b =
    clean_if (nat_lt 0 (escape_letter b)) _ _ (λ h. (differ 92 refl, (letter_is_no_end b, tt)))
    (λ h. clean_if (nat_lt b 32) _ _
    (λ g. (
      differ 92 refl,
      (
        differ 117 refl,
        (
          differ 48 refl,
          (differ 48 refl, (digit_is_no_end (b / 16), (digit_is_no_end (b % 16), tt))),
        ),
      ),
    ))
    (λ g. (above_is_no_end b g, tt)))

escaped_is_clean : (bs : List ℕ) → Clean (escape bs)
escaped_is_clean [] = tt
escaped_is_clean (b ∷ bs) = clean_both (escape_byte b) (escape bs) (byte_is_clean b) (escaped_is_clean bs)

quoted_is_clean : (bs : List ℕ) → Clean (quoted bs)
quoted_is_clean bs = (differ 34 refl, clean_both (escape bs) (34 ∷ []) (escaped_is_clean bs) (differ 34 refl, tt))

-- ---- numbers

glyph_is_no_end : (d : ℕ) → digit_glyph false d ≢ 10
glyph_is_no_end d = other_if (nat_lt d 10) (48 + d) (87 + d) (λ h e. omega (arith, e)) (λ e. omega (arith, e))

onto_is_clean : (k n : ℕ) (acc : List ℕ) → Clean acc → Clean (digits_onto k 10 false n acc)
onto_is_clean zero n acc h = h
onto_is_clean (suc k) n acc h =
    let one : Clean (digit_glyph false (n % 10) ∷ acc) = (glyph_is_no_end (n % 10), h) in
    clean_if (n / 10 == 0) _ _ (λ e. one) (λ e. onto_is_clean k (n / 10) (digit_glyph false (n % 10) ∷ acc) one)

decimal_is_clean : (n : ℕ) → Clean (decimal n)
unfolding digits
decimal_is_clean n = onto_is_clean 64 n [] tt

-- ---- objects

abbrev AreClean : List Token → Type 0
AreClean [] = Unit {0}
AreClean (t ∷ ts) = Clean (token_text t) × AreClean ts

separator_is_clean : (c : Bool) (t : Token) → Clean (separator c t)
separator_is_clean c t = clean_if (c && begins t) (44 ∷ []) [] (λ h. (differ 44 refl, tt)) (λ h. tt)

print_is_clean : (c : Bool) (ts : List Token) → AreClean ts → Clean (print_from c ts)
unfolding print_from
print_is_clean c [] h = tt
print_is_clean c (t ∷ ts) h =
    clean_both (separator c t) (token_text t ++ print_from (ends t) ts) (separator_is_clean c t)
    (clean_both (token_text t) (print_from (ends t) ts) h.0 (print_is_clean (ends t) ts h.1))

value_is_clean : (v : Value) → Clean (token_text (value_token v))
value_is_clean (number n) = decimal_is_clean n
value_is_clean (text t) = quoted_is_clean (utf8_lossy t)
value_is_clean (truth true) = (differ 116 refl, (differ 114 refl, (differ 117 refl, (differ 101 refl, tt))))
value_is_clean (truth false) = (
  differ 102 refl,
  (differ 97 refl, (differ 108 refl, (differ 115 refl, (differ 101 refl, tt)))),
)

facts_are_clean : (fs : List Fact) → AreClean (flat_map fact_tokens fs ++ token.end_object ∷ [])
facts_are_clean [] = ((differ 125 refl, tt), tt)
facts_are_clean (f ∷ fs) = (
  clean_both (quoted (utf8_lossy f.key)) (58 ∷ []) (quoted_is_clean (utf8_lossy f.key)) (differ 58 refl, tt),
  (value_is_clean f.value, facts_are_clean fs),
)

-- ---- line ends

ends_both : (xs ys : List ℕ) → count_by is_line_end (xs ++ ys) ≡ count_by is_line_end xs + count_by is_line_end ys
ends_both xs ys = sum_by-append (λ b. cond (is_line_end b) 1 0) xs ys

ends_after : (b : ℕ) (bs : List ℕ) → count_by is_line_end (b ∷ bs) ≡ cond (b == 10) 1 0 + count_by is_line_end bs
ends_after b bs = ends_both (b ∷ []) bs ∙ ap (λ (n : ℕ). n + count_by is_line_end bs) (zero-add (cond (b == 10) 1 0))

clean_has_none : (bs : List ℕ) → Clean bs → count_by is_line_end bs ≡ 0
clean_has_none [] h = refl
clean_has_none (b ∷ bs) h =
    let none : cond {A = ℕ} (b == 10) 1 0 ≡ 0 = ap (λ (c : Bool). cond {A = ℕ} c 1 0) (ne_eqb b 10 h.0) in
    omega (arith, ends_after b bs, none, clean_has_none bs h.1)

one_end : (facts : List Fact) → count_by is_line_end (object_line facts) ≡ 1
one_end facts =
    let tokens = object_tokens facts in
    let clean = clean_has_none (print_from false tokens)
    (print_is_clean false tokens ((differ 123 refl, tt), facts_are_clean facts)) in
    let last : count_by is_line_end (10 ∷ []) ≡ 1 = refl in
    omega (arith, ends_both (print_from false tokens) (10 ∷ []), clean, last)

-- a line end, or another byte
end_by_end : (c : Bool) (line x y rest : List ℕ) → count_by is_line_end line ≡ 1
    → count_by is_line_end x ≡ count_by is_line_end rest → count_by is_line_end y ≡ count_by is_line_end rest
    → count_by is_line_end (if c then line ++ x else y) ≡ cond c 1 0 + count_by is_line_end rest
end_by_end true line x y rest l e d = omega (arith, ends_both line x, l, e)
end_by_end false line x y rest l e d = d ∙ sym (zero-add (count_by is_line_end rest))

pub line_by_line : (h : HeldText) (t : List ℕ) → count_by is_line_end (objects_from h t) ≡ count_by is_line_end t
line_by_line h [] = refl
line_by_line h (b ∷ bs) =
    end_by_end (b == 10) (object_line (facts_at h.place h.line)) (objects_from (after_line h) bs)
    (objects_from (with_byte h b) bs) bs
    (one_end (facts_at h.place h.line)) (line_by_line (after_line h) bs) (line_by_line (with_byte h b) bs)
    ∙ sym (ends_after b bs)
