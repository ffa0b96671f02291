-- Names in quotes: what is read of them, byte by byte.
use Rattle.std.proofs.Common.{◌≡◌, ℕ, ◌+◌, ◌<◌, Bool, true, false, cond, eqb, List, [], ◌∷◌, ◌++◌, length, Option, Some}
use Rattle.std.proofs.Common.{None, refl, sym, ap, ◌∙◌, append_assoc, arith}
use Rattle.std.specs.Prelude.{option_map, flat_map, codes, not, ◌||◌}
use Rattle.std.proofs.lemmas.Bool.{eqb-true}
use Rattle.std.proofs.lemmas.List.{append-nil}
use Rattle.std.proofs.lemmas.Option.{same_Some, some_pair_parts}
use Rattle.pf_model.specs.TermText.{quoted_byte}
use Rattle.pf_termtext.specs.Reading.{TextFront, ◌>>=◌, after_byte, escaped_byte, escaped_at, is_alone}
use Rattle.pf_termtext.specs.Reading.{written_byte, put_byte, name_at}

-- the bytes read before, and what is read after them
abbrev pub with_front : List ℕ → TextFront (List ℕ) → TextFront (List ℕ)
with_front front read = option_map (λ p. (front ++ p.0, p.1)) read

-- a byte that was read is one more of those read before
pub with_front-put_byte : (front : List ℕ) (c : ℕ) (read : TextFront (List ℕ))
    → with_front front (put_byte c read) ≡ with_front (front ++ c ∷ []) read
with_front-put_byte front c (Some p) = ap (λ (t : List ℕ). Some (t, p.1)) (sym (append_assoc front (c ∷ []) p.0))
with_front-put_byte front c None = refl

-- the quote closes the name here
abbrev pub closed : List ℕ → TextFront (List ℕ)
closed text = option_map (λ rest. ([], rest)) (after_byte 39 text)

-- what is read where a byte is written, and where none is
abbrev pub after : Option (ℕ × List ℕ) → List ℕ → TextFront (List ℕ)
after (Some p) text = put_byte p.0 (name_at false p.1)
after None text = closed text

-- a byte that is written is the first of the name; else the name ends
pub name_steps : (text : List ℕ) → name_at false text ≡ after (written_byte text) text
unfolding name_at
name_steps [] = refl
name_steps (b ∷ text) = by (eqb b 39) (eqb b 92) (is_alone b) refl refl refl
  where
    after_backslash : (text : List ℕ) → b ≡ 92 → name_at true text ≡ after (escaped_at text) (b ∷ text)
    after_backslash [] is = rw is refl
    after_backslash (letter ∷ text) is = spelled (escaped_byte letter)
      where
        spelled : (o : Option ℕ) → (o >>= λ c. put_byte c (name_at false text)) ≡ after (option_map (λ c. (c, text)) o)
            (b ∷ letter ∷ text)
        spelled (Some c) = refl
        spelled None = rw is refl

    by : (p q r : Bool) → eqb b 39 ≡ p → eqb b 92 ≡ q → is_alone b ≡ r
        → cond p (Some ([], text)) (cond q (name_at true text) (cond r (put_byte b (name_at false text)) None))
        ≡ after (cond q (escaped_at text) (cond r (Some (b, text)) None)) (b ∷ text)
    by true true r is_quote is_backslash alone =
        absurd (omega (arith, eqb-true b 39 is_quote, eqb-true b 92 is_backslash))
    by true false true is_quote is_backslash alone = let not_alone : false ≡ true = rw (eqb-true b 39 is_quote) at
        alone in absurd cc
    by true false false is_quote is_backslash alone = rw is_quote refl
    by false true r is_quote is_backslash alone = after_backslash text (eqb-true b 92 is_backslash)
    by false false true is_quote is_backslash alone = refl
    by false false false is_quote is_backslash alone = rw is_quote refl

-- after a byte that is written the text is shorter
pub written_shorter : (text : List ℕ) (b : ℕ) (rest : List ℕ) → written_byte text ≡ Some (b, rest)
    → length rest < length text
written_shorter [] b rest e = absurd cc
written_shorter (c ∷ text) b rest e = by (eqb c 92) (is_alone c) e
  where
    spelled : (text : List ℕ) → escaped_at text ≡ Some (b, rest) → length rest < 1 + length text
    spelled [] e = absurd cc
    spelled (letter ∷ text) e = of (escaped_byte letter) e
      where
        of : (o : Option ℕ) → option_map {U = ℕ × List ℕ} (λ m. (m, text)) o ≡ Some (b, rest)
            → length rest < 1 + length (letter ∷ text)
        of (Some m) e = omega (arith, ap length (some_pair_parts m b text rest e).1)
        of None e = absurd cc

    by : (q r : Bool) → cond q (escaped_at text) (cond r (Some (c, text)) None) ≡ Some (b, rest)
        → length rest < length (c ∷ text)
    by true r e = omega (arith, spelled text e)
    by false true e = omega (arith, ap length (some_pair_parts c b text rest e).1)
    by false false e = absurd cc

-- one more byte of the name is read
pub name_more : (front text : List ℕ) (b : ℕ) (rest : List ℕ) (all : TextFront (List ℕ))
    → Some (b, rest) ≡ written_byte text
    → all ≡ with_front front (name_at false text) → all ≡ with_front (front ++ b ∷ []) (name_at false rest)
name_more front text b rest all written so_far =
    so_far ∙ ap (λ r. with_front front r) (name_steps text ∙ ap (λ o. after o text) (sym written))
    ∙ with_front-put_byte front b (name_at false rest)

-- the name ends at the quote
pub name_ends : (front text rest : List ℕ) (all : TextFront (List ℕ)) → None ≡ written_byte text
    → Some rest ≡ after_byte 39 text
    → all ≡ with_front front (name_at false text) → all ≡ Some (front, rest)
name_ends front text rest all written quote so_far =
    so_far ∙ ap (λ r. with_front front r) (name_steps text ∙ ap (λ o. after o text) (sym written)
    ∙ ap (λ o. option_map (λ r. ([], r)) o) (sym quote))
    ∙ ap (λ (t : List ℕ). Some (t, rest)) (append-nil front)

-- the name doesn't end
pub name_fails : (front text : List ℕ) (all : TextFront (List ℕ)) → None ≡ written_byte text → None ≡ after_byte 39 text
    → all ≡ with_front front (name_at false text) → all ≡ None
name_fails front text all written quote so_far =
    so_far ∙ ap (λ r. with_front front r) (name_steps text ∙ ap (λ o. after o text) (sym written)
    ∙ ap (λ o. option_map (λ r. ([], r)) o) (sym quote))

-- what a `\` and a letter stand for is written so
spelled_byte : (letter b : ℕ) → escaped_byte letter ≡ Some b → quoted_byte b ≡ 92 ∷ letter ∷ []
spelled_byte letter b e = by (eqb letter 110) (eqb letter 116) (eqb letter 92) (eqb letter 39) refl refl refl refl e
  where
    by : (p q r s : Bool) → eqb letter 110 ≡ p → eqb letter 116 ≡ q → eqb letter 92 ≡ r → eqb letter 39 ≡ s
        → cond p (Some 10) (cond q (Some 9) (cond (r || s) (Some letter) None)) ≡ Some b
        → quoted_byte b ≡ 92 ∷ letter ∷ []
    by true q r s is_p is_q is_r is_s made = rw (← same_Some 10 b made, eqb-true letter 110 is_p) refl
    by false true r s is_p is_q is_r is_s made = rw (← same_Some 9 b made, eqb-true letter 116 is_q) refl
    by false false true s is_p is_q is_r is_s made = rw (← same_Some letter b made, eqb-true letter 92 is_r) refl
    by false false false true is_p is_q is_r is_s made = rw (← same_Some letter b made, eqb-true letter 39 is_s) refl
    by false false false false is_p is_q is_r is_s made = absurd cc

-- a byte that stands for itself is written as itself
alone_byte : (b : ℕ) → is_alone b ≡ true → quoted_byte b ≡ b ∷ []
alone_byte b e = by (eqb b 39) (eqb b 92) (eqb b 10) (eqb b 9) refl refl refl refl e
  where
    by : (p q r s : Bool) → eqb b 39 ≡ p → eqb b 92 ≡ q → eqb b 10 ≡ r → eqb b 9 ≡ s → not (p || q || r || s) ≡ true
        → quoted_byte b ≡ b ∷ []
    by true q r s is_p is_q is_r is_s made = absurd cc
    by false true r s is_p is_q is_r is_s made = absurd cc
    by false false true s is_p is_q is_r is_s made = absurd cc
    by false false false true is_p is_q is_r is_s made = absurd cc
    by false false false false is_p is_q is_r is_s made = rw (is_r, is_s, is_q, is_p) refl

-- what is before the byte that comes next
abbrev pub shown : Bool → List ℕ → List ℕ
shown true text = 92 ∷ text
shown false text = text

-- one more byte is written before
put_in_front : (front : List ℕ) (b : ℕ) (text : List ℕ) (read : TextFront (List ℕ)) (name rest : List ℕ)
    → quoted_byte b ≡ front
    → ((n r : List ℕ) → read ≡ Some (n, r) → text ≡ flat_map quoted_byte n ++ 39 ∷ r)
    → put_byte b read ≡ Some (name, rest) → front ++ text ≡ flat_map quoted_byte name ++ 39 ∷ rest
put_in_front front b text (Some p) name rest is later made =
    let parts = some_pair_parts (b ∷ p.0) name p.1 rest made in
    rw (← parts.0, ← parts.1, is)
    (ap (λ t. front ++ t) (later p.0 p.1 refl) ∙ sym (append_assoc front (flat_map quoted_byte p.0) (39 ∷ p.1)))
put_in_front front b text None name rest is later made = absurd cc

-- what is read of a name in quotes is written so
pub name_sound : (is_escaped : Bool) (text name rest : List ℕ) → name_at is_escaped text ≡ Some (name, rest)
    → shown is_escaped text ≡ flat_map quoted_byte name ++ 39 ∷ rest
unfolding name_at
name_sound true [] name rest e = absurd cc
name_sound false [] name rest e = absurd cc
name_sound true (letter ∷ text) name rest e = by (λ n r f. name_sound false text n r f) (escaped_byte letter) refl e
  where
    by : ((n r : List ℕ) → name_at false text ≡ Some (n, r) → text ≡ flat_map quoted_byte n ++ 39 ∷ r)
        → (o : Option ℕ) → escaped_byte letter ≡ o → (o >>= λ c. put_byte c (name_at false text)) ≡ Some (name, rest)
        → 92 ∷ letter ∷ text ≡ flat_map quoted_byte name ++ 39 ∷ rest
    by later (Some c) is made = put_in_front (92 ∷ letter ∷ []) c text (name_at false text) name rest
        (spelled_byte letter c is) later made
    by later None is made = absurd cc
name_sound false (b ∷ text) name rest e =
    by (λ n r f. name_sound false text n r f) (λ f. name_sound true text name rest f) (eqb b 39) (eqb b 92)
    (is_alone b) refl refl refl e
  where
    by : ((n r : List ℕ) → name_at false text ≡ Some (n, r) → text ≡ flat_map quoted_byte n ++ 39 ∷ r)
        → (name_at true text ≡ Some (name, rest) → 92 ∷ text ≡ flat_map quoted_byte name ++ 39 ∷ rest)
        → (p q r : Bool) → eqb b 39 ≡ p → eqb b 92 ≡ q → is_alone b ≡ r
        → cond p (Some ([], text)) (cond q (name_at true text) (cond r (put_byte b (name_at false text)) None))
        ≡ Some (name, rest)
        → b ∷ text ≡ flat_map quoted_byte name ++ 39 ∷ rest
    by later escaping true q r is_quote is_backslash alone made =
        let parts = some_pair_parts [] name text rest made in
        rw (← parts.0, ← parts.1, eqb-true b 39 is_quote) refl
    by later escaping false true r is_quote is_backslash alone made = rw (eqb-true b 92 is_backslash) (escaping made)
    by later escaping false false true is_quote is_backslash alone made =
        put_in_front (b ∷ []) b text (name_at false text) name rest (alone_byte b alone) later made
    by later escaping false false false is_quote is_backslash alone made = absurd cc

-- a byte that is written is read
byte_again : (b : ℕ) (text : List ℕ) → name_at false (quoted_byte b ++ text) ≡ put_byte b (name_at false text)
unfolding name_at
byte_again b text = by (eqb b 10) (eqb b 9) (eqb b 92) (eqb b 39) refl refl refl refl
  where
    by : (r s q p : Bool) → eqb b 10 ≡ r → eqb b 9 ≡ s → eqb b 92 ≡ q → eqb b 39 ≡ p
        → name_at false (cond r (codes "\\n")
        (cond s (codes "\\t") (cond q (92 ∷ 92 ∷ []) (cond p (92 ∷ 39 ∷ []) (b ∷ [])))) ++ text) ≡ put_byte b
        (name_at false text)
    by true s q p is_r is_s is_q is_p = rw (eqb-true b 10 is_r) refl
    by false true q p is_r is_s is_q is_p = rw (eqb-true b 9 is_s) refl
    by false false true p is_r is_s is_q is_p = rw (eqb-true b 92 is_q) refl
    by false false false true is_r is_s is_q is_p = rw (eqb-true b 39 is_p) refl
    by false false false false is_r is_s is_q is_p = rw (is_p, is_q, is_r, is_s) refl

-- a name that is written in quotes is read
pub name_again : (name rest : List ℕ) → name_at false (flat_map quoted_byte name ++ 39 ∷ rest) ≡ Some (name, rest)
unfolding name_at
name_again [] rest = refl
name_again (b ∷ name) rest =
    ap (name_at false) (append_assoc (quoted_byte b) (flat_map quoted_byte name) (39 ∷ rest))
    ∙ byte_again b (flat_map quoted_byte name ++ 39 ∷ rest) ∙ ap (put_byte b) (name_again name rest)
