-- What is read of a quoted text or a character is there.
use Rattle.std.proofs.Common.{◌≡◌, inl, inr, ℕ, suc, ◌+◌, Bool, true, false, cond, eqb, List, [], ◌∷◌, ◌++◌, length}
use Rattle.std.proofs.Common.{Option, Some, None, Ok, Err, refl, sym, ap, subst, ◌∙◌, append_assoc, length-append}
use Rattle.std.proofs.Common.{arith}
use Rattle.std.proofs.lemmas.Bool.{eqb-true}
use Rattle.pf_errors.specs.declared.code.Code.{Code}
use Rattle.pf_errors.specs.declared.code.Code.TheVariants.{UnexpectedByte, Unfinished}
use Rattle.pf_tokens.specs.declared.quoted.QuoteStep.TheVariants as steps
use Rattle.pf_tokens.specs.Bytes.{is_quotable, is_visible, escape_of}
use Rattle.pf_tokens.specs.Scan.{Read, put_byte, escape_step, go_on, closing, after_dollar, after_backslash}
use Rattle.pf_tokens.specs.Scan.{escaped_character}
use Rattle.pf_tokens.specs.Rules.{WritesByte, WritesAll, is_plain_in, is_plain_character, IsWrong, IsCutOff}

-- how quoted text goes wrong after bytes that are written
abbrev pub Breaks : Code → List ℕ → ℕ → ℕ → ℕ → Type 0
Breaks UnexpectedByte rest offset at n = IsWrong is_quotable rest × (at ≡ offset + n)
Breaks Unfinished rest offset at n = IsCutOff rest × (at ≡ offset)
Breaks _ rest offset at n = ⊥

-- the bytes are written up to the quote, or up to where the text breaks off
abbrev pub Reads : ℕ → ℕ → List ℕ → ℕ → Read (List ℕ × ℕ) → Type 0
Reads quote offset bytes n (Ok p) = (body rest : List ℕ) × (bytes ≡ body ++ (quote ∷ rest)) × WritesAll quote p.0 body
    × (p.1 ≡ n + length body + 1)
Reads quote offset bytes n (Err e) = (meant body rest : List ℕ) × (bytes ≡ body ++ rest) × WritesAll quote meant body
    × Breaks e.0 rest offset e.1 (n + length body)

-- one more byte is written before
more : (quote offset c : ℕ) (one bytes : List ℕ) (n : ℕ) (read : Read (List ℕ × ℕ))
    → WritesByte (is_plain_in quote) c one → Reads quote offset bytes (n + length one) read
    → Reads quote offset (one ++ bytes) n (put_byte c read)
more quote offset c one bytes n (Ok p) writes (body, rest, is, all, at) = (
  one ++ body,
  rest,
  ap (λ t. one ++ t) is ∙ sym (append_assoc one body (quote ∷ rest)),
  (one, body, refl, writes, all),
  omega (arith, at, length-append one body),
)
more quote offset c one bytes n (Err e) writes (meant, body, rest, is, all, breaks) =
    let offsets : n + length one + length body ≡ n + length (one ++ body) = omega (arith, length-append one body) in (
      c ∷ meant,
      one ++ body,
      rest,
      ap (λ t. one ++ t) is ∙ sym (append_assoc one body rest),
      (one, body, refl, writes, all),
      subst (λ k. Breaks e.0 rest offset e.1 k) offsets breaks,
    )

-- what is before the byte that comes next
abbrev pub after : Bool → List ℕ → List ℕ
after true bytes = 92 ∷ bytes
after false bytes = bytes

apart : (quote b : ℕ) → eqb b quote ≡ false → eqb b 92 ≡ false → is_quotable b ≡ true → is_plain_in quote b ≡ true
apart quote b p q r = rw (p, q, r) refl

pub closing_reads : (quote offset : ℕ) (bytes : List ℕ) (escaped : Bool) (n : ℕ)
    → Reads quote offset (after escaped bytes) n (closing quote offset bytes escaped n)
unfolding closing
closing_reads quote offset [] true n = ([], [], 92 ∷ [], refl, refl, (inr refl, refl))
closing_reads quote offset [] false n = ([], [], [], refl, refl, (inl refl, refl))
closing_reads quote offset (b ∷ bs) true n = by (escape_of b) refl (closing_reads quote offset bs false (n + 2))
  where
    by : (o : Option ℕ) → escape_of b ≡ o → Reads quote offset bs (n + 2) (closing quote offset bs false (n + 2))
        → Reads quote offset (92 ∷ b ∷ bs) n (go_on (closing quote offset bs) offset true n (escape_step o))
    by (Some c) e later = more quote offset c (92 ∷ b ∷ []) bs n (closing quote offset bs false (n + 2))
        (inr (b, e, refl)) later
    by None e later = ([], [], 92 ∷ b ∷ bs, refl, refl, (inr (refl, e), omega arith))
closing_reads quote offset (b ∷ bs) false n = by (eqb b quote) (eqb b 92) (is_quotable b) refl refl refl
    (closing_reads quote offset bs true n) (closing_reads quote offset bs false (n + 1))
  where
    by : (p q r : Bool) → eqb b quote ≡ p → eqb b 92 ≡ q → is_quotable b ≡ r
        → Reads quote offset (92 ∷ bs) n (closing quote offset bs true n)
        → Reads quote offset bs (n + 1) (closing quote offset bs false (n + 1))
        → Reads quote offset (b ∷ bs) n (go_on (closing quote offset bs) offset false n
        (cond p steps.Closes (cond q steps.Escapes (cond r (steps.Means b) steps.Fails))))
    by true q r pe qe re escaped later = ([], bs, ap (λ x. x ∷ bs) (eqb-true b quote pe), refl, omega arith)
    by false true r pe qe re escaped later = subst (λ x. Reads quote offset (x ∷ bs) n (closing quote offset bs true n))
        (sym (eqb-true b 92 qe)) escaped
    by false false true pe qe re escaped later =
        more quote offset b (b ∷ []) bs n (closing quote offset bs false (n + 1))
        (inl (apart quote b pe qe re, refl)) later
    by false false false pe qe re escaped later = ([], [], b ∷ bs, refl, refl, (inl re, omega arith))

-- how a character goes wrong
abbrev pub BreaksHere : Code → List ℕ → ℕ → ℕ → Type 0
BreaksHere UnexpectedByte rest offset at = IsWrong is_visible rest × (at ≡ offset + 1)
BreaksHere Unfinished rest offset at = IsCutOff rest × (at ≡ offset)
BreaksHere _ rest offset at = ⊥

-- a character is written, or breaks off
abbrev pub ReadsOne : ℕ → List ℕ → Read (ℕ × ℕ) → Type 0
ReadsOne offset bytes (Ok p) = (one rest : List ℕ) × (bytes ≡ one ++ rest) × WritesByte is_plain_character p.0 one
    × (p.1 ≡ suc (length one))
ReadsOne offset bytes (Err e) = BreaksHere e.0 bytes offset e.1

pub character_reads : (offset : ℕ) (bytes : List ℕ) → ReadsOne offset bytes (after_dollar offset bytes)
character_reads offset [] = (inl refl, refl)
character_reads offset (b ∷ bs) = by (eqb b 92) (is_visible b) refl refl (escaped b bs)
  where
    letter : (b e : ℕ) (rest : List ℕ) (o : Option ℕ) → b ≡ 92 → escape_of e ≡ o
        → ReadsOne offset (b ∷ e ∷ rest) (escaped_character offset o)
    letter b e rest (Some c) is found = (b ∷ e ∷ [], rest, refl, inr (e, found, ap (λ x. x ∷ e ∷ []) is), refl)
    letter b e rest None is found = (inr (is, found), refl)

    escaped : (b : ℕ) (bs : List ℕ) → b ≡ 92 → ReadsOne offset (b ∷ bs) (after_backslash offset bs)
    escaped b [] is = (inr (ap (λ x. x ∷ []) is), refl)
    escaped b (e ∷ rest) is = letter b e rest (escape_of e) is refl

    by : (p q : Bool) → eqb b 92 ≡ p → is_visible b ≡ q
        → (b ≡ 92 → ReadsOne offset (b ∷ bs) (after_backslash offset bs))
        → ReadsOne offset (b ∷ bs) (cond p (after_backslash offset bs)
        (cond q (Ok (b, 2)) (Err (UnexpectedByte, offset + 1))))
    by true q pe qe later = later (eqb-true b 92 pe)
    by false true pe qe later = (b ∷ [], bs, refl, inl (rw (pe, qe) refl, refl), refl)
    by false false pe qe later = (inl qe, refl)
