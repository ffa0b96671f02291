-- A quoted text that is written is read again.
use Rattle.std.proofs.Common.{◌≡◌, inl, inr, ℕ, suc, ◌+◌, Bool, true, false, eqb, not, ◌||◌, List, [], ◌∷◌, ◌++◌}
use Rattle.std.proofs.Common.{length, Ok, Err, refl, ap, add-zero, ◌∙◌, append_assoc, length-append, arith}
use Rattle.std.proofs.lemmas.Bool.{eqb-true, eq-eqb}
use Rattle.pf_errors.specs.declared.code.Code.TheVariants.{UnexpectedByte, Unfinished}
use Rattle.pf_tokens.specs.declared.quoted.QuoteStep.TheVariants.{Means}
use Rattle.pf_tokens.specs.Bytes.{is_quotable, is_visible}
use Rattle.pf_tokens.specs.Scan.{Read, put_byte, step_of, closing, after_dollar}
use Rattle.pf_tokens.specs.Rules.{WritesByte, WritesAll, is_plain_in, is_plain_character, IsWrong, IsCutOff}
use Rattle.pf_tokens.proofs.Runs.{not_true}
use Rattle.pf_tokens.proofs.Quotes.{with_front}
use Rattle.pf_errors.proofs.Bools.{both}

-- a quote is no `\`
abbrev pub IsQuoteMark : ℕ → Type 0
IsQuoteMark quote = (eqb 92 quote ≡ false) × (is_quotable quote ≡ true)

neither : (a b : Bool) → not (a || b) ≡ true → (a ≡ false) × (b ≡ false)
neither true b e = absurd cc
neither false b e = (refl, not_true b e)

plain_step : (quote b : ℕ) → is_plain_in quote b ≡ true → step_of quote false b ≡ Means b
plain_step quote b e =
    let parts = both (is_quotable b) (not (eqb b quote || eqb b 92)) e in
    let others = neither (eqb b quote) (eqb b 92) parts.1 in
    rw (others.0, others.1, parts.0) refl

-- a byte that fails is none that passes
differs : (test : ℕ → Bool) (b k : ℕ) → test b ≡ false → test k ≡ true → eqb b k ≡ false
differs test b k fails passes = by (eqb b k) refl
  where
    by : (t : Bool) → eqb b k ≡ t → eqb b k ≡ false
    by true e = let same : test b ≡ test k = ap test (eqb-true b k e) in absurd cc
    by false e = e

-- a byte that is written is read
closing_one : (quote offset c : ℕ) (one rest : List ℕ) (n : ℕ) → IsQuoteMark quote
    → WritesByte (is_plain_in quote) c one → closing quote offset (one ++ rest) false n ≡ put_byte c
    (closing quote offset rest false (n + length one))
unfolding closing
closing_one quote offset c one rest n mark (inl plain) = rw (plain.1, plain_step quote c plain.0) refl
closing_one quote offset c one rest n mark (inr escape) = rw (escape.2, mark.0, escape.1) refl

put_with : (c : ℕ) (front : List ℕ) (read : Read (List ℕ × ℕ))
    → put_byte c (with_front front read) ≡ with_front (c ∷ front) read
put_with c front (Ok p) = refl
put_with c front (Err e) = refl

-- bytes that are written are read, and then what follows them
pub closing_skips : (quote offset : ℕ) (meant body rest : List ℕ) (n : ℕ) → IsQuoteMark quote
    → WritesAll quote meant body → closing quote offset (body ++ rest) false n ≡ with_front meant
    (closing quote offset rest false (n + length body))
closing_skips quote offset [] body rest n mark written =
    rw (written, add-zero) (none (closing quote offset rest false n))
  where
    none : (read : Read (List ℕ × ℕ)) → read ≡ with_front [] read
    none (Ok p) = refl
    none (Err e) = refl
closing_skips quote offset (c ∷ meant) body rest n mark (one, more, is, writes, later) =
    let regrouped : body ++ rest ≡ one ++ (more ++ rest) = rw is (append_assoc one more rest) in
    let first = closing_one quote offset c one (more ++ rest) n mark writes in
    let others = closing_skips quote offset meant more rest (n + length one) mark later in
    let offsets : n + length one + length more ≡ n + length body =
    omega (arith, ap length is, length-append one more) in
    ap (λ t. closing quote offset t false n) regrouped ∙ first ∙ ap (put_byte c) others ∙ put_with c meant
    (closing quote offset rest false (n + length one + length more))
    ∙ ap (λ k. with_front (c ∷ meant) (closing quote offset rest false k)) offsets

-- the quote closes the text
pub closing_closes : (quote offset n : ℕ) (rest : List ℕ) → closing quote offset (quote ∷ rest) false n ≡ Ok ([], n + 1)
unfolding closing
closing_closes quote offset n rest = rw (eq-eqb quote quote refl) refl

-- the end of the file cuts the text off
pub closing_cut : (quote offset n : ℕ) (rest : List ℕ) → IsQuoteMark quote → IsCutOff rest
    → closing quote offset rest false n ≡ Err (Unfinished, offset)
unfolding closing
closing_cut quote offset n rest mark (inl e) = rw e refl
closing_cut quote offset n rest mark (inr e) = rw (e, mark.0) refl

-- a wrong byte is a fault
pub closing_wrong : (quote offset n : ℕ) (rest : List ℕ) → IsQuoteMark quote → IsWrong is_quotable rest
    → closing quote offset rest false n ≡ Err (UnexpectedByte, offset + n)
unfolding closing
closing_wrong quote offset n [] mark wrong = absurd wrong
closing_wrong quote offset n (b ∷ rest) mark (inl stray) =
    rw (differs is_quotable b quote stray mark.1, differs is_quotable b 92 stray refl, stray) refl
closing_wrong quote offset n (b ∷ []) mark (inr (e, bad)) = absurd bad
closing_wrong quote offset n (b ∷ letter ∷ rest) mark (inr (e, bad)) = rw (e, mark.0, bad) refl

-- a character that is written is read
pub character_again : (offset code : ℕ) (one rest : List ℕ) → WritesByte is_plain_character code one
    → after_dollar offset (one ++ rest) ≡ Ok (code, suc (length one))
character_again offset code one rest (inl plain) =
    let parts = both (is_visible code) (not (eqb code 92)) plain.0 in
    rw (plain.1, not_true (eqb code 92) parts.1, parts.0) refl
character_again offset code one rest (inr escape) = rw (escape.2, escape.1) refl

pub character_cut : (offset : ℕ) (rest : List ℕ) → IsCutOff rest → after_dollar offset rest ≡ Err (Unfinished, offset)
character_cut offset rest (inl e) = rw e refl
character_cut offset rest (inr e) = rw e refl

pub character_wrong : (offset : ℕ) (rest : List ℕ) → IsWrong is_visible rest
    → after_dollar offset rest ≡ Err (UnexpectedByte, offset + 1)
character_wrong offset [] wrong = absurd wrong
character_wrong offset (b ∷ rest) (inl stray) = rw (differs is_visible b 92 stray refl, stray) refl
character_wrong offset (b ∷ []) (inr (e, bad)) = absurd bad
character_wrong offset (b ∷ letter ∷ rest) (inr (e, bad)) = rw (e, bad) refl
