-- A fault that is at the front of a text is read, and no piece or fault is empty.
use Rattle.std.proofs.Common.{◌≡◌, ◌⊎◌, inl, inr, ℕ, ◌+◌, ◌<◌, Bool, true, false, List, [], ◌∷◌, ◌++◌, length, Option}
use Rattle.std.proofs.Common.{Some, None, Ok, Err, refl, ap, subst, ◌∙◌, add-zero, arith}
use Rattle.pf_tokens.specs.declared.bytes.Class.TheVariants as classes
use Rattle.pf_errors.specs.declared.code.Code.{Code}
use Rattle.pf_errors.specs.declared.code.Code.TheVariants.{UnexpectedByte, Unfinished, IntegerTooLarge}
use Rattle.pf_tokens.specs.Bytes.{is_digit, is_lower, is_upper}
use Rattle.pf_tokens.specs.TokenKinds.{TokenKind}
use Rattle.pf_tokens.specs.TokenKinds as kinds
use Rattle.pf_tokens.specs.Scan.{Read, Cut, ◌>>=◌, token, closing, piece_at}
use Rattle.pf_tokens.specs.Rules.{IsNumeral, IsName, IsPiece, IsFault, IsStrayByte, OpensQuoted, WritesAll, is_opening}
use Rattle.pf_tokens.proofs.Written.{mark_some}
use Rattle.pf_tokens.proofs.Skips.{IsQuoteMark, closing_skips, closing_cut, closing_wrong, character_cut}
use Rattle.pf_tokens.proofs.Skips.{character_wrong}
use Rattle.pf_tokens.proofs.Again.{piece_is, numeral_fails}
use Rattle.pf_tokens.proofs.Says.{Says, piece_says}
use Rattle.pf_errors.proofs.Bools.{both}

name_some : (test : ℕ → Bool) (bytes rest : List ℕ) → IsName test bytes rest → 0 < length bytes
name_some test [] rest h = absurd h
name_some test (b ∷ bs) rest h = omega arith

-- a piece takes a byte at least
pub piece_some : (kind : Option TokenKind) (bytes rest : List ℕ) → IsPiece kind bytes rest → 0 < length bytes
piece_some None bytes rest (inl (b, e, is)) = rw is (omega arith)
piece_some None bytes rest (inr (words, is, run)) = rw is (omega arith)
piece_some (Some (kinds.integer value)) bytes rest (inl (h, lt)) = h.some
piece_some (Some (kinds.integer value)) bytes rest (inr (one, writes, is)) = rw is (omega arith)
piece_some (Some (kinds.atom name)) bytes rest (inl (h, is, free)) = name_some is_lower bytes rest h
piece_some (Some (kinds.atom name)) bytes rest (inr (body, writes, is)) = rw is (omega arith)
piece_some (Some (kinds.variable name)) bytes rest (h, is, free) = name_some is_upper bytes rest h
piece_some (Some kinds.anonymous) bytes rest (h, is) = name_some is_upper bytes rest h
piece_some (Some (kinds.text meant)) bytes rest (body, writes, is) = rw is (omega arith)
piece_some (Some kinds.own_module) bytes rest (is, e) = rw is (omega arith)
piece_some (Some kinds.dot) bytes rest (is, e) = rw is (omega arith)
piece_some (Some (kinds.mark m)) bytes rest h = rw h.written (mark_some m)
piece_some (Some (kinds.reserved r)) bytes rest (h, is) = name_some is_lower bytes rest h

-- no fault is in an empty text
pub fault_some : (fault : Code) (n : ℕ) → IsFault fault n [] → ⊥
fault_some UnexpectedByte n (inl (stray, e)) = stray
fault_some UnexpectedByte n (inr (rest, inl (opens, wrong))) = let is = opens.whole in cc
fault_some UnexpectedByte n (inr (rest, inr (is, at, wrong))) = cc
fault_some Unfinished n ((rest, short, inl (k, opens)), e) = let is = opens.whole in cc
fault_some Unfinished n ((rest, short, inr is), e) = cc
fault_some IntegerTooLarge n ((value, [], rest, whole, h, le), e) = let some = h.some in omega arith
fault_some IntegerTooLarge n ((value, b ∷ bs, rest, whole, h, le), e) = cc
fault_some _ n h = h

-- ---- a byte that opens nothing

no_quote : (b : ℕ) (bs : List ℕ) (n : ℕ) (rest : List ℕ) → is_opening b ≡ false → OpensQuoted (b ∷ bs) n rest → ⊥
no_quote b bs n rest shut opens = by opens.is_quote
  where
    by : (opens.quote ≡ 39) ⊎ (opens.quote ≡ 34) → ⊥
    by (inl is) = let whole = opens.whole in let same : b ≡ 39 = cc in let open_is = ap is_opening same in cc
    by (inr is) = let whole = opens.whole in let same : b ≡ 34 = cc in let open_is = ap is_opening same in cc

no_character : (b : ℕ) (bs rest : List ℕ) → is_opening b ≡ false → b ∷ bs ≡ 36 ∷ rest → ⊥
no_character b bs rest shut is = let same : b ≡ 36 = cc in let open_is = ap is_opening same in cc

no_numeral : (b : ℕ) (bs : List ℕ) (value : ℕ) (bytes rest : List ℕ) → is_opening b ≡ false → b ∷ bs ≡ bytes ++ rest
    → IsNumeral value bytes rest → ⊥
no_numeral b bs value [] rest shut whole h = let some = h.some in omega arith
no_numeral b bs value (c ∷ cs) rest shut whole h =
    let same : b ≡ c = cc in
    let digit : is_digit b ≡ true = ap is_digit same ∙ (both _ _ h.digits.each).0 in
    let open_is : is_opening b ≡ true = rw digit refl in
    cc

stray_again : (offset b : ℕ) (bs : List ℕ) → IsStrayByte (b ∷ bs)
    → piece_at offset (b ∷ bs) ≡ Err (UnexpectedByte, offset)
stray_again offset b bs (shut, none) = by (piece_at offset (b ∷ bs)) (piece_says offset b bs)
  where
    by : (read : Read Cut) → Says offset (b ∷ bs) read → read ≡ Err (UnexpectedByte, offset)
    by (Ok p) says = absurd (none p.0 says.bytes says.rest says.whole says.piece)
    by (Err (UnexpectedByte, at)) (n, at_is, inl (stray, e)) = let same : at ≡ offset = omega (arith, at_is, e) in
        ap (λ k. Err (UnexpectedByte, k)) same
    by (Err (UnexpectedByte, at)) (n, at_is, inr (rest, inl (opens, wrong))) = absurd (no_quote b bs n rest shut opens)
    by (Err (UnexpectedByte, at)) (n, at_is, inr (rest, inr (is, e, wrong))) = absurd (no_character b bs rest shut is)
    by (Err (Unfinished, at)) (n, at_is, ((rest, short, inl (k, opens)), e)) = absurd (no_quote b bs k rest shut opens)
    by (Err (Unfinished, at)) (n, at_is, ((rest, short, inr is), e)) = absurd (no_character b bs rest shut is)
    by (Err (IntegerTooLarge, at)) (n, at_is, ((value, bytes, rest, whole, h, le), e)) =
        absurd (no_numeral b bs value bytes rest shut whole h)
    by (Err (_, at)) (n, at_is, never) = absurd never

-- ---- quoted texts

breaks : (quote offset : ℕ) (meant body rest : List ℕ) (make : List ℕ × ℕ → Read Cut) (e : Code × ℕ) → IsQuoteMark quote
    → WritesAll quote meant body → closing quote offset rest false (1 + length body) ≡ Err e
    → (closing quote offset (body ++ rest) false 1 >>= make) ≡ Err e
breaks quote offset meant body rest make e mark writes is =
    rw (closing_skips quote offset meant body rest 1 mark writes, is) refl

-- a quoted text breaks off as its bytes do
quoted_breaks : (offset : ℕ) (text : List ℕ) (n : ℕ) (rest : List ℕ) (opens : OpensQuoted text n rest) (e : Code × ℕ)
    → ((quote : ℕ) → IsQuoteMark quote → closing quote offset rest false (1 + length opens.body) ≡ Err e)
    → piece_at offset text ≡ Err e
quoted_breaks offset text n rest opens e is = by opens.quote opens.is_quote opens.whole opens.writes
  where
    by : (quote : ℕ) → (quote ≡ 39) ⊎ (quote ≡ 34) → text ≡ quote ∷ (opens.body ++ rest)
        → WritesAll quote opens.meant opens.body → piece_at offset text ≡ Err e
    by quote (inl same) whole writes =
        let atom : text ≡ 39 ∷ (opens.body ++ rest) = whole ∙ ap (λ q. q ∷ (opens.body ++ rest)) same in
        ap (piece_at offset) atom ∙ piece_is offset (39 ∷ (opens.body ++ rest)) classes.Quote refl
        ∙ breaks 39 offset opens.meant opens.body rest (λ p. Ok (token (kinds.atom p.0) p.1)) e (refl, refl)
        (subst (λ q. WritesAll q opens.meant opens.body) same writes) (is 39 (refl, refl))
    by quote (inr same) whole writes =
        let string : text ≡ 34 ∷ (opens.body ++ rest) = whole ∙ ap (λ q. q ∷ (opens.body ++ rest)) same in
        ap (piece_at offset) string ∙ piece_is offset (34 ∷ (opens.body ++ rest)) classes.DoubleQuote refl
        ∙ breaks 34 offset opens.meant opens.body rest (λ p. Ok (token (kinds.text p.0) p.1)) e (refl, refl)
        (subst (λ q. WritesAll q opens.meant opens.body) same writes) (is 34 (refl, refl))

-- a fault that is there is read
pub fault_again : (offset : ℕ) (fault : Code) (n : ℕ) (text : List ℕ) → IsFault fault n text
    → piece_at offset text ≡ Err (fault, offset + n)
fault_again offset UnexpectedByte n [] (inl (stray, e)) = absurd stray
fault_again offset UnexpectedByte n (b ∷ bs) (inl (stray, e)) = stray_again offset b bs stray
    ∙ ap (λ k. Err (UnexpectedByte, k)) (omega arith)
fault_again offset UnexpectedByte n text (inr (rest, inl (opens, wrong))) =
    quoted_breaks offset text n rest opens (UnexpectedByte, offset + (1 + length opens.body))
    (λ quote mark. closing_wrong quote offset (1 + length opens.body) rest mark wrong)
    ∙ ap (λ k. Err (UnexpectedByte, k)) (omega (arith, opens.written_is))
fault_again offset UnexpectedByte n text (inr (rest, inr (is, e, wrong))) =
    ap (piece_at offset) is ∙ piece_is offset (36 ∷ rest) classes.Dollar refl
    ∙ rw (character_wrong offset rest wrong, e) refl
fault_again offset Unfinished n text ((rest, short, inl (k, opens)), e) =
    quoted_breaks offset text k rest opens (Unfinished, offset)
    (λ quote mark. closing_cut quote offset (1 + length opens.body) rest mark short)
    ∙ ap (λ k. Err (Unfinished, k)) (omega arith)
fault_again offset Unfinished n text ((rest, short, inr is), e) =
    ap (piece_at offset) is ∙ piece_is offset (36 ∷ rest) classes.Dollar refl ∙ rw (
      character_cut offset rest short,
      e,
      add-zero,
    ) refl
fault_again offset IntegerTooLarge n text ((value, bytes, rest, whole, h, le), e) =
    ap (piece_at offset) whole ∙ numeral_fails offset value bytes rest h le
    ∙ ap (λ k. Err (IntegerTooLarge, k)) (omega arith)
fault_again offset _ n text never = absurd never
