-- What is read of a whole text is there, and what is there is read.
use Rattle.std.proofs.Common.{◌≡◌, inl, inr, ℕ, zero, suc, ◌+◌, ◌<◌, ◌≤◌, Bool, true, false, cond, leb, List, [], ◌∷◌}
use Rattle.std.proofs.Common.{◌++◌, length, drop, Option, Some, None, Ok, Err, refl, sym, ap, subst, ◌∙◌, zero-add}
use Rattle.std.proofs.Common.{length-append, arith}
use Rattle.std.proofs.lemmas.Bool.{leb-true, leb-false, le-leb, lt-leb}
use Rattle.std.proofs.lemmas.List.{drop_at}
use Rattle.pf_errors.specs.declared.code.Code.{Code}
use Rattle.pf_errors.specs.declared.code.Code.TheVariants.{SourceTooLong}
use Rattle.pf_tokens.specs.declared.scan.TheConstants.{MOST_SOURCE_BYTES}
use Rattle.pf_tokens.specs.TokenKinds.{TokenKind, PlacedToken, put_first}
use Rattle.pf_tokens.specs.Scan.{Read, Cut, ◌>>=◌, piece_at, scan, tokens}
use Rattle.pf_tokens.specs.Rules.{IsPiece, IsFault, RulePart, BeginsWithParts, tokens_from, total_length, HasTokens}
use Rattle.pf_tokens.specs.Rules.{HasFault, IsOrdered}
use Rattle.pf_tokens.proofs.Again.{piece_again}
use Rattle.pf_tokens.proofs.Says.{Cuts, Says, piece_says}
use Rattle.pf_tokens.proofs.IsThere.{piece_some, fault_some, fault_again}

-- the tokens that are read are there, and so is the first fault
abbrev pub SaysAll : ℕ → List ℕ → Read (List PlacedToken) → Type 0
SaysAll offset text (Ok ts) = (parts : List RulePart) × BeginsWithParts parts text [] × (ts ≡ tokens_from offset parts)
SaysAll offset text (Err e) = (parts : List RulePart) × (rest : List ℕ) × (further : ℕ)
    × BeginsWithParts parts text rest × IsFault e.0 further rest × (e.1 ≡ offset + (total_length parts + further))

-- the rest of a text after a piece
rest_is : (text bytes rest : List ℕ) (n : ℕ) → text ≡ bytes ++ rest → n ≡ length bytes → drop n text ≡ rest
rest_is text bytes rest n whole len = ap (drop n) whole ∙ drop_at bytes rest n (sym len)

after_piece : (offset : ℕ) (text : List ℕ) (p : Cut) (cuts : Cuts text p.0 p.1) (read : Read (List PlacedToken))
    → SaysAll (offset + p.1) cuts.rest read → SaysAll offset text
    (read >>= λ ts. Ok (put_first p.0 offset (offset + p.1) ts))
after_piece offset text p cuts (Ok ts) (parts, begins, is) = (
  record { kind = p.0; bytes = cuts.bytes } ∷ parts,
  (cuts.rest, cuts.whole, cuts.piece, begins),
  rw (is, cuts.length_is) refl,
)
after_piece offset text p cuts (Err e) (parts, rest, further, begins, fault, at) = (
  record { kind = p.0; bytes = cuts.bytes } ∷ parts,
  rest,
  further,
  (cuts.rest, cuts.whole, cuts.piece, begins),
  fault,
  omega (arith, at, cuts.length_is),
)

-- what is read of a text is there
pub scan_says : (n offset : ℕ) (text : List ℕ) → length text ≤ n → SaysAll offset text (scan n offset text)
unfolding scan
scan_says zero offset [] le = ([], refl, refl)
scan_says zero offset (b ∷ bs) le = absurd (omega arith)
scan_says (suc n) offset [] le = ([], refl, refl)
scan_says (suc n) offset (b ∷ bs) le = by (piece_at offset (b ∷ bs)) (piece_says offset b bs)
    (λ at text within. scan_says n at text within)
  where
    by : (read : Read Cut) → Says offset (b ∷ bs) read
        → ((at : ℕ) (text : List ℕ) → length text ≤ n → SaysAll at text (scan n at text))
        → SaysAll offset (b ∷ bs) (read >>= λ p. scan n (offset + p.1) (drop p.1 (b ∷ bs)) >>= λ ts.
        Ok (put_first p.0 offset (offset + p.1) ts))
    by (Ok p) cuts later =
        let some = piece_some p.0 cuts.bytes cuts.rest cuts.piece in
        let within : length cuts.rest ≤ n = omega (arith, ap length cuts.whole, length-append cuts.bytes cuts.rest) in
        rw (rest_is (b ∷ bs) cuts.bytes cuts.rest p.1 cuts.whole cuts.length_is)
        (after_piece offset (b ∷ bs) p cuts (scan n (offset + p.1) cuts.rest)
        (later (offset + p.1) cuts.rest within))
    by (Err e) (further, at, fault) later = ([], b ∷ bs, further, refl, fault, omega (arith, at))

-- a piece that is there is read, and then the rest
scan_piece : (n offset : ℕ) (text : List ℕ) (p : RulePart) (tail : List ℕ) → text ≡ p.bytes ++ tail
    → IsPiece p.kind p.bytes tail
    → scan (suc n) offset text ≡ (scan n (offset + length p.bytes) tail >>= λ ts.
    Ok (put_first p.kind offset (offset + length p.bytes) ts))
unfolding scan
scan_piece n offset [] p tail whole piece = let some = piece_some p.kind p.bytes tail piece in
    absurd (omega (arith, ap length whole, length-append p.bytes tail))
scan_piece n offset (b ∷ bs) p tail whole piece =
    let reads : piece_at offset (b ∷ bs) ≡ Ok (p.kind, length p.bytes) = ap (piece_at offset) whole
    ∙ piece_again offset p.kind p.bytes tail piece in
    rw (reads, rest_is (b ∷ bs) p.bytes tail (length p.bytes) whole refl) refl

part_within : (n : ℕ) (text : List ℕ) (p : RulePart) (tail : List ℕ) → text ≡ p.bytes ++ tail
    → IsPiece p.kind p.bytes tail → length text ≤ suc n → length tail ≤ n
part_within n text p tail whole piece le = let some = piece_some p.kind p.bytes tail piece in
    omega (arith, ap length whole, length-append p.bytes tail)

part_some : (text : List ℕ) (p : RulePart) (tail : List ℕ) → text ≡ p.bytes ++ tail → IsPiece p.kind p.bytes tail
    → length text ≤ 0 → ⊥
part_some text p tail whole piece le = let some = piece_some p.kind p.bytes tail piece in
    omega (arith, ap length whole, length-append p.bytes tail)

scan_none : (n offset : ℕ) → scan n offset [] ≡ Ok []
unfolding scan
scan_none zero offset = refl
scan_none (suc n) offset = refl

-- the tokens that are in a text are read
pub scan_again : (n offset : ℕ) (text : List ℕ) (parts : List RulePart) → length text ≤ n
    → BeginsWithParts parts text [] → scan n offset text ≡ Ok (tokens_from offset parts)
scan_again n offset text [] le is = ap (scan n offset) is ∙ scan_none n offset
scan_again zero offset text (p ∷ ps) le (tail, whole, piece, later) = absurd (part_some text p tail whole piece le)
scan_again (suc n) offset text (p ∷ ps) le (tail, whole, piece, later) =
    let others = scan_again n (offset + length p.bytes) tail ps (part_within n text p tail whole piece le) later in
    scan_piece n offset text p tail whole piece ∙ rw others refl

scan_fault : (n offset : ℕ) (text : List ℕ) (fault : Code) (further : ℕ) → IsFault fault further text → length text ≤ n
    → scan n offset text ≡ Err (fault, offset + further)
unfolding scan
scan_fault n offset [] fault further h le = absurd (fault_some fault further h)
scan_fault zero offset (b ∷ bs) fault further h le = absurd (omega arith)
scan_fault (suc n) offset (b ∷ bs) fault further h le = rw (fault_again offset fault further (b ∷ bs) h) refl

-- the first fault that is in a text is read
pub scan_fails_again : (n offset : ℕ) (text : List ℕ) (parts : List RulePart) (rest : List ℕ) (fault : Code)
    (further : ℕ) → length text ≤ n → BeginsWithParts parts text rest → IsFault fault further rest
    → scan n offset text ≡ Err (fault, offset + (total_length parts + further))
scan_fails_again n offset text [] rest fault further le is h =
    ap (scan n offset) is ∙ scan_fault n offset rest fault further h (omega (arith, ap length is))
    ∙ ap (λ k. Err (fault, k)) (omega arith)
scan_fails_again zero offset text (p ∷ ps) rest fault further le (tail, whole, piece, later) h =
    absurd (part_some text p tail whole piece le)
scan_fails_again (suc n) offset text (p ∷ ps) rest fault further le (tail, whole, piece, later) h =
    let others = scan_fails_again n (offset + length p.bytes) tail ps rest fault further
    (part_within n text p tail whole piece le) later h in
    scan_piece n offset text p tail whole piece ∙ rw others (ap (λ k. Err (fault, k)) (omega arith))

-- ---- whole texts

-- what is read of a source text is true of it
abbrev pub Reports : List ℕ → Read (List PlacedToken) → Type 0
Reports text (Ok ts) = HasTokens text ts
Reports text (Err e) = HasFault text e.0 e.1

pub tokens_report : (text : List ℕ) → Reports text (tokens text)
tokens_report text = by (leb (length text) MOST_SOURCE_BYTES) refl (scan_says (length text) 0 text (omega arith))
  where
    scanned : (read : Read (List PlacedToken)) → length text ≤ MOST_SOURCE_BYTES → SaysAll 0 text read
        → Reports text read
    scanned (Ok ts) short (parts, begins, is) = record { short = short; parts = parts; whole = begins; tokens_are = is }
    scanned (Err e) short (parts, rest, further, begins, fault, at) =
        inr (
          short,
          record {
            parts = parts;
            rest = rest;
            begins = begins;
            further = further;
            fault_is = fault;
            offset_is = omega (arith, at);
          },
        )

    by : (t : Bool) → leb (length text) MOST_SOURCE_BYTES ≡ t → SaysAll 0 text (scan (length text) 0 text)
        → Reports text (cond t (scan (length text) 0 text) (Err (SourceTooLong, 0)))
    by true e says = scanned (scan (length text) 0 text) (leb-true (length text) MOST_SOURCE_BYTES e) says
    by false e says = inl (leb-false (length text) MOST_SOURCE_BYTES e, refl, refl)

pub tokens_again : (text : List ℕ) (ts : List PlacedToken) → HasTokens text ts → tokens text ≡ Ok ts
tokens_again text ts h =
    rw (le-leb (length text) MOST_SOURCE_BYTES h.short) (scan_again (length text) 0 text h.parts (omega arith) h.whole
    ∙ ap (λ (l : List PlacedToken). Ok l) (sym h.tokens_are))

pub tokens_fail : (text : List ℕ) (fault : Code) (offset : ℕ) → HasFault text fault offset
    → tokens text ≡ Err (fault, offset)
tokens_fail text fault offset (inl (long, fault_is, offset_is)) =
    rw (lt-leb (length text) MOST_SOURCE_BYTES long, fault_is, offset_is) refl
tokens_fail text fault offset (inr (short, h)) =
    rw (le-leb (length text) MOST_SOURCE_BYTES short)
    (scan_fails_again (length text) 0 text h.parts h.rest fault h.further (omega arith) h.begins h.fault_is
    ∙ ap (λ k. Err (fault, k)) (omega (arith, h.offset_is)))

-- ---- offsets

from_earlier : (earlier offset : ℕ) (ts : List PlacedToken) (end : ℕ) → earlier ≤ offset → IsOrdered offset ts end
    → IsOrdered earlier ts end
from_earlier earlier offset [] end le h = omega arith
from_earlier earlier offset (t ∷ ts) end le (a, b, c) = (omega arith, b, c)

ordered_parts : (offset : ℕ) (parts : List RulePart) (text : List ℕ) → BeginsWithParts parts text []
    → IsOrdered offset (tokens_from offset parts) (offset + length text)
ordered_parts offset [] text is = omega arith
ordered_parts offset (p ∷ ps) text (tail, whole, piece, later) =
    let some = piece_some p.kind p.bytes tail piece in
    let others = ordered_parts (offset + length p.bytes) ps tail later in
    let long : offset + length p.bytes + length tail ≡ offset + length text =
    omega (arith, ap length whole, length-append p.bytes tail) in
    first p.kind (omega arith) (subst (λ (k : ℕ).
    IsOrdered (offset + length p.bytes) (tokens_from (offset + length p.bytes) ps) k) long others)
  where
    first : (s : Option TokenKind) → offset < offset + length p.bytes
        → IsOrdered (offset + length p.bytes) (tokens_from (offset + length p.bytes) ps) (offset + length text)
        → IsOrdered offset (put_first s offset (offset + length p.bytes) (tokens_from (offset + length p.bytes) ps))
        (offset + length text)
    first None lt others = from_earlier offset (offset + length p.bytes) (tokens_from (offset + length p.bytes) ps)
        (offset + length text) (omega arith) others
    first (Some s) lt others = (omega arith, lt, others)

pub ordered : (text : List ℕ) (ts : List PlacedToken) → HasTokens text ts → IsOrdered 0 ts (length text)
ordered text ts h = rw (h.tokens_are, ← zero-add (length text)) (ordered_parts 0 h.parts text h.whole)
