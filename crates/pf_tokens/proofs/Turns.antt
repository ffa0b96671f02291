-- One turn of the loop over a text.
use Rattle.std.proofs.Common.{◌≡◌, ℕ, zero, suc, ◌+◌, ◌<◌, List, [], ◌∷◌, ◌++◌, length, drop, Option, Some, None, Ok}
use Rattle.std.proofs.Common.{Err, refl, sym, ap, ◌∙◌, append_assoc, arith}
use Rattle.std.proofs.lemmas.List.{append-nil}
use Rattle.pf_errors.specs.declared.fault.OrNoMemory.{OrNoMemory}
use Rattle.pf_errors.specs.declared.refusal.SourceRefusal.{SourceRefusal}
use Rattle.pf_errors.specs.declared.fault.OrNoMemory.TheVariants.{NoMemory, Fault}
use Rattle.pf_tokens.specs.TokenKinds.{TokenKind, PlacedToken, one_token, put_first}
use Rattle.pf_tokens.specs.Scan.{Read, Cut, ◌>>=◌, piece_at, scan, Fails}

-- the tokens found before, and those after them
abbrev pub with_front : List PlacedToken → Read (List PlacedToken) → Read (List PlacedToken)
with_front front read = read >>= λ ts. Ok (front ++ ts)

-- a token that was found is one more of those before
with_front-put_first : (front : List PlacedToken) (s : Option TokenKind) (start end : ℕ)
    (read : Read (List PlacedToken)) → with_front front (read >>= λ ts. Ok (put_first s start end ts)) ≡ with_front
    (front ++ one_token s start end) read
with_front-put_first front None start end (Ok ts) = ap (λ (l : List PlacedToken). Ok (l ++ ts)) (sym (append-nil front))
with_front-put_first front (Some s) start end (Ok ts) =
    ap (λ (l : List PlacedToken). Ok l) (sym (append_assoc front
    (record { kind = s; start = start; end = end } ∷ []) ts))
with_front-put_first front s start end (Err e) = refl

-- the next piece
pub scan_goes : (front : List PlacedToken) (n m offset : ℕ) (bytes : List ℕ) (p : Cut) (all : Read (List PlacedToken))
    → n ≡ suc m → 0 < length bytes → piece_at offset bytes ≡ Ok p → all ≡ with_front front (scan n offset bytes)
    → all ≡ with_front (front ++ one_token p.0 offset (offset + p.1)) (scan m (offset + p.1) (drop p.1 bytes))
unfolding scan
scan_goes front n m offset [] p all k some is so_far = absurd (omega arith)
scan_goes front n m offset (b ∷ bs) p all k some is so_far =
    so_far ∙ rw (k, is) (with_front-put_first front p.0 offset (offset + p.1)
    (scan m (offset + p.1) (drop p.1 (b ∷ bs))))

-- no next piece, but a fault
pub scan_fails : (front : List PlacedToken) (n m offset : ℕ) (bytes : List ℕ) (e : OrNoMemory SourceRefusal)
    (all : Read (List PlacedToken)) → n ≡ suc m → 0 < length bytes → Fails e (piece_at offset bytes)
    → all ≡ with_front front (scan n offset bytes) → Fails e all
unfolding scan
scan_fails front n m offset bytes NoMemory all k some is so_far = tt
scan_fails front n m offset [] (Fault r) all k some is so_far = absurd (omega arith)
scan_fails front n m offset (b ∷ bs) (Fault r) all k some is so_far = so_far ∙ rw (k, is) refl

-- nothing is left of the text
pub scan_ends : (front : List PlacedToken) (n offset : ℕ) (bytes : List ℕ) (all : Read (List PlacedToken))
    → length bytes ≡ 0 → all ≡ with_front front (scan n offset bytes) → all ≡ Ok front
unfolding scan
scan_ends front zero offset bytes all e so_far = so_far ∙ ap (λ (l : List PlacedToken). Ok l) (append-nil front)
scan_ends front (suc n) offset [] all e so_far = so_far ∙ ap (λ (l : List PlacedToken). Ok l) (append-nil front)
scan_ends front (suc n) offset (b ∷ bs) all e so_far = absurd (omega arith)

-- as many pieces as the text has bytes
pub scan_out : (front : List PlacedToken) (n offset : ℕ) (bytes : List ℕ) (all : Read (List PlacedToken)) → n ≡ 0
    → all ≡ with_front front (scan n offset bytes) → all ≡ Ok front
unfolding scan
scan_out front n offset bytes all e so_far = so_far ∙ rw e (ap (λ (l : List PlacedToken). Ok l) (append-nil front))
