-- One turn of the loop over a quoted text.
use Rattle.std.proofs.Common.{◌≡◌, ℕ, ◌+◌, ◌<◌, Bool, true, false, List, [], ◌∷◌, ◌++◌, length, get_or, drop, Option}
use Rattle.std.proofs.Common.{Some, None, Ok, Err, refl, sym, ap, ◌∙◌, append_assoc, add-one, drop-cons, arith}
use Rattle.std.proofs.lemmas.List.{drop_all}
use Rattle.pf_errors.specs.declared.code.Code.TheVariants.{Unfinished}
use Rattle.pf_tokens.specs.declared.quoted.QuoteStep.{QuoteStep}
use Rattle.pf_tokens.specs.declared.quoted.QuoteStep.TheVariants.{Escapes}
use Rattle.pf_tokens.specs.Bytes.{escape_of}
use Rattle.pf_tokens.specs.Scan.{Read, ◌>>=◌, put_byte, escape_step, step_of, go_on, closing}

-- the bytes read before, and what is read after them
abbrev pub with_front : List ℕ → Read (List ℕ × ℕ) → Read (List ℕ × ℕ)
with_front front read = read >>= λ p. Ok (front ++ p.0, p.1)

-- a byte that was read is one more of those read before
pub with_front-put_byte : (front : List ℕ) (c : ℕ) (read : Read (List ℕ × ℕ))
    → with_front front (put_byte c read) ≡ with_front (front ++ c ∷ []) read
with_front-put_byte front c (Ok p) = ap (λ (t : List ℕ). Ok (t, p.1)) (sym (append_assoc front (c ∷ []) p.0))
with_front-put_byte front c (Err e) = refl

-- the next byte makes a step
pub closing_goes : (front : List ℕ) (quote offset i : ℕ) (bytes : List ℕ) (escaped : Bool) (n : ℕ) (step : QuoteStep)
    (all : Read (List ℕ × ℕ)) → i < length bytes → step ≡ step_of quote escaped (get_or bytes i 0)
    → all ≡ with_front front (closing quote offset (drop i bytes) escaped n)
    → all ≡ with_front front (go_on (closing quote offset (drop (i + 1) bytes)) offset escaped n step)
unfolding closing
closing_goes front quote offset i bytes escaped n step all lt is so_far =
    let split = drop-cons bytes i 0 lt in
    so_far ∙ rw (split, add-one i, is) refl

-- an escape begins where none has begun
pub escapes_alone : (quote : ℕ) (escaped : Bool) (b : ℕ) → Escapes ≡ step_of quote escaped b → escaped ≡ false
escapes_alone quote false b e = refl
escapes_alone quote true b e = absurd (apart (escape_of b) e)
  where
    apart : (o : Option ℕ) → Escapes ≡ escape_step o → ⊥
    apart None e = cc
    apart (Some c) e = cc

-- no byte is left
pub closing_ends : (front : List ℕ) (quote offset i : ℕ) (bytes : List ℕ) (escaped : Bool) (n : ℕ)
    (all : Read (List ℕ × ℕ)) → length bytes ≡ i
    → all ≡ with_front front (closing quote offset (drop i bytes) escaped n) → all ≡ Err (Unfinished, offset)
unfolding closing
closing_ends front quote offset i bytes escaped n all e so_far = so_far ∙ rw (drop_all i bytes (omega arith)) refl
