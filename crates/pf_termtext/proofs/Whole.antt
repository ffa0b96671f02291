-- A whole text: what is read of it, and of which value it is.
use Rattle.std.proofs.Common.{◌≡◌, ℕ, List, [], ◌∷◌, length, Some, None, Result, Ok, Err, refl, sym, ap, ◌∙◌, arith}
use Rattle.std.specs.Prelude.{IfOk}
use Rattle.std.proofs.lemmas.List.{append-nil}
use Rattle.std.proofs.lemmas.Option.{same_Some, option_and_then_some}
use Rattle.pf_errors.specs.declared.fault.OrNoMemory.{OrNoMemory}
use Rattle.pf_errors.specs.declared.fault.OrNoMemory.TheVariants.{NoMemory, Fault}
use Rattle.pf_terms.specs.declared.limits.TheConstants.{MOST_DEPTH}
use Rattle.pf_terms.specs.Atoms.{name_of}
use Rattle.pf_terms.specs.Order.{Distinguishes}
use Rattle.pf_terms.specs.Term.{value_of}
use Rattle.pf_terms.specs.Value.{Value}
use Rattle.pf_terms.specs.declared.term.Term.{Term}
use Rattle.pf_termtext.specs.declared.fault.NoTerm.{NoTerm}
use Rattle.pf_termtext.specs.Texts.{IsTextOf, NoTextOfTwo, PrintedIsReadBack, no_term}
use Rattle.pf_termtext.specs.Reading.{Gives, value_alone, value_at, value_of_text}
use Rattle.pf_termtext.proofs.Sound.{Says, text_of, value_sound}
use Rattle.pf_termtext.proofs.Again.{value_again}

-- a text is of the value that is read of it
pub text_of_read : (names : List (List ℕ)) (bytes : List ℕ) (v : Value) → value_of_text names bytes ≡ Some v
    → IsTextOf names bytes v
text_of_read names bytes v e = option_and_then_some _ (value_at names MOST_DEPTH bytes) v e
    (λ p read made. by p.0 p.1 (value_sound names MOST_DEPTH bytes p.0 p.1 read) made)
  where
    by : (w : Value) (rest : List ℕ) → Says names bytes w rest → value_alone w rest ≡ Some v → IsTextOf names bytes v
    by w [] says made = rw (← same_Some w v made)
        (record { printed = says.0 ∙ append-nil (text_of names w); readable = says.1; within = says.2 })
    by w (b ∷ rest) says made = absurd cc

-- what is read of the text of a value is the value
pub read_of_text : (names : List (List ℕ)) (bytes : List ℕ) (v : Value) → Distinguishes (name_of names) (length names)
    → IsTextOf names bytes v → value_of_text names bytes ≡ Some v
read_of_text names bytes v apart is =
    let read : value_at names MOST_DEPTH bytes ≡ Some (v, []) =
    ap (value_at names MOST_DEPTH) (is.printed ∙ sym (append-nil (text_of names v)))
    ∙ value_again names apart MOST_DEPTH (omega arith) v (is.readable, is.within.0, is.within.1) [] refl in
    rw read refl

-- no text is of two values
pub one_value : NoTextOfTwo
one_value names bytes v w apart first second =
    same_Some v w (sym (read_of_text names bytes v apart first) ∙ read_of_text names bytes w apart second)

-- what is printed is of the value alone
pub read_back : PrintedIsReadBack
read_back names v apart readable within =
    let is : IsTextOf names (text_of names v) v = record { printed = refl; readable = readable; within = within } in
    (is, λ w other. one_value names (text_of names v) w v apart other is)

-- what the code reads, where reading gives it
pub found_by : (names : List (List ℕ)) (bytes : List ℕ) (r : Result Term (OrNoMemory NoTerm))
    → Gives value_of r (value_of_text names bytes) → IfOk r (λ t. IsTextOf names bytes (value_of t))
found_by names bytes (Ok t) gives = text_of_read names bytes (value_of t) gives
found_by names bytes (Err e) gives = tt

pub again_by : (names : List (List ℕ)) (bytes : List ℕ) (r : Result Term (OrNoMemory NoTerm))
    → Distinguishes (name_of names) (length names)
    → Gives value_of r (value_of_text names bytes) → (v : Value) → IsTextOf names bytes v → IfOk r (λ t. value_of t ≡ v)
again_by names bytes (Ok t) apart gives v is =
    same_Some (value_of t) v (sym gives ∙ read_of_text names bytes v apart is)
again_by names bytes (Err e) apart gives v is = tt

pub refused_by : (names : List (List ℕ)) (bytes : List ℕ) (r : Result Term (OrNoMemory NoTerm))
    → Distinguishes (name_of names) (length names)
    → Gives value_of r (value_of_text names bytes) → r ≡ Err no_term → (v : Value) → IsTextOf names bytes v → ⊥
refused_by names bytes (Ok t) apart gives e v is = absurd cc
refused_by names bytes (Err (Fault x)) apart gives e v is =
    absurd (let both_ways : None ≡ Some v = sym gives ∙ read_of_text names bytes v apart is in cc)
refused_by names bytes (Err NoMemory) apart gives e v is = absurd cc
