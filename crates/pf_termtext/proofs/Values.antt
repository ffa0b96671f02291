-- What is read at the front of a text, by its first byte.
use Rattle.std.proofs.Common.{◌≡◌, ◌≢◌, ℕ, zero, suc, true, false, eqb, List, [], ◌∷◌, length, Option, Some, None, refl}
use Rattle.std.proofs.Common.{ap, ◌∙◌, arith}
use Rattle.std.specs.Prelude.{map}
use Rattle.std.proofs.lemmas.Bool.Decides.{nat_tests}
use Rattle.pf_errors.specs.declared.fault.OrNoMemory.{OrNoMemory}
use Rattle.pf_errors.specs.declared.fault.OrNoMemory.TheVariants.{NoMemory, Fault}
use Rattle.pf_terms.specs.declared.term.Term.{Term}
use Rattle.pf_terms.specs.Term.{value_of, values_of}
use Rattle.pf_terms.specs.Value.{Value, tuple, list, more}
use Rattle.pf_tokens.specs.Bytes.{is_digit}
use Rattle.pf_termtext.specs.declared.fault.NoTerm.{NoTerm}
use Rattle.pf_termtext.specs.Reading.{TextFront, Fails, with_value_before, bounded, elements, elements_at, tuple_at}
use Rattle.pf_termtext.specs.Reading.{list_at, quoted_at, integer_at, plain_at, value_by, value_at}

-- a fault of a part is a fault of the whole
pub fails_as : {X Y : Type 0} (e : OrNoMemory NoTerm) (a : Option X) (b : Option Y) → (a ≡ None → b ≡ None)
    → Fails e a → Fails e b
fails_as NoMemory a b f h = tt
fails_as (Fault s) a b f h = f h

-- the values of terms are their elements
pub elements-map : (ts : List Term) → elements (map value_of ts) ≡ values_of ts
elements-map [] = refl
elements-map (t ∷ ts) = ap (λ vs. more (value_of t) vs) (elements-map ts)

-- nothing is read without room
pub value_nowhere : (names : List (List ℕ)) (room : ℕ) (text : List ℕ) → room ≡ zero → value_at names room text ≡ None
unfolding value_at
value_nowhere names room text is = rw is refl

-- with room a value is read by its first byte
pub value_step : (names : List (List ℕ)) (room less : ℕ) (text : List ℕ) → room ≡ suc less
    → value_at names room text ≡ value_by (elements_at (value_at names less)) names text
unfolding value_at
value_step names room less text is = rw is refl

module _ (names : List (List ℕ)) (room less : ℕ) (is : room ≡ suc less) where
  -- nothing is read of nothing
  pub value_of_nothing : (text : List ℕ) → length text ≡ 0 → value_at names room text ≡ None
  value_of_nothing [] empty = value_step names room less [] is
  value_of_nothing (b ∷ text) empty = absurd (omega (arith, empty))

  module _ (text : List ℕ) (b : ℕ) (rest : List ℕ) (begins : text ≡ b ∷ rest) where
    pub at_brace : b ≡ 123 → value_at names room text ≡ tuple_at (elements_at (value_at names less)) rest
    at_brace byte = value_step names room less text is ∙ rw (begins, byte) refl

    pub at_bracket : b ≡ 91 → value_at names room text ≡ list_at (elements_at (value_at names less)) rest
    at_bracket byte = value_step names room less text is ∙ rw (begins, byte) refl

    pub at_quote : b ≡ 39 → value_at names room text ≡ quoted_at names rest
    at_quote byte = value_step names room less text is ∙ rw (begins, byte) refl

    pub at_minus : b ≡ 45 → value_at names room text ≡ integer_at true rest
    at_minus byte = value_step names room less text is ∙ rw (begins, byte) refl

    pub at_digit : is_digit b ≡ true → value_at names room text ≡ integer_at false text
    at_digit digit =
        let a : eqb b 123 ≡ false = grind (arith, nat_tests) in
        let c : eqb b 91 ≡ false = grind (arith, nat_tests) in
        let d : eqb b 39 ≡ false = grind (arith, nat_tests) in
        let e : eqb b 45 ≡ false = grind (arith, nat_tests) in
        value_step names room less text is ∙ rw (begins, a, c, d, e, digit) refl

    pub at_other : b ≢ 123 → b ≢ 91 → b ≢ 39 → b ≢ 45 → is_digit b ≡ false
        → value_at names room text ≡ plain_at names text
    at_other not_brace not_bracket not_quote not_minus digit =
        let a : eqb b 123 ≡ false = grind (arith, nat_tests) in
        let c : eqb b 91 ≡ false = grind (arith, nat_tests) in
        let d : eqb b 39 ≡ false = grind (arith, nat_tests) in
        let e : eqb b 45 ≡ false = grind (arith, nat_tests) in
        value_step names room less text is ∙ rw (begins, a, c, d, e, digit) refl

-- elements that are read and are too large for a value, or make one
pub tuple_by : (items : ℕ → List ℕ → TextFront (List Value)) (text : List ℕ) (p : List Value × List ℕ)
    → items 125 text ≡ Some p
    → tuple_at items text ≡ with_value_before p.1 (λ v. v) (bounded (tuple (elements p.0)))
tuple_by items text p read = rw read refl

pub list_by : (items : ℕ → List ℕ → TextFront (List Value)) (text : List ℕ) (p : List Value × List ℕ)
    → items 93 text ≡ Some p
    → list_at items text ≡ with_value_before p.1 (λ v. v) (bounded (list (elements p.0)))
list_by items text p read = rw read refl
