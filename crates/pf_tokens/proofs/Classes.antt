-- What a byte is, by its class.
use Rattle.std.proofs.Common.{◌≡◌, ℕ, Bool, true, false, cond, eqb, ◌||◌, refl, arith}
use Rattle.std.proofs.lemmas.Bool.Decides.{nat_tests}
use Rattle.std.proofs.lemmas.Bool.{eqb-true}
use Rattle.pf_tokens.specs.declared.bytes.Class.{Class}
use Rattle.pf_tokens.specs.declared.bytes.Class.TheVariants.{Blank, Percent, Digit, Lower, Upper, Dollar, Quote}
use Rattle.pf_tokens.specs.declared.bytes.Class.TheVariants.{DoubleQuote, Question, Dot, Other}
use Rattle.pf_tokens.specs.Bytes.{is_blank, is_digit, is_lower, is_upper, is_word_byte, class_of}
use Rattle.pf_tokens.specs.Rules.{is_opening}

-- what is known of a byte of a class
abbrev pub Shows : Class → ℕ → Type 0
Shows Blank b = is_blank b ≡ true
Shows Percent b = b ≡ 37
Shows Digit b = is_digit b ≡ true
Shows Lower b = is_lower b ≡ true
Shows Upper b = is_upper b ≡ true
Shows Dollar b = b ≡ 36
Shows Quote b = b ≡ 39
Shows DoubleQuote b = b ≡ 34
Shows Question b = (is_opening b ≡ false) × (b ≡ 63)
Shows Dot b = (is_opening b ≡ false) × (b ≡ 46)
Shows Other b = is_opening b ≡ false

-- either way of a test
choose : (C : Class → Type 0) (t : Bool) (x y : Class) → (t ≡ true → C x) → (t ≡ false → C y) → C (cond t x y)
choose C true x y f g = f refl
choose C false x y f g = g refl

pub class_shows : (b : ℕ) → Shows (class_of b) b
class_shows b =
    choose (λ k. Shows k b) (is_blank b) _ _ (λ e. e) (λ not_blank.
    choose (λ k. Shows k b) (eqb b 37) _ _ (λ e. eqb-true b 37 e) (λ not_percent.
    choose (λ k. Shows k b) (is_digit b) _ _ (λ e. e) (λ not_digit.
    choose (λ k. Shows k b) (is_lower b) _ _ (λ e. e) (λ not_lower.
    choose (λ k. Shows k b) (is_upper b) _ _ (λ e. e) (λ not_upper.
    choose (λ k. Shows k b) (eqb b 36) _ _ (λ e. eqb-true b 36 e) (λ not_dollar.
    choose (λ k. Shows k b) (eqb b 39) _ _ (λ e. eqb-true b 39 e) (λ not_quote.
    choose (λ k. Shows k b) (eqb b 34) _ _ (λ e. eqb-true b 34 e) (λ not_double.
    choose (λ k. Shows k b) (eqb b 63) _ _ (λ e. (rw (eqb-true b 63 e) refl, eqb-true b 63 e)) (λ not_question.
    choose (λ k. Shows k b) (eqb b 46) _ _ (λ e. (rw (eqb-true b 46 e) refl, eqb-true b 46 e)) (λ not_dot.
    rw (not_digit, not_dollar, not_quote, not_double) refl))))))))))

pub blank_class : (b : ℕ) → is_blank b ≡ true → class_of b ≡ Blank
blank_class b e = rw e refl

pub digit_class : (b : ℕ) → is_digit b ≡ true → class_of b ≡ Digit
digit_class b e = grind (arith, nat_tests)

pub lower_class : (b : ℕ) → is_lower b ≡ true → class_of b ≡ Lower
lower_class b e = grind (arith, nat_tests)

pub upper_class : (b : ℕ) → is_upper b ≡ true → class_of b ≡ Upper
upper_class b e = grind (arith, nat_tests)

pub lower_word : (b : ℕ) → is_lower b ≡ true → is_word_byte b ≡ true
lower_word b e = rw e refl

pub upper_word : (b : ℕ) → is_upper b ≡ true → is_word_byte b ≡ true
upper_word b e = by (is_lower b)
  where
    by : (t : Bool) → (t || is_upper b || is_digit b || eqb b 64) ≡ true
    by true = refl
    by false = rw e refl
