-- No operator, match or built-in function with its number of arguments raises `undef`.
use Rattle.std.proofs.Common.{◌≡◌, ℕ, zero, suc, Bool, true, false, List, if◌then◌else◌, arith}
use Rattle.std.specs.Prelude.{ℤ, pos, ◌+ℤ◌, ◌-ℤ◌, ◌*ℤ◌, neg_ℤ, int_div, int_rem, Result, Ok, Err}
use Rattle.pf_terms.specs.Value.{Value, Values, int, atom, tuple, list, none, more}
use Rattle.pf_terms.specs.Fixed.{undef, badarg, badarith, system_limit}
use Rattle.pf_syntax.specs.declared.operator.Operator.{Operator}
use Rattle.pf_syntax.specs.declared.operator.Operator.TheVariants as operators
use Rattle.pf_syntax.specs.declared.operator.Builtin.{Builtin}
use Rattle.pf_ops.specs.Arithmetic.{in_range, ranged, is_zero, negated}
use Rattle.pf_ops.specs.Reasons.{fits_limits, pair, tagged}
use Rattle.pf_ops.specs.Operations.{limited, on_integers, divided, appended, operated, values_before, consed}
use Rattle.pf_ops.specs.Operations.{element_at, head_of, tail_of, list_length, element_of, tuple_length}

-- what an operation evaluates to isn't the raise of `undef`
abbrev pub IsAnother : Result Value Value → Type 0
IsAnother (Ok v) = Unit {0}
IsAnother (Err e) = e ≡ undef → ⊥

pub another_atom : (a b : ℕ) → (a ≡ b → ⊥) → atom a ≡ atom b → ⊥
another_atom a b h e = h (cc)

pub limited_another : (v : Value) → IsAnother (limited v)
limited_another v = by (fits_limits v)
  where
    by : (c : Bool) → IsAnother (if c then Ok v else Err system_limit)
    by true = tt
    by false = λ e. another_atom _ _ (λ d. absurd (omega arith)) e

badarg_another : badarg ≡ undef → ⊥
badarg_another e = another_atom _ _ (λ d. absurd (omega arith)) e

ranged_another : (z : ℤ) → IsAnother (ranged z)
ranged_another z = by (in_range z)
  where
    by : (c : Bool) → IsAnother (if c then Ok (int z) else Err system_limit)
    by true = tt
    by false = λ e. another_atom _ _ (λ d. absurd (omega arith)) e

-- {T, V} is no atom
pub tagged_another : (t v : Value) → tagged t v ≡ undef → ⊥
tagged_another t v = by (fits_limits (pair t v))
  where
    by : (c : Bool) → (if c then pair t v else pair t system_limit) ≡ undef → ⊥
    by true e = absurd (cc)
    by false e = absurd (cc)

pub consed_another : (v w : Value) → IsAnother (consed v w)
consed_another v (list ws) = limited_another (list (more v ws))
consed_another v w = badarg_another

pub negated_another : (v : Value) → IsAnother (negated v)
negated_another (int z) = ranged_another (neg_ℤ z)
negated_another v = λ e. another_atom _ _ (λ d. absurd (omega arith)) e

on_integers_another : (f : ℤ → ℤ → Result Value Value) → ((x y : ℤ) → IsAnother (f x y)) → (v w : Value)
    → IsAnother (on_integers f v w)
on_integers_another f h (int x) (int y) = h x y
on_integers_another f h v w = λ e. another_atom _ _ (λ d. absurd (omega arith)) e

divided_another : (f : ℤ → ℤ → ℤ) (x y : ℤ) → IsAnother (divided f x y)
divided_another f x y = by (is_zero y)
  where
    by : (c : Bool) → IsAnother (if c then Err badarith else ranged (f x y))
    by true = λ e. another_atom _ _ (λ d. absurd (omega arith)) e
    by false = ranged_another (f x y)

joined_another : (v w : Value) → IsAnother (appended v w)
joined_another (list vs) (list ws) = limited_another (list (values_before vs ws))
joined_another v w = badarg_another

pub operated_another : (name : ℕ → List ℕ) (o : Operator) (v w : Value) → IsAnother (operated name o v w)
operated_another name operators.Plus v w = on_integers_another _ (λ x y. ranged_another (x +ℤ y)) v w
operated_another name operators.Minus v w = on_integers_another _ (λ x y. ranged_another (x -ℤ y)) v w
operated_another name operators.Times v w = on_integers_another _ (λ x y. ranged_another (x *ℤ y)) v w
operated_another name operators.Quotient v w = on_integers_another _ (divided_another int_div) v w
operated_another name operators.Remainder v w = on_integers_another _ (divided_another int_rem) v w
operated_another name operators.Append v w = joined_another v w
operated_another name o v w = tt

-- ---- built-in functions

pub head_another : (v : Value) → IsAnother (head_of v)
head_another (list (more v vs)) = tt
head_another v = badarg_another

pub tail_another : (v : Value) → IsAnother (tail_of v)
tail_another (list (more v vs)) = tt
tail_another v = badarg_another

pub list_length_another : (v : Value) → IsAnother (list_length v)
list_length_another (list vs) = tt
list_length_another v = badarg_another

element_at_another : (n : ℕ) (vs : Values) → IsAnother (element_at n vs)
element_at_another n none = badarg_another
element_at_another zero (more v vs) = badarg_another
element_at_another (suc zero) (more v vs) = tt
element_at_another (suc (suc n)) (more v vs) = element_at_another (suc n) vs

pub element_another : (v w : Value) → IsAnother (element_of v w)
element_another (int (pos n)) (tuple vs) = element_at_another n vs
element_another v w = badarg_another

pub tuple_length_another : (v : Value) → IsAnother (tuple_length v)
tuple_length_another (tuple vs) = tt
tuple_length_another v = badarg_another
