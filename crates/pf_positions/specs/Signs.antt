-- The signs of nodes.
use Rattle.std.specs.Prelude.{ℕ}
use Rattle.pf_positions.specs.declared.sign.Sign.{Sign}
use Rattle.pf_positions.specs.declared.sign.Sign.TheVariants.{Receive, Case, If, AndAlso, OrElse, Send, Match, Name}
use Rattle.pf_positions.specs.declared.sign.Sign.TheVariants.{Brace, Plus, Minus, Times, Quotient, Remainder, Append}
use Rattle.pf_positions.specs.declared.sign.Sign.TheVariants.{Equal, Unequal, Less, AtMost, Greater, AtLeast, Unwritten}
use Rattle.pf_syntax.specs.declared.operator.Operator.TheVariants as operators
use Rattle.pf_syntax.specs.declared.operator.Operator.{Operator}

-- the number of a sign
abbrev pub sign_number : Sign → ℕ
sign_number Receive = 0
sign_number Case = 1
sign_number If = 2
sign_number AndAlso = 3
sign_number OrElse = 4
sign_number Send = 5
sign_number Match = 6
sign_number Name = 7
sign_number Brace = 8
sign_number Plus = 9
sign_number Minus = 10
sign_number Times = 11
sign_number Quotient = 12
sign_number Remainder = 13
sign_number Append = 14
sign_number Equal = 15
sign_number Unequal = 16
sign_number Less = 17
sign_number AtMost = 18
sign_number Greater = 19
sign_number AtLeast = 20
sign_number Unwritten = 21

-- the sign of an operator
abbrev pub operator_sign : Operator → Sign
operator_sign operators.Plus = Plus
operator_sign operators.Minus = Minus
operator_sign operators.Times = Times
operator_sign operators.Quotient = Quotient
operator_sign operators.Remainder = Remainder
operator_sign operators.Append = Append
operator_sign operators.Equal = Equal
operator_sign operators.Unequal = Unequal
operator_sign operators.Less = Less
operator_sign operators.AtMost = AtMost
operator_sign operators.Greater = Greater
operator_sign operators.AtLeast = AtLeast
