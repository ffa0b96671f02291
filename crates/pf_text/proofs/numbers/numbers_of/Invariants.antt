use Rattle.std.proofs.Common.{◌≡◌, Some}
use Rattle.std.specs.Prelude.{map}
use Rattle.pf_text.specs.Numbers.{numbers_of_texts}
use Rattle.pf_text.proofs.numbers.numbers_of.Given as goal

-- the numbers of the pieces so far
abbrev pub invariant-loop-piece : goal.invariant-loop-piece
invariant-loop-piece l = numbers_of_texts (map (λ p. p.now) l.yielded) ≡ Some l.numbers.items
