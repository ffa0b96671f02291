-- What is known of the numbers that words name for an exploration.
use Rattle.std.proofs.Common.{ℕ, ◌<◌, ◌≤◌, Option, None, Some, refl, arith}
use Rattle.std.specs.Prelude.{IfSome}
use Rattle.std.specs.Option.{ForSome}

-- deviations that are few enough for words are few enough for an exploration
pub few_enough : (o : Option ℕ) → ForSome o (λ k. k ≤ 100000) → IfSome o (λ k. k < 4294967295)
few_enough None few = tt
few_enough (Some k) few = let bound = few k refl in omega arith
