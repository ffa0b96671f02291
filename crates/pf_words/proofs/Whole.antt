-- What is read of a file with room for one byte more than it may have.
use Rattle.std.proofs.Common.{◌≡◌, ℕ, ◌+◌, ◌≤◌, List, length, Option, None, Some, ap, ◌∙◌, min, arith}
use Rattle.std.specs.Prelude.{IfSome, take}
use Rattle.std.proofs.lemmas.List.{length-take, take_all}

-- a beginning that is shorter than it may be is all of it
module _ (most : ℕ) (input bytes : List ℕ) (is : bytes ≡ take (most + 1) input) (short : length bytes ≤ most) where
  all_fits : length input ≤ most + 1
  all_fits =
      let e : length bytes ≡ min (most + 1) (length input) = ap length is ∙ length-take (most + 1) input in
      omega arith

  pub all_read : bytes ≡ input
  all_read = is ∙ take_all (most + 1) input all_fits

pub never_cut : (most : ℕ) (unread : Option (List ℕ)) (bytes text : List ℕ) → text ≡ bytes
    → IfSome unread (λ input. bytes ≡ take (most + 1) input)
    → length bytes ≤ most → IfSome unread (λ input. text ≡ input)
never_cut most None bytes text is read short = tt
never_cut most (Some input) bytes text is read short = is ∙ all_read most input bytes read short
