use Rattle.std.proofs.Common.{◌≡◌, ◌<◌, ◌+◌, ℕ, List, [], ◌∷◌, ◌++◌, ap, ◌∙◌, arith}
use Rattle.std.specs.Prelude.{codes}
use Rattle.std.specs.Fmt.{decimal}
use Rattle.std.proofs.lemmas.Fmt.{decimal_digit}
use Rattle.pf_errors.specs.Codes.{no_memory_text}
use Rattle.pf_model.specs.TermText.{line}
use Rattle.pf_world.proofs.laws.worked_texts.Goals as goal

-- numbers of one digit are written as these are
one : (f : List ℕ → List ℕ) (m : ℕ) → m < 10 → f (decimal m) ≡ f ((48 + m) ∷ [])
one f m h = ap f (decimal_digit m h)

two : (f : List ℕ → List ℕ → List ℕ) (m n : ℕ) → m < 10 → n < 10
    → f (decimal m) (decimal n) ≡ f ((48 + m) ∷ []) ((48 + n) ∷ [])
two f m n h k = one (λ a. f a (decimal n)) m h ∙ one (f ((48 + m) ∷ [])) n k

pub returns : goal.returns
returns c = (
  one (λ a. line (codes "w" ++ a ++ codes " " ++ codes "done")) 3 (omega arith),
  two (λ a b. line (codes "w" ++ a ++ codes " " ++ (codes "not now " ++ (codes "N" ++ b)))) 5 2
      (omega arith) (omega arith),
  two (λ a b. line (codes "w" ++ a ++ codes " " ++ (codes "stray " ++ (codes "N" ++ b)))) 0 1
      (omega arith) (omega arith),
  one (λ a. line (codes "w" ++ a ++ codes " " ++ codes "no memory")) 1 (omega arith),
  two (λ a b. line (codes "p" ++ a ++ codes " " ++ (codes "module " ++ b)) ++ []) 7 1 (omega arith) (omega arith),
  one (λ a. line (codes "p" ++ a ++ codes " " ++ (codes "refused " ++ no_memory_text))) 7 (omega arith),
)
