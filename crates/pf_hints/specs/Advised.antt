-- What is said of a refusal.
use Rattle.std.specs.Prelude.{◌≡◌, ◌⊎◌, ◌≤◌, ℕ, List, Some, length}
use Rattle.pf_errors.specs.declared.code.Code.{Code}
use Rattle.pf_diagnostics.specs.declared.advice.Advice.{Advice}
use Rattle.pf_diagnostics.specs.declared.advice.Rewrite.{Rewrite}
use Rattle.pf_diagnostics.specs.Sentences.{IsPlainAdvice}

-- at a position within the source a construct is shown by an example with how it is written here
abbrev pub ShowsRewrite : (source : List ℕ) → Advice → Type 0
ShowsRewrite source a = (a.position ≤ length source) × ((r : Rewrite) × (a.rewrite ≡ Some r))

-- what is said of a source is the sentence of the code at the offset, or shows how a construct is written
abbrev pub IsAdvice : (source : List ℕ) → Code → (offset : ℕ) → Advice → Type 0
IsAdvice source code offset a = IsPlainAdvice code offset a ⊎ ShowsRewrite source a
