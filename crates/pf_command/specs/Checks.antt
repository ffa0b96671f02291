-- What a source is answered with that is only checked: the text that is written and the status.
use Rattle.std.specs.Prelude.{◌≡◌, ℕ, Bool, true, false, List, [], ◌++◌, codes}
use Rattle.pf_errors.specs.Codes.{refusal_text}
use Rattle.pf_errors.specs.declared.code.Code.{Code}
use Rattle.pf_model.specs.TermText.{line}
use Rattle.pf_syntax.specs.Tree.{Program}
use Rattle.pf_check.specs.Reads.{Reads, accepted, refused}
use Rattle.pf_diagnostics.specs.Explanation.{explanations}
use Rattle.pf_diagnostics.specs.declared.advice.Advice.{Advice}
use Rattle.pf_hints.specs.Faults.{ReportsRefusal}
use Rattle.pf_command.specs.declared.answer.Output.{Output}

-- ExplainsRefusal bytes code offset explain text: what follows the line of a refusal is this text: nothing, or where
-- that is asked for explanations of faults, among them that of the refusal
pub data ExplainsRefusal (bytes : List ℕ) (code : Code) (offset : ℕ) : (explain : Bool) → List ℕ → Type 0 where
  unasked : ExplainsRefusal bytes code offset false []
  asked : (reported : List Advice) → ReportsRefusal bytes code offset reported
      → ExplainsRefusal bytes code offset true (explanations bytes reported)

-- Checks explain bytes text status: a source of these bytes is answered with this text and this status
pub data Checks (explain : Bool) (bytes : List ℕ) : List ℕ → ℕ → Type 0 where
  -- the source is a module
  is_module : (name : ℕ) (atoms : List (List ℕ)) (functions : Program) → Reads bytes (accepted name atoms functions)
      → Checks explain bytes (line (codes "ok")) 0
  -- the source is refused
  is_refused : (code : Code) (offset : ℕ) (more : List ℕ) → Reads bytes (refused code offset)
      → ExplainsRefusal bytes code offset explain more
      → Checks explain bytes (line (refusal_text code offset) ++ more) 2

-- ---- the code's own answers

-- the answer is the line of a refusal, with what follows it
abbrev pub IsCheckRefused : (explain : Bool) → (bytes : List ℕ) → Code → (offset : ℕ) → Output → Type 0
IsCheckRefused explain bytes code offset a =
    (more : List ℕ) × ExplainsRefusal bytes code offset explain more
    × (a.text.items ≡ line (refusal_text code offset) ++ more) × (a.status ≡ 2)
