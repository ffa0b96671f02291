-- What is reported of a source that is refused.
use Rattle.std.specs.Prelude.{◌≡◌, ◌+◌, ◌-◌, ℕ, List, ◌∷◌, ◌++◌, length, min, take, drop}
use Rattle.std.specs.List.{All}
use Rattle.pf_errors.specs.declared.code.Code.{Code}
use Rattle.pf_check.specs.Reads.{Reads, refused}
use Rattle.pf_diagnostics.specs.declared.advice.Advice.{Advice}
use Rattle.pf_hints.specs.Advised.{IsAdvice}
use Rattle.pf_hints.specs.Fixed.{IsFixed}
use Rattle.pf_hints.specs.declared.alone.TheConstants.{HEAD}

-- the part of a source between two offsets
abbrev pub part_of : (source : List ℕ) (start end : ℕ) → List ℕ
part_of source start end = take (end - start) (drop start source)

-- IsFault source code offset: a source has this fault
pub data IsFault (source : List ℕ) : Code → (offset : ℕ) → Type 0 where
  -- a part of it is refused so by itself, after the head of a module
  alone : (start end at : ℕ) (code : Code) → Reads (HEAD.now ++ part_of source start end) (refused code at)
      → IsFault source code (min (at - length HEAD.now + start) (length source))
  -- it is refused so once other faults are taken out
  fixed : (rest : List ℕ) (offset : ℕ) (code : Code) → IsFixed source rest → Reads rest (refused code offset)
      → IsFault source code offset

-- what is said is advice on a fault of the source
abbrev pub IsOfFault : (source : List ℕ) → Advice → Type 0
IsOfFault source a = (code : Code) × (offset : ℕ) × IsFault source code offset × IsAdvice source code offset a

-- the refusal is reported, by what is said of it, between other faults before and after it
abbrev pub ReportsRefusal : (source : List ℕ) → Code → (offset : ℕ) → List Advice → Type 0
ReportsRefusal source code offset reported =
    (front : List Advice) × (a : Advice) × (after : List Advice) × IsAdvice source code offset a
    × All (IsOfFault source) front × All (IsOfFault source) after
    × (reported ≡ front ++ a ∷ after)
