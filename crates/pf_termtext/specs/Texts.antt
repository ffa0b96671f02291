-- Which value a text is of.
use Rattle.std.specs.Prelude.{◌≡◌, ◌<◌, ◌^◌, ℕ, ℤ, pos, negsuc, List, length, codes}
use Rattle.pf_errors.specs.declared.fault.OrNoMemory.{OrNoMemory}
use Rattle.pf_errors.specs.declared.fault.OrNoMemory.TheVariants.{Fault}
use Rattle.pf_terms.specs.Atoms.{name_of}
use Rattle.pf_terms.specs.Order.{Distinguishes}
use Rattle.pf_terms.specs.Value.{Value, Values, int, atom, ref, pid, tuple, list, none, more, IsWithinLimits}
use Rattle.pf_model.specs.TermText.{value_text}
use Rattle.pf_termtext.specs.declared.fault.NoTerm.{NoTerm}

-- an integer of 64 bits
abbrev pub Has64Bits : ℤ → Type 0
Has64Bits (pos n) = n < 2 ^ 63
Has64Bits (negsuc n) = n < 2 ^ 63

-- a value has no process and no reference, its integers have 64 bits, and its atoms are among the first n
abbrev mutual
  pub CanBeRead : ℕ → Value → Type 0
  CanBeRead n (int z) = Has64Bits z
  CanBeRead n (atom a) = a < n
  CanBeRead n (ref r) = ⊥
  CanBeRead n (pid p) = ⊥
  CanBeRead n (tuple vs) = AllCanBeRead n vs
  CanBeRead n (list vs) = AllCanBeRead n vs

  pub AllCanBeRead : ℕ → Values → Type 0
  AllCanBeRead n none = Unit {0}
  AllCanBeRead n (more v vs) = CanBeRead n v × AllCanBeRead n vs

-- the bytes are what is printed of this value, which a term can be that has no process and no reference
pub record IsTextOf (names : List (List ℕ)) (bytes : List ℕ) (v : Value) : Type 0 where
  pub printed : bytes ≡ value_text (name_of names) v
  pub readable : CanBeRead (length names) v
  pub within : IsWithinLimits v

-- in a table that has no name twice, no text is of two values
abbrev pub NoTextOfTwo : Type 0
NoTextOfTwo =
    (names : List (List ℕ)) (bytes : List ℕ) (v w : Value) → Distinguishes (name_of names) (length names)
    → IsTextOf names bytes v → IsTextOf names bytes w → v ≡ w

-- what is printed of a value that can be read, within the limits, is of this value and of no other
abbrev pub PrintedIsReadBack : Type 0
PrintedIsReadBack =
    (names : List (List ℕ)) (v : Value) → Distinguishes (name_of names) (length names)
    → CanBeRead (length names) v → IsWithinLimits v
    → let bytes = value_text (name_of names) v in IsTextOf names bytes v × ((w : Value)
    → IsTextOf names bytes w → w ≡ v)

-- the text is refused
abbrev pub no_term : OrNoMemory NoTerm
no_term = Fault (record {})

-- the text of a refusal
abbrev pub no_term_text : List ℕ
no_term_text = codes "X1"
