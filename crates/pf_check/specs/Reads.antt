-- What reading a source gives.
use Rattle.std.specs.Prelude.{◌≡◌, ℕ, List, [], length}
use Rattle.pf_errors.specs.declared.code.Code.{Code}
use Rattle.pf_errors.specs.declared.code.Code.TheVariants.{NoHead, NotGrammar}
use Rattle.pf_errors.specs.declared.fault.OrNoMemory.{OrNoMemory}
use Rattle.pf_errors.specs.declared.fault.OrNoMemory.TheVariants.{NoMemory, Fault}
use Rattle.pf_errors.specs.declared.refusal.SourceRefusal.{SourceRefusal}
use Rattle.pf_tokens.specs.TokenKinds.{PlacedToken}
use Rattle.pf_tokens.specs.Rules.{HasTokens, HasFault}
use Rattle.pf_syntax.specs.Tree.{Program}
use Rattle.pf_syntax.specs.Module.{Checked}
use Rattle.pf_tokens.specs.NumberedTokens.{atoms_of, numbered_tokens}
use Rattle.pf_grammar.specs.Grammar.{HasHead, DerivesTree}
use Rattle.pf_syntax.specs.ExprModule.{Tree}
use Rattle.pf_tokens.specs.Offsets.{IsOffsetOf}
use Rattle.pf_rules.specs.Static.{faults_of, IsFirst}
use Rattle.pf_rules.specs.Checks.{IsModule}

-- a source is a module, seen by its name, its atoms and its functions, or is refused with a code and an offset
pub data ReadOutcome : Type 0 where
  accepted : ℕ → List (List ℕ) → Program → ReadOutcome
  refused : Code → ℕ → ReadOutcome

abbrev pub accepted_as : Checked → ReadOutcome
accepted_as m = accepted m.name m.atoms m.functions

-- Reads bytes outcome: the first fault of the tokens, and its offset; else that the first form isn't `-module(Atom).`;
-- else that the grammar derives no tree, at one of the tokens or at the end; else the first static fault, and its
-- offset; else the checked module
pub data Reads (bytes : List ℕ) : ReadOutcome → Type 0 where
  token_fault : (code : Code) (at : ℕ) → HasFault bytes code at → Reads bytes (refused code at)
  no_head : (ts : List PlacedToken) → HasTokens bytes ts → (HasHead (atoms_of ts) (numbered_tokens ts) → ⊥)
      → Reads bytes (refused NoHead 0)
  no_tree : (ts : List PlacedToken) (at : ℕ) → HasTokens bytes ts → HasHead (atoms_of ts) (numbered_tokens ts)
      → ((m : Tree) → DerivesTree (atoms_of ts) m (numbered_tokens ts) → ⊥)
      → IsOffsetOf (numbered_tokens ts) (length bytes) at → Reads bytes (refused NotGrammar at)
  static : (ts : List PlacedToken) (m : Tree) (f : SourceRefusal) → HasTokens bytes ts
      → DerivesTree (atoms_of ts) m (numbered_tokens ts)
      → IsFirst (faults_of (atoms_of ts) m) f → Reads bytes (refused f.code f.offset)
  checked : (ts : List PlacedToken) (m : Tree) (c : Checked) → HasTokens bytes ts
      → DerivesTree (atoms_of ts) m (numbered_tokens ts)
      → faults_of (atoms_of ts) m ≡ [] → IsModule (atoms_of ts) m c → Reads bytes (accepted_as c)

-- out of memory says nothing of the bytes, and a refusal is what they are read as
abbrev pub IsRefusalOf : List ℕ → OrNoMemory SourceRefusal → Type 0
IsRefusalOf bytes NoMemory = Unit {0}
IsRefusalOf bytes (Fault r) = Reads bytes (refused r.code r.offset)

-- out of memory says nothing of the faults, and a refusal is their first
abbrev pub IsFirstOf : List SourceRefusal → OrNoMemory SourceRefusal → Type 0
IsFirstOf found NoMemory = Unit {0}
IsFirstOf found (Fault r) = IsFirst found r

-- the same module, or the same refusal at the same offset, but for the offset of E5
abbrev pub SameOutcome : ReadOutcome → ReadOutcome → Type 0
SameOutcome (accepted name atoms functions) (accepted other_name other_atoms other_functions) =
    (name ≡ other_name) × (atoms ≡ other_atoms) × (functions ≡ other_functions)
SameOutcome (refused code offset) (refused other_code other_offset) = (code ≡ other_code) × ((code ≡ NotGrammar → ⊥)
    → offset ≡ other_offset)
SameOutcome _ _ = ⊥
