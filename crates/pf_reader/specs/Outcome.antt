-- What the outcome of reading says of the tokens.
use Rattle.std.specs.Prelude.{◌≡◌, ℕ, List, Result, Ok, Err}
use Rattle.pf_errors.specs.declared.code.Code.{Code}
use Rattle.pf_errors.specs.declared.code.Code.TheVariants.{NoHead, NotGrammar}
use Rattle.pf_errors.specs.declared.fault.OrNoMemory.{OrNoMemory}
use Rattle.pf_errors.specs.declared.fault.OrNoMemory.TheVariants.{NoMemory, Fault}
use Rattle.pf_errors.specs.declared.refusal.SourceRefusal.{SourceRefusal}
use Rattle.pf_reader.specs.declared.read.ParsedModule.{ParsedModule}
use Rattle.pf_tokens.specs.NumberedTokens.{NumberedToken}
use Rattle.pf_tokens.specs.Offsets.{IsOffsetOf}
use Rattle.pf_grammar.specs.Grammar.{tree_of, DerivesTree, HasHead, Tree}

-- the outcome is this module, unless memory ran out
abbrev pub IsParsedAs : Tree → Result ParsedModule (OrNoMemory SourceRefusal) → Type 0
IsParsedAs m (Ok t) = tree_of t.syntax ≡ m
IsParsedAs m (Err NoMemory) = Unit {0}
IsParsedAs m (Err _) = ⊥

-- a refusal of the tokens: they have no first form, or they have one and are no module
abbrev pub IsRefusedSource : List (List ℕ) → List NumberedToken → ℕ → Code → ℕ → Type 0
IsRefusedSource atoms ts end NoHead offset = (HasHead atoms ts → ⊥) × (offset ≡ 0)
IsRefusedSource atoms ts end NotGrammar offset = HasHead atoms ts × ((m : Tree) → DerivesTree atoms m ts → ⊥)
    × IsOffsetOf ts end offset
IsRefusedSource atoms ts end _ offset = ⊥

-- out of memory says nothing of the tokens
abbrev pub IsTreeFault : List (List ℕ) → List NumberedToken → ℕ → OrNoMemory SourceRefusal → Type 0
IsTreeFault atoms ts end NoMemory = Unit {0}
IsTreeFault atoms ts end (Fault r) = IsRefusedSource atoms ts end r.code r.offset
