-- The texts of properties: which property the bytes are, where a table names the atoms of a run.
use Rattle.std.specs.Prelude.{◌≡◌, ℕ, List, ◌++◌, Option, Some, None, codes}
use Rattle.pf_errors.specs.declared.code.Code.{Code}
use Rattle.pf_errors.specs.declared.code.Code.TheVariants.{NoProperty}
use Rattle.pf_errors.specs.declared.fault.OrNoMemory.{OrNoMemory}
use Rattle.pf_errors.specs.declared.fault.OrNoMemory.TheVariants.{NoMemory, Fault}
use Rattle.pf_tokens.specs.TokenKinds.{PlacedToken}
use Rattle.pf_tokens.specs.Rules.{HasTokens, HasSomeTokens}
use Rattle.pf_syntax.specs.Pattern.{Pattern}
use Rattle.pf_syntax.specs.ExprPattern.{ExprPattern}
use Rattle.pf_syntax.specs.Scope.{no_scope}
use Rattle.pf_syntax.specs.Naming.{ExprPatternIs}
use Rattle.pf_reader.specs.PatternAlone.{DerivesPatternAlone}
use Rattle.pf_lower.specs.Alone.{only_atoms}
use Rattle.pf_model.specs.Properties.{Property, returns, returns_true, no_crash, no_deadlock, within_limit, never}

-- the text is a pattern: its tokens are a pattern by itself, and this is what that becomes where no variable is bound.
-- Its atoms go by their numbers in the table, where those that the table lacks go on
pub record ReadsPattern (names : List (List ℕ)) (text : List ℕ) (p : Pattern) : Type 0 where
  pub tokens : List PlacedToken
  pub has_tokens : HasTokens text tokens
  pub written : ExprPattern
  pub derives : DerivesPatternAlone names written tokens
  pub becomes : ExprPatternIs only_atoms no_scope written p

-- the bytes are the property
abbrev pub ReadsProperty : List (List ℕ) → List ℕ → Property → Type 0
ReadsProperty names bytes returns = bytes ≡ codes "returns"
ReadsProperty names bytes returns_true = bytes ≡ codes "true"
ReadsProperty names bytes no_crash = bytes ≡ codes "nocrash"
ReadsProperty names bytes no_deadlock = bytes ≡ codes "nodeadlock"
ReadsProperty names bytes within_limit = bytes ≡ codes "withinlimit"
ReadsProperty names bytes (never p) = (text : List ℕ) × (bytes ≡ codes "never:" ++ text) × ReadsPattern names text p

-- the bytes are this property, or none
abbrev pub IsPropertyOf : List (List ℕ) → List ℕ → Option Property → Type 0
IsPropertyOf names bytes (Some p) = ReadsProperty names bytes p
IsPropertyOf names bytes None = (p : Property) → ReadsProperty names bytes p → ⊥

-- ---- refusals: out of memory says nothing of the bytes, and a fault is that there is no such property

-- the text has no tokens
abbrev pub HasNoTokens : List ℕ → OrNoMemory Code → Type 0
HasNoTokens text NoMemory = Unit {0}
HasNoTokens text (Fault c) = (c ≡ NoProperty) × (HasSomeTokens text → ⊥)

-- the text is no pattern
abbrev pub IsNoPatternText : List (List ℕ) → List ℕ → OrNoMemory Code → Type 0
IsNoPatternText names text NoMemory = Unit {0}
IsNoPatternText names text (Fault c) = (c ≡ NoProperty) × ((p : Pattern) → ReadsPattern names text p → ⊥)

-- the bytes are no property
abbrev pub IsNoPropertyText : List (List ℕ) → List ℕ → OrNoMemory Code → Type 0
IsNoPropertyText names bytes NoMemory = Unit {0}
IsNoPropertyText names bytes (Fault c) = (c ≡ NoProperty) × IsPropertyOf names bytes None
