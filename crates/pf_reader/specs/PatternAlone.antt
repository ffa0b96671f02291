-- A pattern by itself: the tokens of a text are one pattern of the grammar, and nothing follows it.
use Rattle.std.specs.Prelude.{◌≡◌, ◌≤◌, ℕ, List, [], ◌∷◌, Option, Some, None, Result, Ok, Err}
use Rattle.pf_errors.specs.declared.code.Code.{Code}
use Rattle.pf_errors.specs.declared.code.Code.TheVariants.{NoProperty}
use Rattle.pf_errors.specs.declared.fault.OrNoMemory.{OrNoMemory}
use Rattle.pf_errors.specs.declared.fault.OrNoMemory.TheVariants.{NoMemory, Fault}
use Rattle.pf_tokens.specs.TokenKinds.{PlacedToken, own_module}
use Rattle.pf_syntax.specs.SyntaxTree.{expr_pattern_at}
use Rattle.pf_syntax.specs.ExprPattern.{ExprPattern, expr_pattern_depth}
use Rattle.pf_tokens.specs.declared.limits.TheConstants.{MOST_TREE_DEPTH}
use Rattle.pf_tokens.specs.NumberedTokens.{atoms_after, numbered_after, NumberedToken}
use Rattle.pf_grammar.specs.Grammar.{DerivesExprPattern, TokenNames}
use Rattle.pf_reader.specs.declared.pattern_alone.ReadPattern.{ReadPattern}

-- no token is `?MODULE`
abbrev pub LacksModule : List PlacedToken → Type 0
LacksModule [] = Unit {0}
LacksModule (t ∷ ts) = (t.kind ≡ own_module → ⊥) × LacksModule ts

-- what numbers in the tokens stand for, where those of atoms go on from these names. The own name is asked for at
-- `?MODULE` alone, which no token is, so its number doesn't matter
abbrev pub names_after : List (List ℕ) → List PlacedToken → TokenNames
names_after names ts = record { atoms = atoms_after names ts; own = 0 }

-- the pattern is written with these tokens from the first to the last, none of which is `?MODULE`, and isn't too deep
pub record DerivesPatternAlone (names : List (List ℕ)) (q : ExprPattern) (ts : List PlacedToken) : Type 0 where
  pub no_module : LacksModule ts
  pub derives : DerivesExprPattern (names_after names ts) q (numbered_after names ts)
  pub shallow : expr_pattern_depth q ≤ MOST_TREE_DEPTH

-- ---- what the outcome of reading says of the tokens

-- the pattern that was read
abbrev pub pattern_of : ReadPattern → ExprPattern
pattern_of r = expr_pattern_at r.syntax.node_table r.pattern.0

-- the outcome is this pattern, unless memory ran out
abbrev pub IsPatternReadAs : ExprPattern → Result ReadPattern (OrNoMemory Code) → Type 0
IsPatternReadAs q (Ok r) = pattern_of r ≡ q
IsPatternReadAs q (Err NoMemory) = Unit {0}
IsPatternReadAs q (Err (Fault c)) = ⊥

-- a refusal is that there is no such property, and no pattern derives the tokens; out of memory says nothing of them
abbrev pub IsNoPattern : List (List ℕ) → List PlacedToken → OrNoMemory Code → Type 0
IsNoPattern names ts NoMemory = Unit {0}
IsNoPattern names ts (Fault c) = (c ≡ NoProperty) × ((q : ExprPattern) → DerivesPatternAlone names q ts → ⊥)

-- ---- reading from left to right

-- a pattern that was read, where nothing follows it
abbrev pub pattern_alone : Option (ExprPattern × List NumberedToken) → Option ExprPattern
pattern_alone None = None
pattern_alone (Some (q, [])) = Some q
pattern_alone (Some (q, t ∷ ts)) = None
