-- A walk through a pattern and a value, that takes no memory: what was bound is found again in the value.
use Rattle.std.specs.Prelude.{◌≡◌, ◌<◌, ◌^◌, ℕ, ◌+◌, List, ◌++◌, length, take, drop, Option, option_map, IfSome}
use Rattle.pf_terms.specs.Value.{Value, Values}
use Rattle.pf_terms.specs.Term.{value_of}
use Rattle.pf_syntax.specs.Pattern.{Pattern, Patterns, cons_of}
use Rattle.pf_syntax.specs.Module.{Tables, pattern_at}
use Rattle.pf_syntax.specs.Over.{patterns_at}
use Rattle.pf_syntax.specs.declared.node.PatternId.{PatternId}
use Rattle.pf_patterns.specs.Fit.{ValueScope, fit, fit_all}
use Rattle.pf_patterns.specs.Scopes.{scope_of}
use Rattle.pf_patterns.specs.Bindings.{bindings, all_bindings}
use Rattle.pf_patterns.specs.declared.trying.PatternWalk.{PatternWalk}

-- the numbers of the module
abbrev pub tables_in : PatternWalk → Tables
tables_in w = w.code.now.tables

-- a pattern of the module, several, and that of a list by its first element and its tail
abbrev pub part_at : PatternWalk → PatternId → Pattern
part_at w p = pattern_at (tables_in w) p.0

abbrev pub pattern_parts : PatternWalk → List PatternId → Patterns
pattern_parts w ps = patterns_at (tables_in w) ps

abbrev pub cons_at : PatternWalk → PatternId → PatternId → Pattern
cons_at w p q = cons_of (part_at w p) (part_at w q)

-- all that the whole pattern binds in the whole value
abbrev pub all_of : PatternWalk → ValueScope
all_of w = bindings (part_at w w.pattern) (value_of w.value.now)

-- the variables in scope when n are bound
abbrev pub scope_at : PatternWalk → ℕ → ValueScope
scope_at w n = scope_of w.scope.now ++ take n (all_of w)

-- these bindings are at slot n among all
pub record IsBoundFrom (all : ValueScope) (n : ℕ) (these : ValueScope) : Type 0 where
  pub rest : ValueScope
  pub is : drop n all ≡ these ++ rest
  pub few : length all < 2 ^ 32

-- the fit of a part that binds these, where n were bound: how many then are
pub record Walked (w : PatternWalk) (n : ℕ) (these : ValueScope) (meant : ValueScope → Option ValueScope)
    (result : Option ℕ) : Type 0 where
  pub fit : meant (scope_at w n) ≡ option_map (scope_at w) result
  pub count : IfSome result (λ m. m ≡ n + length these)

-- a part of the pattern at a part of the value, and several
abbrev pub IsAtPart : PatternWalk → ℕ → Pattern → Value → Type 0
IsAtPart w n p v = IsBoundFrom (all_of w) n (bindings p v)

abbrev pub WalkedAt : PatternWalk → ℕ → Pattern → Value → Option ℕ → Type 0
WalkedAt w n p v result = Walked w n (bindings p v) (fit p v) result

abbrev pub AllAreAt : PatternWalk → ℕ → Patterns → Values → Type 0
AllAreAt w n ps vs = IsBoundFrom (all_of w) n (all_bindings ps vs)

abbrev pub AllWalkedAt : PatternWalk → ℕ → Patterns → Values → Option ℕ → Type 0
AllWalkedAt w n ps vs result = Walked w n (all_bindings ps vs) (fit_all ps vs) result
