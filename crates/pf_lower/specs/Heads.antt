-- Clauses of functions, and functions, as they were built.
use Rattle.std.specs.Prelude.{◌≡◌, ℕ, List, [], flat_map, map, Option, Some, None}
use Rattle.std.specs.List.{All}
use Rattle.pf_syntax.specs.SyntaxTree.{Head, Export}
use Rattle.pf_syntax.specs.Naming.{HeadIs}
use Rattle.pf_syntax.specs.Module.{Checked}
use Rattle.pf_syntax.specs.Over.{function_clause_over, function_over}
use Rattle.pf_syntax.specs.Within.{FunctionClauseRepresents, FunctionRepresents}
use Rattle.pf_syntax.specs.declared.node.FunctionClause.{FunctionClause}
use Rattle.pf_syntax.specs.declared.node.Function.{Function}
use Rattle.pf_rules.specs.Static.{names_of_module, head_faults}
use Rattle.pf_rules.specs.Formed.{AreFormed, HeadFormed, FunctionFormed}
use Rattle.pf_rules.specs.Checks.{FunctionIs, Pairwise}

-- the first of two that there is
abbrev pub first_of : Option ℕ → Option ℕ → Option ℕ
first_of (Some x) other = Some x
first_of None other = other

-- a clause of a function
pub record HeadMeans (fs : List (List Head)) (m : Checked) (h : Head) (c : FunctionClause) : Type 0 where
  pub is_there : FunctionClauseRepresents m.tables c
  pub means : HeadFormed h → head_faults (names_of_module m.atoms fs) h ≡ []
      → HeadIs (names_of_module m.atoms fs) h (function_clause_over m.tables c)

-- all clauses of a function
pub record HeadsMean (fs : List (List Head)) (m : Checked) (hs : List Head) (cs : List FunctionClause) : Type 0 where
  pub is_there : All (FunctionClauseRepresents m.tables) cs
  pub means : All HeadFormed hs → flat_map (head_faults (names_of_module m.atoms fs)) hs ≡ []
      → Pairwise (HeadIs (names_of_module m.atoms fs)) hs (map (function_clause_over m.tables) cs)

-- a function
pub record FunctionMeans (fs : List (List Head)) (exports : List Export) (m : Checked) (hs : List Head)
    (f : Function) : Type 0 where
  pub is_there : FunctionRepresents m.tables f
  pub means : FunctionFormed hs → flat_map (head_faults (names_of_module m.atoms fs)) hs ≡ []
      → FunctionIs (names_of_module m.atoms fs) exports hs (function_over m.tables f)

-- the functions of a syntax tree were added to a module that had none
pub record FunctionsAdded (fs : List (List Head)) (exports : List Export) (old new : Checked) : Type 0 where
  pub name : new.name ≡ old.name
  pub atoms : new.atoms ≡ old.atoms
  pub means : AreFormed fs → flat_map (flat_map (head_faults (names_of_module old.atoms fs))) fs ≡ []
      → Pairwise (FunctionIs (names_of_module old.atoms fs) exports) fs new.functions
