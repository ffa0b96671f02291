-- The checked module of a module without faults: each name is a slot or a number.
use Rattle.std.specs.Prelude.{◌≡◌, ℕ, Bool, ◌==◌, ◌&&◌, List, [], ◌∷◌}
use Rattle.std.specs.List.{list_any}
use Rattle.pf_syntax.specs.Tree.{Function}
use Rattle.pf_syntax.specs.Module.{Checked}
use Rattle.pf_syntax.specs.SyntaxTree.{Export, Head}
use Rattle.pf_syntax.specs.Naming.{Names, HeadIs}
use Rattle.pf_syntax.specs.ExprModule.{Tree}
use Rattle.pf_rules.specs.Static.{parameters_of, names_of_module}

-- two lists of the same length, each item of one to its item of the other
abbrev pub Pairwise : {A B : Type 0} → (A → B → Type 0) → List A → List B → Type 0
Pairwise R [] [] = Unit {0}
Pairwise R (a ∷ xs) (b ∷ ys) = R a b × Pairwise R xs ys
Pairwise R _ _ = ⊥

-- whether a name with this number of arguments is exported
abbrev pub is_exported : List Export → ℕ → ℕ → Bool
is_exported exports f arity = list_any (λ e. (e.name == f) && (e.arity == arity)) exports

-- a function is named by its first head, and each head becomes a clause
abbrev pub FunctionIs : Names → List Export → List Head → Function → Type 0
FunctionIs n exports [] f = ⊥
FunctionIs n exports (h ∷ hs) f =
    (f.name ≡ h.name) × (f.arity ≡ parameters_of h.parameters)
    × (f.exported ≡ is_exported exports h.name (parameters_of h.parameters))
    × Pairwise (HeadIs n) (h ∷ hs) f.clauses

-- the module, whose functions keep their order
pub record IsModule (atoms : List (List ℕ)) (m : Tree) (c : Checked) : Type 0 where
  pub name : c.name ≡ m.name
  pub atoms_are : c.atoms ≡ atoms
  pub functions : Pairwise (FunctionIs (names_of_module atoms m.functions) m.exports) m.functions c.functions
