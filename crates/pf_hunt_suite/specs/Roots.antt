-- Which roots of a source are hunted.
use Rattle.std.specs.Prelude.{◌≡◌, ℕ, Bool, ◌==◌, ◌&&◌, ◌||◌, nat_eq, not, if◌then◌else◌, List, [], ◌∷◌, ◌++◌, fold}
use Rattle.std.specs.Prelude.{codes, map}
use Rattle.std.specs.List.{ends_with, filter, list_any}
use Rattle.std.specs.Str.{bytes_eq}
use Rattle.pf_terms.specs.Atoms.{name_of}
use Rattle.pf_tokens.specs.TokenKinds.{PlacedToken}
use Rattle.pf_tokens.specs.Rules.{HasTokens}
use Rattle.pf_tokens.specs.NumberedTokens.{atoms_of, numbered_tokens}
use Rattle.pf_grammar.specs.Grammar.{DerivesTree}
use Rattle.pf_syntax.specs.ExprModule.{Tree}
use Rattle.pf_syntax.specs.SyntaxTree.{Export}
use Rattle.pf_cli.specs.declared.args.Roots.{Roots}
use Rattle.pf_cli.specs.declared.args.Roots.TheVariants.{Main, Named, Every}

-- an entry without arguments whose name isn't among these atoms
abbrev pub is_new_root : (atoms : List ℕ) → Export → Bool
is_new_root atoms e = (e.arity == 0) && not (list_any (λ a. nat_eq a e.name) atoms)

abbrev pub name_with_root : (atoms : List ℕ) → Export → List ℕ
name_with_root atoms e = if is_new_root atoms e then atoms ++ e.name ∷ [] else atoms

-- the names of the entries without arguments, in the order of the export list, each where it occurs first
abbrev pub roots_of : List Export → List ℕ
roots_of exports = fold name_with_root [] exports

-- the source is written with these tokens, which have this tree, and the roots of its export list have these names
pub record HasRoots (bytes : List ℕ) (names : List (List ℕ)) : Type 0 where
  pub tokens : List PlacedToken
  pub tree : Tree
  pub cut : HasTokens bytes tokens
  pub derived : DerivesTree (atoms_of tokens) tree (numbered_tokens tokens)
  pub names_are : names ≡ map (name_of (atoms_of tokens)) (roots_of tree.exports)

-- a name that is a root's by convention
abbrev pub is_conventional : (name : List ℕ) → Bool
is_conventional name = bytes_eq name (codes "main") || ends_with nat_eq name (codes "_test")
    || ends_with nat_eq name (codes "_race") || ends_with nat_eq name (codes "_scenario")

-- of the roots of the source those by convention have these names
pub record HasConventional (bytes : List ℕ) (names : List (List ℕ)) : Type 0 where
  pub all : List (List ℕ)
  pub has : HasRoots bytes all
  pub names_are : names ≡ filter is_conventional all

-- the root that is named; or where none is those by convention; or all that the source has
abbrev pub AreHunted : Roots → (root bytes : List ℕ) → (names : List (List ℕ)) → Type 0
AreHunted Named root bytes names = names ≡ root ∷ []
AreHunted Main root bytes names = HasConventional bytes names
AreHunted Every root bytes names = HasRoots bytes names
