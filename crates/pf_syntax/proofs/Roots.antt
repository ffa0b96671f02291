-- The function that a run begins in, where the names of the atoms are distinct.
use Rattle.std.proofs.Common.{◌≡◌, ℕ, ◌<◌, ◌≤◌, List, [], ◌∷◌, length, get_or, Bool, true, false, Some, None, refl, sym}
use Rattle.std.proofs.Common.{ap, ◌∙◌, arith}
use Rattle.std.specs.Prelude.{position, slice_get}
use Rattle.std.specs.List.{list_any, position_or_len}
use Rattle.std.specs.Str.{bytes_eq}
use Rattle.std.proofs.lemmas.Bool.{lt-ltb, le-ltb}
use Rattle.std.proofs.lemmas.Grind.{common_steps}
use Rattle.std.proofs.lemmas.List.Sums.{position_or_len_is}
use Rattle.std.proofs.lemmas.Option.{slice_get_within, get_or_from_slice_get}
use Rattle.std.proofs.lemmas.Slice.Eq.{bytes_eq-Decides}
use Rattle.pf_terms.specs.Atoms.{name_of}
use Rattle.pf_terms.specs.Order.{Distinguishes}
use Rattle.pf_syntax.specs.Tree.{Function, Program}
use Rattle.pf_syntax.specs.Module.{first_named}
use Rattle.pf_syntax.specs.Root.{root_of, root_at, exported_at, exported_of}

-- where nothing passes, there is no index of one that does
none_any : {X : Type 0} (p : X → Bool) (xs : List X) → list_any p xs ≡ false → position_or_len p xs ≡ length xs
none_any p [] h = refl
none_any p (x ∷ xs) h = grind (arith, common_steps, none_any p xs)

-- no atom has the name
pub no_atom : (name : List ℕ) (atoms : List (List ℕ)) (functions : Program) → list_any (bytes_eq name) atoms ≡ false
    → root_of name atoms functions ≡ None
no_atom name atoms functions h =
    let all = none_any (bytes_eq name) atoms h in
    let past : length atoms ≤ position_or_len (bytes_eq name) atoms = omega arith in
    rw (le-ltb (position_or_len (bytes_eq name) atoms) (length atoms) past) refl

module _ (name : List ℕ) (atoms : List (List ℕ)) (functions : Program) (a : ℕ)
    (apart : Distinguishes (name_of atoms) (length atoms)) (named : slice_get atoms a ≡ Some name) where
  within : a < length atoms
  within = slice_get_within atoms a name named

  this : get_or atoms a [] ≡ name
  this = get_or_from_slice_get atoms a name [] named

  other : (k : ℕ) → k < a → bytes_eq name (get_or atoms k []) ≡ false
  other k lt = by (bytes_eq name (get_or atoms k [])) refl
    where
      by : (b : Bool) → bytes_eq name (get_or atoms k []) ≡ b → b ≡ false
      by false h = refl
      by true h =
          let below = within in
          let same : k ≡ a = apart k a (omega arith) below
          (sym ((bytes_eq-Decides name (get_or atoms k [])).0 h) ∙ sym this) in
          absurd (omega arith)

  -- the atom is the one of this name
  slot : position_or_len (bytes_eq name) atoms ≡ a
  slot =
      let below = within in
      position_or_len_is (bytes_eq name) atoms a [] (omega arith) other
      (λ _. (bytes_eq-Decides name (get_or atoms a [])).1 (sym this))

  first : position (bytes_eq name) atoms ≡ Some a
  first = rw (slot, lt-ltb a (length atoms) within) refl

  -- the root is the function of the atom, where it is exported
  pub root_is : root_of name atoms functions ≡ exported_at functions (first_named a 0 functions)
  root_is = ap (root_at functions) first

  pub no_function : first_named a 0 functions ≡ None → root_of name atoms functions ≡ None
  no_function h = root_is ∙ ap (exported_at functions) h

  pub function_is : (i : ℕ) → first_named a 0 functions ≡ Some i
      → root_of name atoms functions ≡ exported_of i (slice_get functions i)
  function_is i h = root_is ∙ ap (exported_at functions) h

  pub no_slot : (i : ℕ) → first_named a 0 functions ≡ Some i → slice_get functions i ≡ None
      → root_of name atoms functions ≡ None
  no_slot i h k = function_is i h ∙ ap (exported_of i) k

  pub exported : (i : ℕ) (f : Function) → first_named a 0 functions ≡ Some i → slice_get functions i ≡ Some f
      → f.exported ≡ true → root_of name atoms functions ≡ Some i
  exported i f h k e = function_is i h ∙ ap (exported_of i) k ∙ rw e refl

  pub not_exported : (i : ℕ) (f : Function) → first_named a 0 functions ≡ Some i → slice_get functions i ≡ Some f
      → f.exported ≡ false → root_of name atoms functions ≡ None
  not_exported i f h k e = function_is i h ∙ ap (exported_of i) k ∙ rw e refl
