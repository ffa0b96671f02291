-- The order of values: integer < atom < reference < pid < tuple < list.
use Rattle.std.specs.Prelude.{◌≡◌, ◌<◌, ℕ, List}
use Rattle.std.specs.declared.cmp.Ordering.{Ordering}
use Rattle.std.specs.declared.cmp.Ordering.TheVariants.{Less, Equal, Greater}
use Rattle.std.specs.Ordering.{ordering_then, nat_cmp, int_cmp}
use Rattle.std.specs.Cmp.Lexicographic.{slice_cmp}
use Rattle.std.specs.Cmp.{IsTotalOrder}
use Rattle.pf_terms.specs.Value.{Value, Values, int, atom, ref, pid, tuple, list, none, more, count}

-- the index of a value's kind among the kinds
abbrev pub rank : Value → ℕ
rank (int z) = 0
rank (atom a) = 1
rank (ref r) = 2
rank (pid p) = 3
rank (tuple vs) = 4
rank (list vs) = 5

-- values of one kind are ordered by what they hold: integers by value, atoms by the bytes of their names, references
-- and pids by number, tuples by size and then element by element, lists element by element; others by kind
abbrev mutual
  pub compare : (ℕ → List ℕ) → Value → Value → Ordering
  compare name (int x) w = elim w [ int y ↦ int_cmp x y | other ↦ nat_cmp 0 (rank other) ]
  compare name (atom a) w = elim w [ atom b ↦ slice_cmp nat_cmp (name a) (name b) | other ↦ nat_cmp 1 (rank other) ]
  compare name (ref r) w = elim w [ ref s ↦ nat_cmp r s | other ↦ nat_cmp 2 (rank other) ]
  compare name (pid p) w = elim w [ pid q ↦ nat_cmp p q | other ↦ nat_cmp 3 (rank other) ]
  compare name (tuple vs) w = elim w [
    | tuple ws ↦ ordering_then (nat_cmp (count vs) (count ws)) (compare_all name vs ws)
    | other ↦ nat_cmp 4 (rank other)
  ]
  compare name (list vs) w = elim w [ list ws ↦ compare_all name vs ws | other ↦ nat_cmp 5 (rank other) ]

  -- the first elements that differ decide; of two runs that begin alike the shorter is less
  pub compare_all : (ℕ → List ℕ) → Values → Values → Ordering
  compare_all name none ws = elim ws [ none ↦ Equal | more w ws ↦ Less ]
  compare_all name (more v vs) ws = elim ws [
    | none ↦ Greater
    | more w ws ↦ ordering_then (compare name v w)
        (compare_all name vs ws)
  ]

-- each atom in a value has a number below n
abbrev mutual
  pub NamesBelow : ℕ → Value → Type 0
  NamesBelow n (int z) = Unit {0}
  NamesBelow n (atom a) = a < n
  NamesBelow n (ref r) = Unit {0}
  NamesBelow n (pid p) = Unit {0}
  NamesBelow n (tuple vs) = AllNamesBelow n vs
  NamesBelow n (list vs) = AllNamesBelow n vs

  pub AllNamesBelow : ℕ → Values → Type 0
  AllNamesBelow n none = Unit {0}
  AllNamesBelow n (more v vs) = NamesBelow n v × AllNamesBelow n vs

-- the first n atoms have different names
abbrev pub Distinguishes : (ℕ → List ℕ) → ℕ → Type 0
Distinguishes name n = (a b : ℕ) → a < n → b < n → name a ≡ name b → a ≡ b

-- the order of values is total, whatever the names of the atoms
abbrev pub OrderIsTotal : Type 0
OrderIsTotal = (name : ℕ → List ℕ) → IsTotalOrder (compare name)

-- values with atoms of different names are equal in the order only where they are the same
abbrev pub OrderIsExact : Type 0
OrderIsExact = (name : ℕ → List ℕ) (n : ℕ) (v w : Value) → Distinguishes name n → NamesBelow n v → NamesBelow n w
    → compare name v w ≡ Equal → v ≡ w
