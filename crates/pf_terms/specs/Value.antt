-- Values: what a term is, whatever memory holds it.
use Rattle.std.specs.Prelude.{Bool, true, false, ◌&&◌, ◌==◌, ◌≤◌, ℕ, ◌+◌, max, ℤ}
use Rattle.std.specs.Ordering.{int_eq}
use Rattle.pf_terms.specs.declared.limits.TheConstants.{MOST_DEPTH, MOST_NODES}

mutual
  -- an integer, an atom by its number in a table, a reference, a pid, a tuple or a list
  pub data Value : Type 0 where
    int : ℤ → Value
    atom : ℕ → Value
    ref : ℕ → Value
    pid : ℕ → Value
    tuple : Values → Value
    list : Values → Value

  -- the elements of a tuple or a list
  pub data Values : Type 0 where
    none : Values
    more : Value → Values → Values

-- how many elements there are
abbrev pub count : Values → ℕ
count none = 0
count (more v vs) = 1 + count vs

-- how many nodes a value has: 1, and for a tuple or a list also those of its elements
abbrev mutual
  pub nodes : Value → ℕ
  nodes (int z) = 1
  nodes (atom a) = 1
  nodes (ref r) = 1
  nodes (pid p) = 1
  nodes (tuple vs) = 1 + nodes_in vs
  nodes (list vs) = 1 + nodes_in vs

  pub nodes_in : Values → ℕ
  nodes_in none = 0
  nodes_in (more v vs) = nodes v + nodes_in vs

-- how deep a value is: 1, and for a tuple or a list 1 more than its deepest element
abbrev mutual
  pub depth : Value → ℕ
  depth (int z) = 1
  depth (atom a) = 1
  depth (ref r) = 1
  depth (pid p) = 1
  depth (tuple vs) = 1 + depth_in vs
  depth (list vs) = 1 + depth_in vs

  pub depth_in : Values → ℕ
  depth_in none = 0
  depth_in (more v vs) = max (depth v) (depth_in vs)

-- a value is within the limits of nodes and depth
abbrev pub IsWithinLimits : Value → Type 0
IsWithinLimits v = (nodes v ≤ MOST_NODES) × (depth v ≤ MOST_DEPTH)

-- whether two values are the same
abbrev mutual
  pub same : Value → Value → Bool
  same (int x) w = elim w [ int y ↦ int_eq x y | _ ↦ false ]
  same (atom a) w = elim w [ atom b ↦ a == b | _ ↦ false ]
  same (ref r) w = elim w [ ref s ↦ r == s | _ ↦ false ]
  same (pid p) w = elim w [ pid q ↦ p == q | _ ↦ false ]
  same (tuple vs) w = elim w [ tuple ws ↦ same_all vs ws | _ ↦ false ]
  same (list vs) w = elim w [ list ws ↦ same_all vs ws | _ ↦ false ]

  -- whether two runs of elements are the same, one by one
  pub same_all : Values → Values → Bool
  same_all none ws = elim ws [ none ↦ true | more w ws ↦ false ]
  same_all (more v vs) ws = elim ws [ none ↦ false | more w ws ↦ same v w && same_all vs ws ]
