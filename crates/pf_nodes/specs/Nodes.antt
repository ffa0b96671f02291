-- How the nodes of a list and of a pool are linked.
use Rattle.std.specs.Prelude.{◌≡◌, ℕ, ◌≤◌, List, [], ◌∷◌, length, drop, reverse, Option, Some, None, IsSome}
use Rattle.std.specs.List.{filter_map}
use Rattle.std.specs.Map.{lookup}
use denote.RawPtr.{Ptr}
use Rattle.pf_nodes.specs.NodeRefs.{same_ptr}
use Rattle.pf_nodes.specs.declared.raw.NodeRef.{NodeRef}
use Rattle.pf_nodes.specs.declared.raw.ListNode.{ListNode}

-- the node has no value
abbrev pub IsSpare : {T : Type 0} → ListNode T → Type 0
IsSpare n = n.value ≡ None

-- a reference, with the node that lies there
abbrev pub PlacedNode : Type 0 → Type 0
PlacedNode T = Ptr × ListNode T

module _ {T : Type 0} where
  -- where it lies
  abbrev pub node_ref_of : PlacedNode T → NodeRef
  node_ref_of e = record { ptr = e.0 }

  -- no two nodes lie at one reference
  abbrev pub IsApart : List (PlacedNode T) → Type 0
  IsApart [] = Unit {0}
  IsApart (e ∷ es) = (lookup (same_ptr e.0) es ≡ None) × IsApart es

  -- where the first node lies, or else the reference a
  abbrev pub first_or : List (PlacedNode T) → Option NodeRef → Option NodeRef
  first_or [] a = a
  first_or (e ∷ es) a = Some (node_ref_of e)

  -- where the last node lies, or else the reference b
  abbrev pub last_or : Option NodeRef → List (PlacedNode T) → Option NodeRef
  last_or b [] = b
  last_or b (e ∷ es) = last_or (Some (node_ref_of e)) es

  -- each node leads back to the one before it and on to the one after it, from b before them to a after them
  abbrev pub IsLinked : Option NodeRef → List (PlacedNode T) → Option NodeRef → Type 0
  IsLinked b [] a = Unit {0}
  IsLinked b (e ∷ es) a = (e.1.prev ≡ b) × (e.1.next ≡ first_or es a) × IsLinked (Some (node_ref_of e)) es a

  -- each node has a value
  abbrev pub IsFull : List (PlacedNode T) → Type 0
  IsFull [] = Unit {0}
  IsFull (e ∷ es) = IsSome e.1.value × IsFull es

  -- the nodes' values
  abbrev pub values : List (PlacedNode T) → List T
  values = filter_map (λ e. e.1.value)

  -- the nodes of a list, with the references of its ends and its mark
  pub record IsMail (nodes : List (PlacedNode T)) (front back at : Option NodeRef) (position count : ℕ) : Type 0 where
    pub apart : IsApart nodes
    pub linked : IsLinked None nodes None
    pub full : IsFull nodes
    pub front_is : front ≡ first_or nodes None
    pub back_is : back ≡ last_or None nodes
    pub at_is : at ≡ first_or (drop position nodes) None
    pub within : position ≤ length nodes
    pub count_is : count ≡ length nodes

  -- the nodes below top in a stack, each with no value and leading on to the one below it
  abbrev pub IsStack : Option NodeRef → List (PlacedNode T) → Type 0
  IsStack top [] = top ≡ None
  IsStack top (e ∷ es) = (top ≡ Some (node_ref_of e)) × IsSpare e.1 × IsStack e.1.next es

  -- the nodes of a pool, of which the last that came is on top
  pub record IsPool (nodes : List (PlacedNode T)) (top : Option NodeRef) (count : ℕ) : Type 0 where
    pub apart : IsApart nodes
    pub stacked : IsStack top (reverse nodes)
    pub count_is : count ≡ length nodes
    pub within : count ≤ 1024
