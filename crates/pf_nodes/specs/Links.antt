-- What joining two nodes does to the nodes of a list.
use Rattle.std.specs.Prelude.{Bool, cond, List, [], ◌∷◌, Option, Some, None}
use denote.RawPtr.{Ptr}
use Rattle.pf_nodes.specs.NodeRefs.{same_node_ref}
use Rattle.pf_nodes.specs.Nodes.{PlacedNode}
use Rattle.pf_nodes.specs.declared.raw.NodeRef.{NodeRef}

-- the first node whose reference passes is changed by f
abbrev pub change : {X : Type 0} → (Ptr → Bool) → (X → X) → List (Ptr × X) → List (Ptr × X)
change test f [] = []
change test f (e ∷ es) = cond (test e.0) ((e.0, f e.1) ∷ es) (e ∷ change test f es)

module _ {T : Type 0} where
  -- the node at the first reference, if there is one, leads on to the second
  abbrev pub with_next : Option NodeRef → Option NodeRef → List (PlacedNode T) → List (PlacedNode T)
  with_next None q nodes = nodes
  with_next (Some p) q nodes = change (same_node_ref p) (λ n. record n { next = q }) nodes

  -- the node at the first reference, if there is one, leads back to the second
  abbrev pub with_prev : Option NodeRef → Option NodeRef → List (PlacedNode T) → List (PlacedNode T)
  with_prev None q nodes = nodes
  with_prev (Some p) q nodes = change (same_node_ref p) (λ n. record n { prev = q }) nodes

  -- the nodes at the two references lead to each other
  abbrev pub joined : Option NodeRef → Option NodeRef → List (PlacedNode T) → List (PlacedNode T)
  joined before after nodes = with_prev after before (with_next before after nodes)
