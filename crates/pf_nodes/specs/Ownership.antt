-- What the nodes own and lend, at values of the row T.
use Rattle.std.specs.Prelude.{List, [], ◌∷◌}
use Rattle.std.specs.Box.Ownership.{box_owns}
use base.Fml.{Lft, Fml, ftrue, fsep}
use mir.Syntax.{Ty}
use denote.RattleType.{RattleType}
use denote.RawPtr.{Ptr}
use denote.Sharing.{nothing, beside}
use denote.Struct.Lending.{lent_at}
use Rattle.std.specs.contracts.impls.GlobalAllocator.TheImpl.{ghosts}
use Rattle.std.specs.declared.alloc.Global.{Global}
use Rattle.pf_nodes.specs.declared.raw.ListNode.{ListNode}
use Rattle.pf_nodes.specs.contracts.raw.ListNode as node

-- the one handle to the heap
abbrev pub heap : Global
heap = record { memory = record { seal = tt } }

-- the right to free the block of that type at a pointer
abbrev pub heap_token : Ty → Ptr → Fml
heap_token = ghosts.dealloc_token heap

module _ (T : RattleType) where
  -- each node, with the right to free its block
  abbrev pub nodes_own : List (Ptr × ListNode T.Denot) → Fml
  nodes_own [] = ftrue
  nodes_own (n ∷ ns) = fsep (box_owns heap_token (node.the_row T) n.0 n.1) (nodes_own ns)

  -- each node, as a `&` to it
  abbrev pub nodes_lent : List (Ptr × ListNode T.Denot) → Lft → Fml
  nodes_lent [] = nothing
  nodes_lent (n ∷ ns) = beside (lent_at (node.the_row T) n.0 n.1) (nodes_lent ns)
