-- What the owner of nodes ends as, once a `&mut` to a node has ended.
use Rattle.std.specs.Borrow.{Fml, RattleType, MutBor, Lends}
use Rattle.std.specs.Map.{set_value}
use Rattle.pf_nodes.specs.NodeRefs.{same_node_ref}
use Rattle.pf_nodes.specs.declared.raw.NodeRef.{NodeRef}
use Rattle.pf_nodes.specs.declared.raw.ListNode.{ListNode}
use Rattle.pf_nodes.specs.declared.raw.Nodes.{Nodes}
use Rattle.pf_nodes.specs.contracts.raw.ListNode as node
use Rattle.pf_nodes.specs.contracts.raw.Nodes as nodes

-- the same owner with w as the node at the reference
abbrev pub with_node : {T : Type 0} → Nodes T → NodeRef → ListNode T → Nodes T
with_node s node_ref w = record s { items = set_value (same_node_ref node_ref) s.items w }

-- the owner ends with the last value of the `&mut` as the node at the reference
abbrev pub LendsNode : (T : RattleType) → MutBor (Nodes T.Denot) → NodeRef → MutBor (ListNode T.Denot) → Fml
LendsNode T s node_ref r = Lends (nodes.the_row T) (node.the_row T) s r (with_node s.now node_ref)
