-- A `&` to the nodes reaches each node.
use mathlib.Core.List.{[], ◌++◌}
use base.Fml.{Incl-trans}
use contract.BorrowLft.{meet_⊑_left}
use denote.RattleType.{RattleType}
use denote.RawPtr.{RawPtr}
use denote.Param.Laws.{Laws}
use denote.Param.Shared.{copy_shared}
use denote.Struct.Laws.{field_copy}
use denote.Struct.Lending.{of_Lends}
use Rattle.std.specs.contracts.marker.PhantomData as marker
use Rattle.pf_nodes.specs.contracts.raw.Nodes as nodes
use Rattle.pf_nodes.proofs.Sharing.{nodes_lent_laws, Lends-nodes}
use Rattle.pf_nodes.proofs.raw.ListNode.TheLaws as node_laws
use Rattle.pf_nodes.proofs.raw.Nodes.TheLaw.Statement.{statement}

pub shares : (T : RattleType) (L : Laws T) → statement T L
shares T L =
    of_Lends (nodes.struct T) (nodes.the_codes T.Denot T.coded (marker.the_row RawPtr).coded) (nodes.the_heap T)
    (nodes.the_lent T)
    (λ d p. nodes_lent_laws T L d.items) (
      copy_shared (marker.the_field RawPtr)
          (field_copy (marker.the_type RawPtr) tt),
      tt,
    )
    (λ M 𝓤 𝓛 d p. Lends-nodes T L 𝓛 (nodes.the_row T).lives
    (node_laws.the_within T (nodes.the_row T).lives
    (Incl-trans (meet_⊑_left (T.lives ++ []) []) (meet_⊑_left T.lives []))) d.items)
