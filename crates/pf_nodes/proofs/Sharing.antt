-- A `&` to the nodes is made where one to each node is. Assumes `Logic`.
use mathlib.Core.List.{List, [], ◌∷◌}
use seplogic.Ra.Ura.{Ura}
use mir.Raw.{raw as bare}
use base.Fraction.{full_share}
use base.Fml.{Lft, Incl, ftrue}
use types.Logic.{Logic}
use denote.RattleType.{RattleType}
use denote.Memory.{lone}
use denote.Param.Laws.{Laws}
use denote.RawPtr.{Ptr, lies_at}
use denote.Sharing.{ShrLaws}
use denote.SharingLaws.{beside_shr_laws, nothing_shr_laws}
use denote.Shares.{Shares-less}
use denote.Struct.Lending.{Lends, lent_at, lent_at_shr_laws, Lends-lies, Lends-first, Lends-both, Lends-nothing}
use Rattle.std.specs.Box.Ownership.{box_owns}
use Rattle.pf_nodes.specs.declared.raw.ListNode.{ListNode}
use Rattle.pf_nodes.specs.contracts.raw.ListNode as node
use Rattle.pf_nodes.proofs.raw.ListNode.TheLaws as node_laws
use Rattle.pf_nodes.specs.Ownership.{heap_token, nodes_own, nodes_lent}

module _ (T : RattleType) (L : Laws T) where
  pub nodes_lent_laws : (ns : List (Ptr × ListNode T.Denot)) → ShrLaws (nodes_lent T ns)
  nodes_lent_laws [] = nothing_shr_laws
  nodes_lent_laws (n ∷ ns) =
      beside_shr_laws _ _ (lent_at_shr_laws (node.the_row T) (node_laws.the_row_laws T L).shr_laws n.0 n.1)
      (nodes_lent_laws ns)

  module _ {M : Type 1} {𝓤 : Ura M} (𝓛 : Logic 𝓤) (l : Lft) (inc : Incl l (node.the_row T).lives) where
    pub Lends-nodes : (ns : List (Ptr × ListNode T.Denot)) → Lends 𝓛 (nodes_own T ns) (nodes_lent T ns) l
    Lends-nodes [] = Lends-nothing 𝓛 ftrue l
    Lends-nodes (n ∷ ns) =
        let R : RattleType = node.the_row T in
        Lends-both 𝓛 (box_owns heap_token R n.0 n.1) (nodes_own T ns) (lent_at R n.0 n.1) (nodes_lent T ns) l
        (Lends-first 𝓛 (lies_at R full_share n.0 n.1) (heap_token (bare (lone R.mir)) n.0) (lent_at R n.0 n.1) l
        (Lends-lies 𝓛 R l n.0 n.1 (Shares-less 𝓛 R R.lives l inc ((node_laws.the_row_laws T L).shares 𝓛) n.1)))
        (Lends-nodes ns)
