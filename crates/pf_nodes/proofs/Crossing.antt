-- The nodes may cross threads as their values may.
use mathlib.Core.List.{List, [], ◌∷◌}
use base.Fraction.{full_share}
use base.Shift.{Keyless}
use mir.Raw.{raw as bare}
use denote.Exit.{Exit, unchanged, leaves, hidden, under}
use denote.RattleType.{RattleType}
use denote.Memory.{lone}
use denote.RawPtr.{Ptr, block_ptr, null_ptr, lies_at}
use denote.Struct.Struct.{exits_of}
use denote.Struct.Owning.{shape, fields, to}
use denote.Param.Send.{IsSend, Quiet, AllSend, part_keyless, owning_send, struct_send, sendable}
use Rattle.std.proofs.Crossing.{frees}
use Rattle.pf_nodes.specs.declared.raw.ListNode.{ListNode}
use Rattle.pf_nodes.specs.contracts.raw.ListNode as node
use Rattle.pf_nodes.specs.contracts.raw.Nodes as nodes
use Rattle.pf_nodes.proofs.raw.ListNode.TheSendSync as node_crosses
use Rattle.pf_nodes.specs.Ownership.{heap, nodes_own}

quiet : {D X : Type 0} (f : D → X) (e : Exit X) → Quiet e → Quiet (hidden (under f e))
quiet f unchanged q = λ x w. tt
quiet f (leaves L l S s r₀) q = λ d. q (f d)

lies : (R : RattleType) → IsSend R → (p : Ptr) (x : R.Denot) → Keyless (lies_at R full_share p x)
lies R s (block_ptr b o) x = part_keyless R s full_share x b o
lies R s null_ptr x = tt

module _ (T : RattleType) (s : IsSend T) where
  nodes-Keyless : (ns : List (Ptr × ListNode T.Denot)) → Keyless (nodes_own T ns)
  nodes-Keyless [] = tt
  nodes-Keyless (n ∷ ns) =
      let R : RattleType = node.the_row T in
      ((lies R (node_crosses.the_send T s) n.0 n.1, frees.frees heap (bare (lone R.mir)) n.0), nodes-Keyless ns)

  pub nodes_send : IsSend (nodes.the_row T)
  nodes_send =
      let O = nodes.the_type T in let all : AllSend (fields O) = (search sendable, tt) in
      owning_send O all (λ d. nodes-Keyless d.items)
      (λ k. quiet (to O) (exits_of k (fields O)) ((struct_send (shape O) all).leaving k))
