-- A pool gains and loses the node on its top.
use Rattle.std.proofs.Common.{◌≡◌, ℕ, ◌+◌, ◌-◌, ◌<◌, List, [], ◌∷◌, ◌++◌, length, reverse, refl, sym, ap, ◌∙◌, subst}
use Rattle.std.proofs.Common.{Option, Some, None, inl, inr, append-nil, arith}
use Rattle.std.proofs.lemmas.List.{reverse-append, length-append}
use Rattle.std.specs.Map.{lookup, remove_entry}
use denote.RawPtr.{Ptr}
use Rattle.pf_nodes.specs.NodeRefs.{same_ptr, same_node_ref, IsNodeRef}
use Rattle.pf_nodes.specs.Nodes.{PlacedNode, node_ref_of, IsSpare, IsApart, IsStack, IsPool}
use Rattle.pf_nodes.specs.declared.raw.NodeRef.{NodeRef}
use Rattle.pf_nodes.specs.declared.raw.ListNode.{ListNode}
use Rattle.pf_nodes.proofs.Cuts.{Absent, apart_push, apart_without, lookup_at, remove_at, some_none}
use Rattle.pf_nodes.proofs.Chains.{ends}

module _ {T : Type 0} where
  pub pool_pushed : (ns : List (PlacedNode T)) (top : Option NodeRef) (count : ℕ) (p : Ptr) (n : ListNode T)
      → IsPool ns top count → Absent (same_ptr p) ns → IsSpare n → n.next ≡ top → (count ≡ 1024 → ⊥)
      → IsPool (ns ++ (p, n) ∷ []) (Some (record { ptr = p })) (count + 1)
  pool_pushed ns top count p n h fresh spare next_is room =
      let len = h.count_is in let within = h.within in
      record {
        apart = apart_push ns (p, n) h.apart fresh;
        stacked = subst (λ l. IsStack (Some (record { ptr = p })) l) (sym (reverse-append ns ((p, n) ∷ [])))
            (refl, spare, subst (λ t. IsStack t (reverse ns)) (sym next_is) h.stacked);
        count_is = omega (arith, length-append ns ((p, n) ∷ []));
        within = omega (arith, room);
      }

  -- the node on top of a stack, and those below it
  record Top (ns : List (PlacedNode T)) (node_ref : NodeRef) : Type 0 where
    below : List (PlacedNode T)
    node : ListNode T
    cut : ns ≡ below ++ (node_ref.ptr, node) ∷ []
    spare : IsSpare node
    rest : IsStack node.next (reverse below)

  top_of : (ns : List (PlacedNode T)) (node_ref : NodeRef) → IsStack (Some node_ref) (reverse ns) → Top ns node_ref
  top_of ns node_ref h = elim (ends ns) [
    | inl e ↦ some_none node_ref (subst (λ l. IsStack (Some node_ref) (reverse l)) e h)
    | inr f ↦
        let s = subst (λ l. IsStack (Some node_ref) l) (ap reverse f.2 ∙ reverse-append f.0 (f.1 ∷ [])) h in
        let same : node_ref ≡ node_ref_of f.1 = cc in
        record {
          below = f.0;
          node = f.1.1;
          cut = f.2 ∙ (λ i. f.0 ++ ((sym same i).ptr, f.1.1) ∷ []);
          spare =
              s.1;
          rest = s.2;
        }
  ]

  module _ (ns : List (PlacedNode T)) (node_ref : NodeRef) (count : ℕ) (h : IsPool ns (Some node_ref) count) where
    at_top : Top ns node_ref
    at_top = top_of ns node_ref h.stacked

    found : lookup (same_node_ref node_ref) ns ≡ Some at_top.node
    found = ap (lookup (same_node_ref node_ref)) at_top.cut ∙ lookup_at at_top.below (node_ref.ptr, at_top.node) []
        (subst IsApart at_top.cut h.apart)

    pub pool_found : IsNodeRef ns node_ref
    pool_found = (at_top.node, found)

    popped : IsPool (remove_entry (same_node_ref node_ref) ns) at_top.node.next (count - 1)
    popped =
        let t = at_top in let e : PlacedNode T = (node_ref.ptr, t.node) in let apart = subst IsApart t.cut h.apart in
        let len = h.count_is in let within = h.within in let cut = ap length t.cut in
        let left : t.below ++ [] ≡ remove_entry (same_node_ref node_ref) ns =
        sym (ap (remove_entry (same_node_ref node_ref)) t.cut ∙ remove_at t.below e [] apart) in
        subst (λ l. IsPool l t.node.next (count - 1)) (sym (append-nil t.below) ∙ left) (record {
          apart = subst IsApart (append-nil t.below) (apart_without t.below e [] apart);
          stacked = t.rest;
          count_is = omega (arith, length-append t.below (e ∷ []));
          within = omega arith;
        })

    pub pool_popped : (n : ListNode T) (rest : List (PlacedNode T)) → lookup (same_node_ref node_ref) ns ≡ Some n
        → rest ≡ remove_entry (same_node_ref node_ref) ns → IsSpare n × (0 < count) × IsPool rest n.next (count - 1)
    pool_popped n rest e left =
        let t = at_top in let f = found in let same : t.node ≡ n = cc in let len = h.count_is in
        let cut = ap length t.cut in (
          subst IsSpare same t.spare,
          omega (arith, length-append t.below ((node_ref.ptr, t.node) ∷ [])),
          subst (λ l. IsPool l n.next (count - 1)) (sym left)
              (subst (λ m. IsPool (remove_entry (same_node_ref node_ref) ns) m.next (count - 1)) same popped),
        )

  pub pool_empty : (ns : List (PlacedNode T)) (top : Option NodeRef) (count : ℕ) → IsPool ns top count
      → top ≡ None → count ≡ 0
  pool_empty ns top count h none = elim (ends ns) [
    | inl e ↦ h.count_is ∙ ap length e
    | inr f ↦
        let s = subst (λ l. IsStack top l) (ap reverse f.2 ∙ reverse-append f.0 (f.1 ∷ [])) h.stacked in
        some_none (node_ref_of f.1) (sym s.0 ∙ none)
  ]
