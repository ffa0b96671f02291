-- What the walks of the raw functions share. Assumes `Logic`.
--     R, Nr, Sr, Pl, Lr    the rows of a value, a node, an owner, a reference and a loose box
--     Mark                 the row of the owner's own field, which takes no bytes; mark_made: that field is made
--     node_ref_had, node_ref_made, loose_had, loose_made    a reference and a loose box by value
--     node_seen, node_out, node_back, node_in    of the nodes that are lent, or owned: the one at a reference, taken
--                          out, put back, and added
--     fresh, knows         a node that is owned beside others is at none of their references, and such a fact is
--                          learned
use mathlib.Core.Path.{◌≡◌, refl, sym, subst}
use Prim.Native.Nat.{ℕ}
use native.Mathlib.Omega.{arith}
use mathlib.Core.List.{List, [], ◌∷◌, ◌++◌}
use seplogic.Ra.Ura.{Ura}
use mir.Raw.{raw as bare}
use mir.Syntax.{Args, Ty, a_type}
use mir.Val.{Val, vstruct, vcons, vnil, of_list}
use mathlib.Core.Bool.{Bool, true, false, cond}
use base.Fraction.{full_share}
use base.Fml.{Lft, Fml, fat, froom}
use base.Logic.{SProp, ent, sep, emp, never, never_e, via, id⊢, fst∗, snd∗}
use borrow.Table.OneValue.{part_out}
use contract.Monad.{fact, fact_i, fact_use}
use prog.Memory.{size}
use prog.Model.{Model, Within}
use types.Logic.{Logic, sem}
use types.Kit.{Item, Goal, Seq, Step, step, mean, prop, ‵, raw, some, ◌⊛◌, ◌$◌, ◌∵◌, !, qed, by, done, move, keep, drop}
use types.Kit.{pick, split, use1, use2, fsplit, fjoin, fpick, fpack, feq_l, feq_i}
use denote.RattleType.{RattleType, Valss}
use denote.Memory.{lone}
use denote.RawPtr.{Ptr, RawPtr, block_ptr, null_ptr, ptr_val}
use denote.Steps.{nothing}
use denote.Struct.Declared as decl
use denote.Struct.Lending.{lent_at}
use denote.Param.{param, layouts}
use denote.Shadow.{makes_shadow}
use denote.Struct.Struct.{Struct, within}
use denote.Struct.Owning.{shape}
use Rattle.std.specs.Prelude.{Some, None}
use Rattle.std.specs.Box.Ownership.{box_owns}
use Rattle.std.specs.Map.{lookup, remove_entry, set_value}
use Rattle.std.proofs.RcSteps.{word}
use Rattle.pf_nodes.specs.NodeRefs.{same_ptr}
use Rattle.pf_nodes.specs.Ownership.{heap_token, nodes_own, nodes_lent}
use Rattle.pf_nodes.proofs.Pointers.{same_ptr_eq}
use Rattle.pf_nodes.specs.declared.raw.NodeRef.{NodeRef}
use Rattle.pf_nodes.specs.declared.raw.ListNode.{ListNode}
use Rattle.pf_nodes.specs.contracts.raw.Loose as loose
use Rattle.pf_nodes.specs.contracts.raw.NodeRef as node_ref
use Rattle.pf_nodes.specs.contracts.raw.ListNode as node
use Rattle.pf_nodes.specs.contracts.raw.Nodes as nodes

module _ (T : RattleType) where
  abbrev pub args : Args
  args = layouts (a_type ∷ []) (T, tt)

  abbrev pub R : RattleType
  R = param 0 T

  abbrev pub Nr : RattleType
  Nr = node.the_row R

  abbrev pub Sr : RattleType
  Sr = nodes.the_row R

  abbrev pub Mark : RattleType
  Mark = Struct (shape (nodes.the_type R))

abbrev pub mark : Val
mark = vstruct (vcons (vstruct vnil) vnil)

pub mark_made : (T : RattleType) {M : Type 1} {𝓤 : Ura M} (𝓛 : Logic 𝓤)
    → ent 𝓤 (emp 𝓤) (sem 𝓛 ((Mark T).own_val (tt, tt) (mark ∷ [])))
mark_made T 𝓛 = makes_shadow 𝓛 ((Mark T).own_val (tt, tt) (mark ∷ [])) (λ vss. (tt, ((λ uss. (tt, tt)), tt)))
    ((vstruct vnil ∷ [], tt), (refl, ((tt, (refl, tt)), tt)))

abbrev pub Pl : RattleType
Pl = node_ref.the_row

module _ {M : Type 1} {𝓤 : Ura M} {𝓛 : Logic 𝓤} {K : Type 0} {Γ : List (Item 𝓤)} {G : Goal 𝓤 𝓛.H} where
  pub node_ref_had : K → (c : NodeRef) (vs : List Val) → (vs ≡ word c.ptr ∷ [] → Seq K 𝓛 Γ G)
      → Seq K 𝓛 (‵ (Pl.own_val c vs) ∷ Γ) G
  node_ref_had t c vs k = fpick t (λ vss. fsplit t $ feq_l t (λ ev. fsplit t $ feq_l t (λ e. drop t $
      k (subst (λ (ws : List Val). vs ≡ vstruct (of_list (ws ++ [])) ∷ []) e ev))))

  pub node_ref_made : K → (c : NodeRef) → Step K 𝓛 (‵ (Pl.own_val c (word c.ptr ∷ [])) ∷ Γ) G Γ G
  node_ref_made t c = step (λ s.
      nothing t $ feq_i t (List Val) (ptr_val c.ptr ∷ []) (ptr_val c.ptr ∷ []) refl $ fjoin t $ feq_i t (List Val)
      (word c.ptr ∷ []) (word c.ptr ∷ []) refl $ fjoin t $
      fpack t (Valss (RawPtr ∷ [])) (within (decl.shape node_ref.the_type) (c.ptr, tt) (word c.ptr ∷ []))
      (ptr_val c.ptr ∷ [], tt) $ s)

-- Some is not None
none_is : {X : Type 0} (x : X) → None ≡ Some x → ⊥
none_is x e = cc

some_is : {X : Type 0} (x y : X) → Some x ≡ Some y → x ≡ y
some_is x y e = cc

module _ {M : Type 1} {𝓤 : Ura M} (𝓛 : Logic 𝓤) (T : RattleType) (p : Ptr) where
  abbrev Node' : Type 0
  Node' = ListNode (R T).Denot

  -- of the nodes that are lent, the one at p
  pub node_seen : (κ : Lft) (ns : List (Ptr × Node')) (n : Node') → lookup (same_ptr p) ns ≡ Some n
      → ent 𝓤 (sem 𝓛 (nodes_lent (R T) ns κ)) (sem 𝓛 (lent_at (Nr T) p n κ))
  node_seen κ [] n e = absurd (none_is n e)
  node_seen κ (m ∷ ns) n e = (elim (same_ptr p m.0) as (λ b. same_ptr p m.0 ≡ b
      → cond b (Some m.1) (lookup (same_ptr p) ns) ≡ Some n
      → ent 𝓤 (sem 𝓛 (nodes_lent (R T) (m ∷ ns) κ)) (sem 𝓛 (lent_at (Nr T) p n κ))) [
        | true ↦ λ s f. subst (λ (x : Ptr × Node'). ent 𝓤 (sem 𝓛 (nodes_lent (R T) (m ∷ ns) κ))
            (sem 𝓛 (lent_at (Nr T) x.0 x.1 κ))) (λ i. (sym (same_ptr_eq p m.0 s) i, some_is m.1 n f i))
            (fst∗ 𝓤 (sem 𝓛 (lent_at (Nr T) m.0 m.1 κ)) (sem 𝓛 (nodes_lent (R T) ns κ)))
        | false ↦ λ s f. via 𝓤 (sem 𝓛 (nodes_lent (R T) ns κ))
            (snd∗ 𝓤 (sem 𝓛 (lent_at (Nr T) m.0 m.1 κ)) (sem 𝓛 (nodes_lent (R T) ns κ))) (node_seen κ ns n f)
      ]) refl e

  -- a node's block, with the right to free it
  abbrev pub Boxed : Node' → Fml
  Boxed n = box_owns heap_token (Nr T) p n

  -- of the nodes that are owned, the one at p is taken out
  pub node_out : (ns : List (Ptr × Node')) (n : Node') → lookup (same_ptr p) ns ≡ Some n
      → ent 𝓤 (sem 𝓛 (nodes_own (R T) ns)) (sep 𝓤 (sem 𝓛 (Boxed n))
      (sem 𝓛 (nodes_own (R T) (remove_entry (same_ptr p) ns))))
  node_out [] n e = absurd (none_is n e)
  node_out (m ∷ ns) n e =
      let Here : Ptr × Node' → Fml = λ x. box_owns heap_token (Nr T) x.0 x.1 in
      let Goal' : Bool → Type 1 = λ b. ent 𝓤 (sem 𝓛 (nodes_own (R T) (m ∷ ns)))
      (sep 𝓤 (sem 𝓛 (Boxed n)) (sem 𝓛 (nodes_own (R T) (cond b ns (m ∷ remove_entry (same_ptr p) ns))))) in
      (elim (same_ptr p m.0) as (λ b. same_ptr p m.0 ≡ b
      → cond b (Some m.1) (lookup (same_ptr p) ns) ≡ Some n → Goal' b) [
        | true ↦ λ s f. subst (λ (x : Ptr × Node'). ent 𝓤 (sem 𝓛 (nodes_own (R T) (m ∷ ns)))
            (sep 𝓤 (sem 𝓛 (Here x)) (sem 𝓛 (nodes_own (R T) ns))))
            (λ i. (sym (same_ptr_eq p m.0 s) i, some_is m.1 n f i)) (id⊢ 𝓤 _)
        | false ↦ λ s f. qed 𝓛 (‵ (nodes_own (R T) (m ∷ ns)) ∷ []) ∵ fsplit ! $ move ! (1 ∷ [])
            $ use1 𝓛 (‵ (Boxed n) ⊛ ‵ (nodes_own (R T) (remove_entry (same_ptr p) ns))) (node_out ns n f) $ split ! $
            move ! (2 ∷ 1 ∷ []) $ fjoin ! $ move ! (1 ∷ 0 ∷ []) $ done !
      ]) refl e

  -- and put back with another value
  pub node_back : (ns : List (Ptr × Node')) (n w : Node') → lookup (same_ptr p) ns ≡ Some n
      → ent 𝓤 (sep 𝓤 (sem 𝓛 (Boxed w)) (sem 𝓛 (nodes_own (R T) (remove_entry (same_ptr p) ns))))
      (sem 𝓛 (nodes_own (R T) (set_value (same_ptr p) ns w)))
  node_back [] n w e = absurd (none_is n e)
  node_back (m ∷ ns) n w e =
      let Goal' : Bool → Type 1 = λ b. ent 𝓤 (sep 𝓤 (sem 𝓛 (Boxed w))
      (sem 𝓛 (nodes_own (R T) (cond b ns (m ∷ remove_entry (same_ptr p) ns)))))
      (sem 𝓛 (nodes_own (R T) (cond b ((m.0, w) ∷ ns) (m ∷ set_value (same_ptr p) ns w)))) in
      (elim (same_ptr p m.0) as (λ b. same_ptr p m.0 ≡ b
      → cond b (Some m.1) (lookup (same_ptr p) ns) ≡ Some n → Goal' b) [
        | true ↦ λ s f. subst (λ (x : Ptr). ent 𝓤 (sep 𝓤 (sem 𝓛 (Boxed w)) (sem 𝓛 (nodes_own (R T) ns)))
            (sem 𝓛 (nodes_own (R T) ((x, w) ∷ ns)))) (same_ptr_eq p m.0 s) (id⊢ 𝓤 _)
        | false ↦ λ s f. qed 𝓛 (‵ (Boxed w) ∷ ‵ (nodes_own (R T) (m ∷ remove_entry (same_ptr p) ns)) ∷ []) ∵ move !
            (1 ∷ []) $ fsplit ! $ move ! (2 ∷ 1 ∷ []) $
            use2 𝓛 (‵ (nodes_own (R T) (set_value (same_ptr p) ns w))) (node_back ns n w f) $ move ! (1 ∷ 0 ∷ [])
            $ fjoin ! $ done !
      ]) refl e

  -- a node is added at the end
  pub node_in : (ns : List (Ptr × Node')) (n : Node')
      → ent 𝓤 (sep 𝓤 (sem 𝓛 (Boxed n)) (sem 𝓛 (nodes_own (R T) ns))) (sem 𝓛 (nodes_own (R T) (ns ++ (p, n) ∷ [])))
  node_in [] n = id⊢ 𝓤 _
  node_in (m ∷ ns) n = qed 𝓛 (‵ (Boxed n) ∷ ‵ (nodes_own (R T) (m ∷ ns)) ∷ []) ∵ move ! (1 ∷ []) $ fsplit !
      $ move ! (2 ∷ 1 ∷ []) $
      use2 𝓛 (‵ (nodes_own (R T) (ns ++ (p, n) ∷ []))) (node_in ns n) $ move ! (1 ∷ 0 ∷ []) $ fjoin ! $ done !

-- a box's pointer, for a value of the row X
module _ (X : RattleType) where
  abbrev pub Lr : RattleType
  Lr = loose.the_row X

  module _ {M : Type 1} {𝓤 : Ura M} {𝓛 : Logic 𝓤} {K : Type 0} {Γ : List (Item 𝓤)} {G : Goal 𝓤 𝓛.H} where
    pub loose_had : K → (l : Lr.Denot) (vs : List Val)
        → (vs ≡ word l.ptr ∷ [] → Seq K 𝓛 (‵ (box_owns heap_token X l.ptr l.value) ∷ Γ) G)
        → Seq K 𝓛 (‵ (Lr.own_val l vs) ∷ Γ) G
    loose_had t l vs k = fsplit t $ fpick t (λ vss. fsplit t $ feq_l t (λ ev. fsplit t $ feq_l t (λ e. drop t $
        k (subst (λ (ws : List Val). vs ≡ vstruct (of_list (ws ++ [])) ∷ []) e ev))))

    pub loose_made : K → (l : Lr.Denot) → Step K 𝓛 (‵ (Lr.own_val l (word l.ptr ∷ [])) ∷ Γ) G
        (‵ (box_owns heap_token X l.ptr l.value) ∷ Γ) G
    loose_made t l = step (λ s.
        nothing t $ feq_i t (List Val) (ptr_val l.ptr ∷ []) (ptr_val l.ptr ∷ []) refl $ fjoin t $ feq_i t (List Val)
        (word l.ptr ∷ []) (word l.ptr ∷ []) refl $ fjoin t $
        fpack t (Valss (RawPtr ∷ [])) (within (shape (loose.the_type X)) (l.ptr, tt) (word l.ptr ∷ []))
        (ptr_val l.ptr ∷ [], tt) $ fjoin t $ s)

module _ {M : Type 1} {𝓤 : Ura M} {𝓛 : Logic 𝓤} {K : Type 0} {Γ : List (Item 𝓤)} {G : Goal 𝓤 𝓛.H} where
  -- a fact that two entries show is learned, and they stay
  pub knows : K → {i j : Item 𝓤} (φ : Type 0) → ent 𝓤 (sep 𝓤 (mean 𝓛 i) (mean 𝓛 j)) (fact 𝓤 φ)
      → (φ → Seq K 𝓛 (i ∷ j ∷ Γ) G) → Seq K 𝓛 (i ∷ j ∷ Γ) G
  knows t {i} {j} φ h k =
      let shown : Seq K 𝓛 (i ∷ j ∷ Γ) (prop (fact 𝓤 φ)) = use2 𝓛 (raw (fact 𝓤 φ)) h $ keep t (0 ∷ []) $ done t in
      record { prf = fact_use 𝓤 φ shown.prf (λ x. (k x).prf) }

-- a node takes some bytes
node_size : (T : RattleType) (o : ℕ) → Within o o (size (lone (Nr T).mir))
node_size T o = (omega arith, omega arith)

module _ {M : Type 1} {𝓤 : Ura M} (𝓛 : Logic 𝓤) (𝓜 : Model 𝓤 𝓛.H) (T : RattleType) where
  -- two nodes do not lie at one reference
  crowd : (p : Ptr) (x y : ListNode (R T).Denot)
      → ent 𝓤 (sep 𝓤 (sem 𝓛 (box_owns heap_token (Nr T) p x)) (sem 𝓛 (box_owns heap_token (Nr T) p y))) (never 𝓤)
  crowd null_ptr x y = via 𝓤 (sem 𝓛 (box_owns heap_token (Nr T) null_ptr x))
      (fst∗ 𝓤 (sem 𝓛 (box_owns heap_token (Nr T) null_ptr x)) (sem 𝓛 (box_owns heap_token (Nr T) null_ptr y)))
      (fst∗ 𝓤 (never 𝓤) (sem 𝓛 (heap_token (bare (lone (Nr T).mir)) null_ptr)))
  crowd (block_ptr b o) x y =
      let τ : Ty = lone (Nr T).mir in let own : ListNode (R T).Denot → Val → Fml = λ n v. (Nr T).own_val n (v ∷ []) in
      qed 𝓛 (‵ (box_owns heap_token (Nr T) (block_ptr b o) x) ∷ ‵ (box_owns heap_token (Nr T) (block_ptr b o) y) ∷ []) ∵
      fsplit ! $ move ! (2 ∷ []) $ fsplit ! $ move ! (2 ∷ 0 ∷ []) $
      use1 𝓛 (some (λ (v : Val). ‵ (fat full_share τ b o v) ⊛ ‵ (own x v))) (part_out 𝓛 (Nr T) refl full_share x b o)
      $ pick ! (λ v. split ! $ use1 𝓛 (‵ (froom τ b o)) (𝓛.laws.at_room τ b o v) $
      move ! (2 ∷ []) $ use1 𝓛 (some (λ (w : Val). ‵ (fat full_share τ b o w) ⊛ ‵ (own y w)))
      (part_out 𝓛 (Nr T) refl full_share y b o) $ pick ! (λ w. split ! $ move ! (2 ∷ 0 ∷ []) $ keep ! (0 ∷ 1 ∷ []) $
      by ! (𝓜.room_at τ τ b o o o full_share w (node_size T o) (node_size T o))))

  -- a node that is owned beside others lies at none of their references
  pub fresh : (p : Ptr) (n : ListNode (R T).Denot) (ns : List (Ptr × ListNode (R T).Denot))
      → ent 𝓤 (sep 𝓤 (sem 𝓛 (box_owns heap_token (Nr T) p n)) (sem 𝓛 (nodes_own (R T) ns)))
      (fact 𝓤 (lookup (same_ptr p) ns ≡ None))
  fresh p n [] = fact_i 𝓤 (None ≡ None) _ refl
  fresh p n (m ∷ ns) =
      let Both : Ptr → SProp 𝓤 = λ q. sep 𝓤 (sem 𝓛 (box_owns heap_token (Nr T) p n))
      (sep 𝓤 (sem 𝓛 (box_owns heap_token (Nr T) q m.1)) (sem 𝓛 (nodes_own (R T) ns))) in
      let None' : Bool → Type 0 = λ b. cond b (Some m.1) (lookup (same_ptr p) ns) ≡ None in
      (elim (same_ptr p m.0) as (λ b. same_ptr p m.0 ≡ b → ent 𝓤 (Both m.0) (fact 𝓤 (None' b))) [
        | true ↦ λ s. subst (λ q. ent 𝓤 (Both q) (fact 𝓤 (None' true))) (same_ptr_eq p m.0 s)
            (qed 𝓛 (‵ (box_owns heap_token (Nr T) p n) ∷ ‵ (box_owns heap_token (Nr T) p m.1) ∷ ‵ (nodes_own (R T) ns)
            ∷ []) ∵ keep ! (0 ∷ 1 ∷ []) $
            by ! (via 𝓤 (never 𝓤) (crowd p n m.1) (never_e 𝓤 (fact 𝓤 (None' true)))))
        | false ↦ λ s. qed 𝓛 (‵ (box_owns heap_token (Nr T) p n) ∷ ‵ (nodes_own (R T) (m ∷ ns)) ∷ []) ∵ move ! (1 ∷ [])
            $ fsplit ! $ move ! (2 ∷ 1 ∷ []) $ keep ! (0 ∷ 1 ∷ []) $ by ! (fresh p n ns)
      ]) refl
