-- `add` owns a node beside the others, which lie elsewhere.
use Rattle.std.proofs.Common.{◌≡◌, List, [], ◌∷◌, ◌++◌, refl, sym, subst}
use mir.MapTy.{inst_fn}
use mir.Val.{Val, vptr}
use base.Logic.{SProp, ent, emp}
use base.Fml.{ftrue, flft, fobs, fbor}
use prog.Wp.{WpFn}
use contract.Monad.{fact, fact_i}
use contract.Running.{tables}
use types.Kit.{Item, ⋆, ‵, raw, ◌⊛◌, ◌$◌, ◌∵◌, !, qed, by, move, keep, split, join, use0, use2, fsplit, fsplit3, fjoin}
use types.Kit.{fjoin3, feq_i, feq_l}
use types.Part.{whole, sub, agg}
use types.Run.{stop, fld, of_opd, and_then, no_more, returns, enter}
use types.ByLocal.{alloc_all, pass_all, free_all, look_at, get, get_in, sets}
use types.SemTy.{Body as Borrowed}
use denote.Exit.{no}
use denote.RattleType.{owns}
use denote.Memory.{mem}
use denote.Signature.{types_at, plain}
use denote.Steps.{nothing, opens, closes}
use denote.Triple.Walked.{Stays, stay_dropped, stay_ref, walk_of, Goes-ref}
use Rattle.std.proofs.alloc.Calls.{Goes-blank}
use Rattle.std.proofs.RcSteps.{Ptr-Good, word, word-Good}
use Rattle.std.proofs.raw_atomic.Walks.{proved_at, leaves}
use Rattle.std.specs.Prelude.{None}
use Rattle.std.specs.Map.{lookup}
use Rattle.pf_nodes.specs.NodeRefs.{same_node_ref}
use Rattle.pf_nodes.specs.declared.raw.NodeRef.{NodeRef}
use Rattle.pf_nodes.specs.Ownership.{nodes_own}
use Rattle.pf_nodes.proofs.Memory.{args, R, Nr, Sr, Lr, Boxed, loose_had, node_ref_made, node_in, knows, fresh}
use Rattle.pf_nodes.specs.contracts.raw.Nodes.add.{ended, clauses}
use Rattle.pf_nodes.specs.contracts.raw.Nodes.add.Key.{name as #self}
use Rattle.pf_nodes.proofs.raw.Nodes.add.Statement.{statement}
use Rattle.pf_nodes.proofs.raw.Nodes.add.Code as code

pub add_spec : {M : Type 1} → statement M
add_spec 𝓤 𝓛 𝓜 𝓡 wired T L =
    let 𝓣 = tables 𝓤 𝓛.H 𝓜 𝓡 𝓡.env in let En = ended T in let c = clauses T 𝓛 𝓜.mem 𝓡.returns in
    let hs : Stays En.signature.params En.kept =
    (stay_ref (0 ∷ []) tt (plain (λ _. Sr T)), (stay_dropped (plain (λ _. Lr (Nr T))) no, tt)) in
    let fn = inst_fn (args T) code.function in
    proved_at 𝓛 En hs c 𝓜 𝓡 (
      Goes-ref 𝓛 2 0 tt (plain (λ _. Sr T)),
      (Goes-blank 𝓛 2 (plain (λ _. Lr (Nr T))) no (λ κs x f. tt), tt),
    )
    (#self (args T)) fn (code.unfolded 𝓤 𝓛.H 𝓜 𝓡 wired (T, tt)) (λ z are.
    let κs = z.0.0 in let qs = z.0.1 in let κ = κs.0 in let Post : Val → SProp 𝓤 = (walk_of 𝓛 En hs c).post z in
    let self = z.0.3.0 in let node = z.0.3.1.0 in let d = self.now in let rb = self.ref_ptr.0 in
    let ro = self.ref_ptr.1 in let γ = self.ghost_name in
    let t₁ : Item 𝓤 = ‵ (flft κ qs.0) in let t₂ : Item 𝓤 = ‵ (flft κs.1.0 qs.1.0) ⊛ ‵ ftrue in
    let p = node.ptr in let n = node.value in let out : NodeRef = record { ptr = p } in
    let items = d.items ++ (p, n) ∷ [] in let new : (Sr T).Denot = record d { items = items } in
    qed 𝓛 (((t₁ ⊛ t₂) ⊛ ‵ (owns (types_at En.signature.params κs) z.0.3 z.0.4)) ∷ raw ((c κs z.0.3).requires z.1) ∷ [])
    ∵
    split ! $ split ! $ move ! (2 ∷ []) $ fsplit ! $ fsplit3 !
    $ feq_l ! (λ e0. move ! (2 ∷ []) $ fsplit ! $ loose_had (Nr T) ! node z.0.4.1.0 (λ e1.
    let Γ : List (Item 𝓤) = ‵ (fobs γ ((Sr T).coded.code d)) ∷ ‵ (fbor κ (Borrowed (mem (Sr T)) rb ro γ)) ∷ t₁ ∷ t₂
    ∷ ‵ (Boxed 𝓛 T p n) ∷ [] in
    keep ! (2 ∷ 3 ∷ 4 ∷ 5 ∷ 0 ∷ []) $
    by ! (subst (λ (us : List Val × List Val). ent 𝓤 (⋆ 𝓛 Γ) (WpFn 𝓤 𝓛.H 𝓣.C 𝓣.Λ fn (us.0 ++ (us.1 ++ [])) Post))
    (λ j. (sym e0 j, sym e1 j)) (
    qed 𝓛 Γ ∵ enter ! 𝓣.C 𝓣.Λ fn (vptr rb ro ∷ word p ∷ []) Post $ alloc_all !
    (λ l. pass_all ! refl ((tt, tt), (word-Good [] p, tt)) $
    sets ! (of_opd ! (get_in ! (fld ! refl (stop !)) (sub ! 0 refl (whole !)))) refl (Ptr-Good p)
    $ sets ! (of_opd ! (get ! refl)) refl (Ptr-Good p) $
    sets ! (agg ! (and_then ! (get ! refl) (no_more !))) refl (word-Good [] p) $
    opens ! tt (Sr T) {h = d} rb ro (λ vs. move ! (1 ∷ []) $ fsplit ! $ move ! (7 ∷ 1 ∷ []) $
    -- [the node; the others; the mark; its cell; the open borrow; obs; auth; the other token]
    knows ! (lookup (same_node_ref out) d.items ≡ None) (fresh 𝓛 𝓜 T p n d.items) (λ free.
    use2 𝓛 (‵ (nodes_own (R T) items)) (node_in 𝓛 T p d.items n) $ move ! (1 ∷ 0 ∷ []) $ fjoin ! $ move ! (1 ∷ 0 ∷ [])
    $ closes ! tt (Sr T) new vs rb ro $
    returns ! (look_at ! 0 refl) $ free_all ! refl $
    -- [obs; the borrow; the token; the other token]
    let Fresh = lookup (same_node_ref out) d.items ≡ None in let Items = items ≡ items in
    feq_i ! (List Val) z.0.4.0 (vptr rb ro ∷ []) e0 $ fjoin3 ! $ nothing ! $ nothing ! $ fjoin !
    $ move ! (1 ∷ 0 ∷ []) $ fjoin ! $
    use0 𝓛 (raw (fact 𝓤 Items)) (fact_i 𝓤 Items (emp 𝓤) refl) $ use0 𝓛 (raw (fact 𝓤 Fresh))
    (fact_i 𝓤 Fresh (emp 𝓤) free) $ join ! $
    node_ref_made ! out $ move ! (3 ∷ 4 ∷ []) $ join ! $ move ! (0 ∷ 3 ∷ 1 ∷ 2 ∷ []) $
    by ! (leaves 𝓛 En hs c z (word p) out (new, (tt, tt)) (tt, (tt, tt)))))))))))
