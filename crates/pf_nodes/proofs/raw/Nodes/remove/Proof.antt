-- `remove` takes the node at a reference out of what is owned.
use Rattle.std.proofs.Common.{◌≡◌, List, [], ◌∷◌, ◌++◌, refl, sym, subst}
use mir.MapTy.{inst_fn}
use mir.Val.{Val, vptr}
use base.Logic.{SProp, ent, emp}
use base.Fml.{ftrue, flft, fobs, fbor}
use prog.Wp.{WpFn}
use contract.BorrowLft.{◌⊑◌}
use contract.Monad.{fact, fact_i}
use contract.Running.{tables}
use types.Kit.{Item, ⋆, ‵, raw, ◌⊛◌, ◌$◌, ◌∵◌, !, qed, by, move, keep, split, join, use0, use1, fsplit, fsplit3, fjoin}
use types.Kit.{fjoin3, feq_i, feq_l}
use types.Part.{whole, sub, agg}
use types.Run.{stop, fld, of_opd, and_then, no_more, returns, enter}
use types.ByLocal.{alloc_all, pass_all, free_all, look_at, get, get_in, sets}
use types.SemTy.{Body as Borrowed}
use denote.Exit.{yes}
use denote.RattleType.{owns}
use denote.Memory.{mem}
use denote.Signature.{types_at, plain}
use denote.Steps.{nothing, heard, opens, closes}
use denote.Triple.Walked.{Stays, stay_dropped, stay_ref, walk_of, Goes-dropped, Goes-ref}
use Rattle.std.proofs.RcSteps.{Ptr-Good, word, word-Good}
use Rattle.std.proofs.raw_atomic.Walks.{proved_at, leaves}
use Rattle.std.specs.Prelude.{Some}
use Rattle.std.specs.Map.{lookup, remove_entry}
use Rattle.pf_nodes.specs.NodeRefs.{IsNodeRef, same_node_ref}
use Rattle.pf_nodes.specs.Ownership.{nodes_own}
use Rattle.pf_nodes.proofs.Memory.{args, R, Nr, Sr, Pl, Lr, Boxed, node_ref_had, loose_made, node_out}
use Rattle.pf_nodes.specs.contracts.raw.Nodes.remove.{ended, clauses}
use Rattle.pf_nodes.specs.contracts.raw.Nodes.remove.Key.{name as #self}
use Rattle.pf_nodes.proofs.raw.Nodes.remove.Statement.{statement}
use Rattle.pf_nodes.proofs.raw.Nodes.remove.Code as code

pub remove_spec : {M : Type 1} → statement M
remove_spec 𝓤 𝓛 𝓜 𝓡 wired T L =
    let 𝓣 = tables 𝓤 𝓛.H 𝓜 𝓡 𝓡.env in let En = ended T in let c = clauses T 𝓛 𝓜.mem 𝓡.returns in
    let hs : Stays En.signature.params En.kept =
    (stay_ref (0 ∷ []) tt (plain (λ _. Sr T)), (stay_dropped (plain (λ _. Pl)) yes, tt)) in
    let fn = inst_fn (args T) code.function in
    proved_at 𝓛 En hs c 𝓜 𝓡 (
      Goes-ref 𝓛 2 0 tt (plain (λ _. Sr T)),
      (Goes-dropped 𝓛 2 (plain (λ _. Pl)) yes (λ κs x f. refl), tt),
    )
    (#self (args T)) fn (code.unfolded 𝓤 𝓛.H 𝓜 𝓡 wired (T, tt)) (λ z are.
    let κs = z.0.0 in let qs = z.0.1 in let κ = κs.0 in let Post : Val → SProp 𝓤 = (walk_of 𝓛 En hs c).post z in
    let self = z.0.3.0 in let node_ref = z.0.3.1.0 in let d = self.now in let rb = self.ref_ptr.0 in
    let ro = self.ref_ptr.1 in let γ = self.ghost_name in
    let t₁ : Item 𝓤 = ‵ (flft κ qs.0) in let t₂ : Item 𝓤 = ‵ (flft κs.1.0 qs.1.0) ⊛ ‵ ftrue in
    qed 𝓛 (((t₁ ⊛ t₂) ⊛ ‵ (owns (types_at En.signature.params κs) z.0.3 z.0.4)) ∷ raw (fact 𝓤 (κs.1.0 ⊑ T.lives))
    ∷ raw (fact 𝓤 (IsNodeRef d.items node_ref)) ∷ []) ∵
    move ! (2 ∷ []) $ heard ! (IsNodeRef d.items node_ref) (λ asked. let n = asked.0 in
    let rest = remove_entry (same_node_ref node_ref) d.items in let new : (Sr T).Denot = record d { items = rest } in
    let out : (Lr (Nr T)).Denot = record { ptr = node_ref.ptr; value = n } in
    split ! $ split ! $ move ! (2 ∷ []) $ fsplit ! $ fsplit3 !
    $ feq_l ! (λ e0. move ! (2 ∷ []) $ fsplit ! $ node_ref_had ! node_ref z.0.4.1.0 (λ e1.
    let Γ : List (Item 𝓤) = ‵ (fobs γ ((Sr T).coded.code d)) ∷ ‵ (fbor κ (Borrowed (mem (Sr T)) rb ro γ))
    ∷ t₁ ∷ t₂ ∷ [] in
    keep ! (1 ∷ 2 ∷ 3 ∷ 4 ∷ []) $
    by ! (subst (λ (us : List Val × List Val). ent 𝓤 (⋆ 𝓛 Γ) (WpFn 𝓤 𝓛.H 𝓣.C 𝓣.Λ fn (us.0 ++ (us.1 ++ [])) Post))
    (λ j. (sym e0 j, sym e1 j)) (
    qed 𝓛 Γ ∵ enter ! 𝓣.C 𝓣.Λ fn (vptr rb ro ∷ word node_ref.ptr ∷ []) Post $ alloc_all !
    (λ l. pass_all ! refl ((tt, tt), (word-Good [] node_ref.ptr, tt)) $
    opens ! tt (Sr T) {h = d} rb ro (λ vs. move ! (1 ∷ []) $ fsplit ! $ move ! (1 ∷ []) $
    use1 𝓛 (‵ (Boxed 𝓛 T node_ref.ptr n) ⊛ ‵ (nodes_own (R T) rest))
    (node_out 𝓛 T node_ref.ptr d.items n asked.1) $ split ! $
    -- [the node; the others; the mark; its cell; the open borrow; obs; auth; the other token]
    sets ! (of_opd ! (get_in ! (fld ! refl (stop !)) (sub ! 0 refl (whole !)))) refl (Ptr-Good node_ref.ptr) $
    sets ! (agg ! (and_then ! (get ! refl) (no_more !))) refl (word-Good [] node_ref.ptr) $
    loose_made (Nr T) ! out $ move ! (2 ∷ 1 ∷ []) $ fjoin ! $ move ! (2 ∷ 0 ∷ 3 ∷ 4 ∷ 5 ∷ []) $ closes ! tt
    (Sr T) new vs rb ro $
    returns ! (look_at ! 0 refl) $ free_all ! refl $
    -- [obs; the borrow; the token; the result; the other token]
    let Node = lookup (same_node_ref node_ref) d.items ≡ Some n in let Items = rest ≡ rest in
    feq_i ! (List Val) z.0.4.0 (vptr rb ro ∷ []) e0 $ fjoin3 ! $ nothing ! $ nothing ! $ fjoin !
    $ move ! (1 ∷ 0 ∷ []) $ fjoin ! $
    use0 𝓛 (raw (fact 𝓤 Items)) (fact_i 𝓤 Items (emp 𝓤) refl) $ use0 𝓛 (raw (fact 𝓤 Node))
    (fact_i 𝓤 Node (emp 𝓤) asked.1) $ join ! $
    move ! (2 ∷ 4 ∷ []) $ join ! $ move ! (0 ∷ 2 ∷ 3 ∷ 1 ∷ []) $
    by ! (leaves 𝓛 En hs c z (word node_ref.ptr) out (new, (tt, tt)) (tt, (tt, tt)))))))))))
