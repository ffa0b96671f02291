-- `get` shows the node that the owner lends.
use Rattle.std.proofs.Common.{◌≡◌, List, [], ◌∷◌, ◌++◌, refl, sym, ap, subst}
use mir.MapTy.{inst_fn}
use mir.Val.{Val, vptr}
use base.Logic.{SProp, ent, emp}
use base.Fml.{Fml, ftrue, flft}
use prog.Wp.{WpFn}
use contract.BorrowLft.{◌⊑◌}
use contract.Monad.{fact, fact_i}
use contract.Running.{tables}
use types.Kit.{Item, ⋆, ‵, raw, ◌⊛◌, at_ret, ◌$◌, ◌∵◌, !, qed, by, move, keep, drop, use0, use1, split, fsplit, fjoin}
use types.Kit.{feq_i, feq_l, done}
use types.Part.{whole, sub}
use types.Run.{stop, fld, of_opd, addr, first, blocks, exec, returns, enter}
use types.ByLocal.{alloc_all, pass_all, free_all, look_at, get, get_in, through, sets, sets_last, is, env}
use denote.Exit.{yes}
use denote.RattleType.{owns}
use denote.Memory.{hidden_shr}
use denote.RawPtr.{Ptr, null_ptr, ptr_val, in_a_block}
use denote.Ref.{Bor}
use denote.Builtin.{RefOf}
use denote.Signature.{types_at, plain}
use denote.Opens.{hide, unhide}
use denote.Steps.{nothing, heard}
use denote.Struct.Lending.{lent_at}
use denote.Triple.Walked.{Stays, stay_dropped, walk_of, Goes-dropped}
use Rattle.std.proofs.VecSteps.Shapes.{after}
use Rattle.std.proofs.RcSteps.{word, word-Good}
use Rattle.std.proofs.raw_atomic.Walks.{proved_at, leaves}
use Rattle.std.specs.Prelude.{Some}
use Rattle.std.specs.Map.{lookup}
use Rattle.pf_nodes.specs.NodeRefs.{IsNodeRef, same_node_ref}
use Rattle.pf_nodes.proofs.Memory.{args, Nr, Sr, Pl, node_ref_had, node_seen}
use Rattle.pf_nodes.specs.contracts.raw.Nodes.get.{ended, clauses}
use Rattle.pf_nodes.specs.contracts.raw.Nodes.get.Key.{name as #self}
use Rattle.pf_nodes.proofs.raw.Nodes.get.Statement.{statement}
use Rattle.pf_nodes.proofs.raw.Nodes.get.Code as code

pub get_spec : {M : Type 1} → statement M
get_spec 𝓤 𝓛 𝓜 𝓡 wired T L =
    let 𝓣 = tables 𝓤 𝓛.H 𝓜 𝓡 𝓡.env in let En = ended T in let c = clauses T 𝓛 𝓜.mem 𝓡.returns in
    let hs : Stays En.signature.params En.kept = (
      stay_dropped (RefOf (0 ∷ []) tt (plain (λ _. Sr T)) (λ _. tt)) yes,
      (stay_dropped (plain (λ _. Pl)) yes, tt),
    ) in
    let fn = inst_fn (args T) code.function in
    proved_at 𝓛 En hs c 𝓜 𝓡 (
      Goes-dropped 𝓛 2 (RefOf (0 ∷ []) tt (plain (λ _. Sr T)) (λ _. tt)) yes (λ κs x f. refl),
      (Goes-dropped 𝓛 2 (plain (λ _. Pl)) yes (λ κs x f. refl), tt),
    )
    (#self (args T)) fn (code.unfolded 𝓤 𝓛.H 𝓜 𝓡 wired (T, tt)) (λ z are.
    let κs = z.0.0 in let qs = z.0.1 in let κ = κs.0 in let Post : Val → SProp 𝓤 = (walk_of 𝓛 En hs c).post z in
    let self = z.0.3.0 in let node_ref = z.0.3.1.0 in let d = self.now in let rb = self.ref_ptr.0 in
    let ro = self.ref_ptr.1 in
    let t₁ : Item 𝓤 = ‵ (flft κ qs.0) in let t₂ : Item 𝓤 = ‵ (flft κs.1.0 qs.1.0) in
    qed 𝓛 (((t₁ ⊛ t₂ ⊛ ‵ ftrue) ⊛ ‵ (owns (types_at En.signature.params κs) z.0.3 z.0.4))
    ∷ raw (fact 𝓤 (κs.1.0 ⊑ T.lives)) ∷ raw (fact 𝓤 (IsNodeRef d.items node_ref)) ∷ []) ∵
    move ! (2 ∷ []) $ heard ! (IsNodeRef d.items node_ref) (λ asked. let n = asked.0 in
    split ! $ move ! (1 ∷ []) $ fsplit ! $ fsplit !
    $ feq_l ! (λ e0. move ! (1 ∷ []) $ fsplit ! $ node_ref_had ! node_ref z.0.4.1.0 (λ e1. move ! (1 ∷ 2 ∷ []) $
    let Γ : List (Item 𝓤) = ‵ (hidden_shr (Sr T) κ d rb ro) ∷ (t₁ ⊛ t₂ ⊛ ‵ ftrue) ∷ [] in
    keep ! (0 ∷ 1 ∷ []) $
    by ! (subst (λ (us : List Val × List Val). ent 𝓤 (⋆ 𝓛 Γ) (WpFn 𝓤 𝓛.H 𝓣.C 𝓣.Λ fn (us.0 ++ (us.1 ++ [])) Post))
    (λ j. (sym e0 j, sym e1 j)) (
    let At : Ptr → Fml = λ p. lent_at (Nr T) p n κ in
    qed 𝓛 Γ ∵ enter ! 𝓣.C 𝓣.Λ fn (vptr rb ro ∷ word node_ref.ptr ∷ []) Post $ alloc_all !
    (λ l. pass_all ! refl ((tt, tt), (word-Good [] node_ref.ptr, tt)) $
    unhide ! $ fsplit ! $ drop ! $ use1 𝓛 (‵ (At node_ref.ptr)) (node_seen 𝓛 T node_ref.ptr κ d.items n asked.1) $
    in_a_block ! node_ref.ptr At (qed 𝓛 (‵ (At null_ptr) ∷ []) ∵ fsplit ! $ keep ! (0 ∷ []) $ done !) (λ pb po e.
    let r : Bor (Nr T).Denot = record { ref_ptr = (pb, po); now = n } in let v : Val = vptr pb po in
    let Shown = lookup (same_node_ref node_ref) d.items ≡ Some r.now in
    first ! $ blocks ! $
    sets ! (is ! (of_opd ! (get_in ! (fld ! refl (stop !)) (sub ! 0 refl (whole !)))) (ap ptr_val e)) refl (tt, tt) $
    sets_last ! (addr ! (through ! refl (stop !))) refl (tt, tt) $
    exec ! 𝓣.C 𝓣.Λ (env fn.locals l) (after 1 fn.body) (at_ret (env fn.locals l) Post) $
    sets ! (of_opd ! (get ! refl)) refl (tt, tt) $ returns ! (look_at ! 0 refl) $ free_all ! refl $
    fsplit ! $ drop ! $ hide ! $ feq_i ! (List Val) (v ∷ []) (v ∷ []) refl $ fjoin ! $
    use0 𝓛 (raw (fact 𝓤 Shown)) (fact_i 𝓤 Shown (emp 𝓤) asked.1) $ nothing ! $ nothing ! $ fjoin !
    $ nothing ! $ fjoin ! $
    keep ! (3 ∷ 0 ∷ 2 ∷ 1 ∷ []) $ by ! (leaves 𝓛 En hs c z v r (tt, (tt, tt)) (tt, (tt, tt)))))))))))
