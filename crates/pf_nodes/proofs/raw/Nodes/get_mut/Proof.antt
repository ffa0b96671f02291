-- `get_mut` lends the node at a reference, and the owner follows it.
use Rattle.std.proofs.Common.{◌≡◌, ℕ, List, [], ◌∷◌, ◌++◌, refl, sym, ap, subst}
use seplogic.Ra.Ura.{Ura}
use base.Fraction.{full_share}
use mir.Syntax.{named}
use mir.MapTy.{inst_fn}
use mir.Raw.{raw as bare}
use mir.Val.{Val, vptr}
use base.Logic.{SProp, ent, sep, emp, never, fst∗}
use base.Fml.{Fml, GName, ftrue, fsep, flft, fobs, fbor}
use prog.Wp.{WpFn}
use types.Logic.{Logic, sem}
use contract.BorrowLft.{◌⊑◌}
use contract.Monad.{fact, fact_i}
use contract.Running.{tables}
use types.Kit.{Item, ⋆, ‵, raw, ◌⊛◌, some, later, await, pick, at_ret, ◌$◌, ◌∵◌, !, qed, by, move, keep, split, join}
use types.Kit.{group, use0, use1, use2, rewrite, fsplit, fsplit3, fjoin, fjoin3, fpack, feq_l, done}
use types.Part.{whole, sub}
use types.Run.{stop, fld, of_opd, addr, first, blocks, exec, returns, enter}
use types.ByLocal.{alloc_all, pass_all, free_all, look_at, get, get_in, through, sets, sets_last, is, env}
use types.SemTy.{Body as Borrowed}
use denote.Exit.{yes, no}
use denote.RattleType.{RattleType, owns}
use denote.Memory.{mem, lone, cell_at, part_at, part_of}
use denote.RawPtr.{Ptr, block_ptr, null_ptr, ptr_val, in_a_block, lies_at}
use denote.Ref.{MutBor, MutRef}
use denote.Follow.{follows, Part, lends_Part}
use denote.Signature.{types_at, plain, mut_ref_to}
use denote.Steps.{nothing, heard, opens}
use denote.Triple.Walked.{Stays, stay_dropped, walk_of, Goes-dropped, Goes-spent_ref}
use Rattle.std.proofs.VecSteps.Shapes.{after}
use Rattle.std.proofs.RcSteps.{word, word-Good}
use Rattle.std.proofs.raw_atomic.Walks.{proved_at, leaves}
use Rattle.std.specs.Prelude.{Some}
use Rattle.std.specs.Box.Ownership.{box_owns}
use Rattle.std.specs.Map.{lookup, remove_entry}
use Rattle.pf_nodes.specs.NodeRefs.{IsNodeRef, same_node_ref}
use Rattle.pf_nodes.specs.Ownership.{heap_token, nodes_own}
use Rattle.pf_nodes.specs.Lends.{with_node}
use Rattle.pf_nodes.specs.declared.raw.NodeRef.{NodeRef}
use Rattle.pf_nodes.proofs.Memory.{args, R, Nr, Sr, Mark, Pl, Boxed, node_ref_had, node_out, node_back}
use Rattle.pf_nodes.specs.contracts.raw.Nodes.get_mut.{ended, clauses}
use Rattle.pf_nodes.specs.contracts.raw.Nodes.get_mut.Key.{name as #self}
use Rattle.pf_nodes.proofs.raw.Nodes.get_mut.Statement.{statement}
use Rattle.pf_nodes.proofs.raw.Nodes.get_mut.Code as code

module _ (T : RattleType) (d : (Sr T).Denot) (node_ref : NodeRef) (n : (Nr T).Denot) (rb ro : ℕ) (vs : List Val)
    (b o : ℕ) where
  -- all of the owner but the node
  abbrev Rest : Fml
  Rest = fsep (heap_token (bare (lone (Nr T).mir)) (block_ptr b o))
      (fsep (nodes_own (R T) (remove_entry (same_node_ref node_ref) d.items))
      (fsep ((Mark T).own_val (tt, tt) vs) (cell_at full_share (Sr T).mir vs rb ro)))

  module _ {M : Type 1} {𝓤 : Ura M} (𝓛 : Logic 𝓤) where
    -- with the node, whatever it has become, it is the owner again
    back : node_ref.ptr ≡ block_ptr b o → lookup (same_node_ref node_ref) d.items ≡ Some n
        → (w : (Nr T).Denot) → ent 𝓤 (sep 𝓤 (sem 𝓛 ((mem (Nr T)).own_at w b o)) (sem 𝓛 Rest))
        (sem 𝓛 ((mem (Sr T)).own_at (with_node d node_ref w) rb ro))
    unfolding part_of
    back at found w =
        qed 𝓛 (‵ (part_at (Nr T) full_share w b o) ∷ ‵ Rest ∷ []) ∵ move ! (1 ∷ []) $ fsplit3 !
        $ move ! (2 ∷ []) $ fsplit ! $
        -- [the mark; its cell; the token; the others; the node]
        move ! (4 ∷ 2 ∷ []) $ fjoin ! $ rewrite ! 0
        (λ (p : Ptr). ‵ (fsep (lies_at (Nr T) full_share p w) (heap_token (bare (lone (Nr T).mir)) p)))
        (sym at) refl $ move ! (0 ∷ 3 ∷ []) $
        use2 𝓛 (‵ (nodes_own (R T) (with_node d node_ref w).items)) (node_back 𝓛 T node_ref.ptr d.items n w found)
        $ move ! (1 ∷ 0 ∷ []) $ fjoin ! $ move ! (1 ∷ 0 ∷ []) $ fjoin ! $
        fpack ! (List Val) (λ us. fsep (cell_at full_share (Sr T).mir us rb ro)
        ((Sr T).own_val (with_node d node_ref w) us)) vs $ done !

pub get_mut_spec : {M : Type 1} → statement M
get_mut_spec 𝓤 𝓛 𝓜 𝓡 wired T L =
    let 𝓣 = tables 𝓤 𝓛.H 𝓜 𝓡 𝓡.env in let En = ended T in let c = clauses T 𝓛 𝓜.mem 𝓡.returns in
    let hs : Stays En.signature.params En.kept = (
      stay_dropped (mut_ref_to (0 ∷ []) tt (plain (λ _. Sr T))) no,
      (stay_dropped (plain (λ _. Pl)) yes, tt),
    ) in
    let fn = inst_fn (args T) code.function in
    proved_at 𝓛 En hs c 𝓜 𝓡 (
      Goes-spent_ref 𝓛 2 (0 ∷ []) tt (plain (λ _. Sr T)),
      (Goes-dropped 𝓛 2 (plain (λ _. Pl)) yes (λ κs x f. refl), tt),
    )
    (#self (args T)) fn (code.unfolded 𝓤 𝓛.H 𝓜 𝓡 wired (T, tt)) (λ z are.
    let κs = z.0.0 in let qs = z.0.1 in let κ = κs.0 in let Post : Val → SProp 𝓤 = (walk_of 𝓛 En hs c).post z in
    let self = z.0.3.0 in let node_ref = z.0.3.1.0 in let d = self.now in let rb = self.ref_ptr.0 in
    let ro = self.ref_ptr.1 in let γ = self.ghost_name in
    let t₁ : Item 𝓤 = ‵ (flft κ qs.0) in let t₂ : Item 𝓤 = ‵ (flft κs.1.0 qs.1.0) ⊛ ‵ ftrue in
    let coded = (Sr T).coded.code d in
    qed 𝓛 (((t₁ ⊛ t₂) ⊛ ‵ (owns (types_at En.signature.params κs) z.0.3 z.0.4)) ∷ raw (fact 𝓤 (κs.1.0 ⊑ T.lives))
    ∷ raw (fact 𝓤 (IsNodeRef d.items node_ref)) ∷ []) ∵
    move ! (2 ∷ []) $ heard ! (IsNodeRef d.items node_ref) (λ asked. let n = asked.0 in
    let becomes = with_node d node_ref in
    let rest = remove_entry (same_node_ref node_ref) d.items in
    split ! $ split ! $ move ! (2 ∷ []) $ fsplit ! $ fsplit3 !
    $ feq_l ! (λ e0. move ! (2 ∷ []) $ fsplit ! $ node_ref_had ! node_ref z.0.4.1.0 (λ e1.
    let Γ : List (Item 𝓤) = ‵ (fobs γ coded) ∷ ‵ (fbor κ (Borrowed (mem (Sr T)) rb ro γ)) ∷ t₁ ∷ t₂ ∷ [] in
    keep ! (1 ∷ 2 ∷ 3 ∷ 4 ∷ []) $
    by ! (subst (λ (us : List Val × List Val). ent 𝓤 (⋆ 𝓛 Γ) (WpFn 𝓤 𝓛.H 𝓣.C 𝓣.Λ fn (us.0 ++ (us.1 ++ [])) Post))
    (λ j. (sym e0 j, sym e1 j)) (
    qed 𝓛 Γ ∵ enter ! 𝓣.C 𝓣.Λ fn (vptr rb ro ∷ word node_ref.ptr ∷ []) Post $ alloc_all !
    (λ l. pass_all ! refl ((tt, tt), (word-Good [] node_ref.ptr, tt)) $
    opens ! tt (Sr T) {h = d} rb ro (λ vs. move ! (1 ∷ []) $ fsplit ! $ move ! (1 ∷ []) $
    use1 𝓛 (‵ (Boxed 𝓛 T node_ref.ptr n) ⊛ ‵ (nodes_own (R T) rest))
    (node_out 𝓛 T node_ref.ptr d.items n asked.1) $ split ! $
    in_a_block ! node_ref.ptr (λ p. box_owns heap_token (Nr T) p n)
    (fst∗ 𝓤 (never 𝓤) (sem 𝓛 (heap_token (bare (lone (Nr T).mir)) null_ptr))) (λ pb po e.
    let Kept = Rest T d node_ref n rb ro vs pb po in let way = back T d node_ref n rb ro vs pb po 𝓛 e asked.1 in
    let Here : GName → SProp 𝓤 = λ δ. Part 𝓛 (Sr T) (Nr T) becomes (named 0) κ qs.0 rb ro pb po γ
    (sem 𝓛 Kept) way n δ in
    fsplit ! $
    -- [the node; its token; the others; the mark; its cell; the open borrow; obs; auth; the other token]
    first ! $ blocks ! $
    sets ! (is ! (of_opd ! (get_in ! (fld ! refl (stop !)) (sub ! 0 refl (whole !)))) (ap ptr_val e)) refl (tt, tt) $
    sets_last ! (addr ! (through ! refl (stop !))) refl (tt, tt) $
    exec ! 𝓣.C 𝓣.Λ (env fn.locals l) (after 1 fn.body) (at_ret (env fn.locals l) Post) $
    sets ! (of_opd ! (get ! refl)) refl (tt, tt) $
    move ! (3 ∷ 4 ∷ []) $ fjoin ! $ move ! (2 ∷ 3 ∷ 0 ∷ []) $ fjoin3 ! $ move ! (2 ∷ 3 ∷ 4 ∷ 1 ∷ 0 ∷ []) $ group ! 5 $
    use1 𝓛 (later (some (λ (δ : GName). raw (Here δ))))
    (lends_Part 𝓛 (Sr T) (Nr T) becomes (named 0) κ qs.0 rb ro pb po γ (sem 𝓛 Kept) way coded coded n)
    $ await ! tt $ pick ! (λ δ.
    returns ! (look_at ! 0 refl) $ free_all ! refl $
    let r : MutBor (Nr T).Denot = record { ref_ptr = (pb, po); ghost_name = δ; now = n } in let v : Val = vptr pb po in
    let Shown = lookup (same_node_ref node_ref) d.items ≡ Some n in
    use1 𝓛 (‵ ((MutRef (named 0) κ (Nr T)).own_val r (v ∷ [])) ⊛ t₁ ⊛ ‵ (follows (Sr T) (Nr T) γ δ becomes))
    (base.Logic.id⊢ 𝓤 _) $ types.Kit.split3 ! $
    use0 𝓛 (raw (fact 𝓤 Shown)) (fact_i 𝓤 Shown (emp 𝓤) asked.1) $ move ! (3 ∷ 0 ∷ []) $ join !
    $ move ! (2 ∷ 3 ∷ []) $ join ! $
    nothing ! $ nothing ! $ fjoin ! $ nothing ! $ fjoin ! $ move ! (1 ∷ 0 ∷ 3 ∷ 2 ∷ []) $
    by ! (leaves 𝓛 En hs c z v r (tt, (tt, tt)) (tt, (tt, tt)))))))))))))
