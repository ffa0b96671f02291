-- `into_box` makes the box again.
use Rattle.std.proofs.Common.{◌≡◌, List, [], ◌∷◌, ◌++◌, refl, sym, ap, subst}
use mir.Syntax.{a_type, dcons, dnil}
use mir.MapTy.{inst_fn}
use mir.Val.{Val}
use base.Fraction.{full_share}
use base.Logic.{SProp, ent, emp, id⊢}
use base.Fml.{ftrue, flft}
use prog.Wp.{WpFn}
use contract.BorrowLft.{◌⊑◌, ⊑_static}
use contract.Lifetimes.{Lfts}
use contract.Monad.{fact, fact_i}
use contract.Running.{tables}
use types.Kit.{Item, ⋆, ‵, raw, ◌⊛◌, some, later, at_ret, ◌$◌, ◌∵◌, !, qed, by, move, keep, drop, split, join, split3}
use types.Kit.{use0, use1, await, pick, rewrite, fsplit, fjoin, feq_i}
use types.Part.{sub, whole}
use types.Run.{stop, fld, of_opd, no_more, and_then, first, blocks, exec, returns, enter}
use types.ByLocal.{alloc_all, pass_all, free_all, look_at, get, get_in, sets, lands_last, env}
use types.Tokens.{lft_new}
use denote.Exit.{yes, no}
use denote.RattleType.{RattleType, owns}
use denote.Param.{param, bounded, layout}
use denote.RawPtr.{ptr_val}
use denote.Signature.{types_at, plain}
use denote.Laws.{Is, shows}
use denote.Steps.{nothing, heard, peeks, only}
use denote.Triple.Clauses.{Lasts, lasts}
use denote.Triple.Spec.{triple_of}
use denote.Triple.Call.{calls_at_last}
use denote.Triple.Table.{framed}
use denote.Triple.Walked.{Stays, stay_dropped, walk_of, Goes-dropped}
use Rattle.std.proofs.alloc.Calls.{Goes-blank}
use Rattle.std.proofs.RcSteps.{Good, Ptr-Good, word, word-Good}
use Rattle.std.proofs.raw_atomic.Walks.{proved_at, leaves}
use Rattle.std.proofs.impls.GlobalAllocator.TheImpl.Met.{passed}
use Rattle.std.proofs.VecSteps.Shapes.{after}
use Rattle.std.proofs.Handle.{heap_val, heap_Tells}
use Rattle.std.specs.contracts.alloc.Global as heap
use Rattle.std.specs.contracts.impls.GlobalAllocator.TheImpl.{ghosts, dict}
use Rattle.std.specs.Box.Ownership.{box_owns}
use Rattle.std.specs.contracts.boxed.Box.from_raw as callee
use Rattle.std.proofs.boxed.Box.from_raw.Met.{met}
use Rattle.pf_nodes.specs.Ownership.{heap_token}
use Rattle.pf_nodes.proofs.Boxes.{Z, LZ, drops, drops_nothing, Bw, box_good, box_had, box_made}
use Rattle.pf_nodes.proofs.Memory.{Lr, loose_had}
use Rattle.pf_nodes.specs.contracts.raw.Loose.into_box.{ended, clauses}
use Rattle.pf_nodes.specs.contracts.raw.Loose.into_box.Key.{name as #self}
use Rattle.pf_nodes.proofs.raw.Loose.into_box.Statement.{statement}
use Rattle.pf_nodes.proofs.raw.Loose.into_box.Code as code

pub into_box_spec : {M : Type 1} → statement M
into_box_spec {M = M} 𝓤 𝓛 𝓜 𝓡 wired X L dx glued =
    let 𝓣 = tables 𝓤 𝓛.H 𝓜 𝓡 𝓡.env in let En = ended X dx in let c = clauses X dx 𝓛 𝓜.mem 𝓡.returns in
    let R : RattleType = param 0 X in let hs : Stays En.signature.params En.kept = (
      stay_dropped (plain (λ _. Lr R)) no,
      (stay_dropped (plain (λ _. heap.the_row)) yes, tt),
    ) in
    let inst = bounded (a_type ∷ []) (X, tt) (dcons dx dnil) in let fn = inst_fn inst code.function in
    let allocator = passed 𝓡.env (code.calls-std_heap::GlobalAllocator::allocate 𝓡.env wired)
    (code.calls-std_heap::GlobalAllocator::deallocate 𝓡.env wired)
    (code.calls-std_heap::GlobalAllocator::grow 𝓡.env wired)
    (code.calls-std_heap::GlobalAllocator::shrink 𝓡.env wired) M 𝓤 𝓛 𝓜 𝓡 in
    let undropped = drops_nothing 𝓡.env (code.calls-pf_nodes::Destruct++none::drop 𝓡.env wired) M 𝓤 𝓛 𝓜 𝓡 in
    let k = triple_of 𝓛 (callee.signature X Z ghosts dict drops)
    (callee.spec X Z ghosts dict drops 𝓛 𝓜.mem 𝓡.returns) in
    let known = met 𝓤 𝓛 𝓜 𝓡 (code.calls-std_alloc::boxed::Box::from_raw 𝓡.env wired) X Z L LZ ghosts dict drops
    allocator undropped in
    proved_at 𝓛 En hs c 𝓜 𝓡 (
      Goes-blank 𝓛 1 (plain (λ _. Lr R)) no (λ κs x f. tt),
      (Goes-dropped 𝓛 1 (plain (λ _. heap.the_row)) yes (λ κs x f. refl), tt),
    )
    (#self inst) fn (code.unfolded 𝓤 𝓛.H 𝓜 𝓡 wired (X, tt) dx) (λ z are.
    let κs = z.0.0 in let qs = z.0.1 in let κ = κs.0 in let v = z.0.3.0 in let a = z.0.3.1.0 in let Post : Val
    → SProp 𝓤 = (walk_of 𝓛 En hs c).post z in
    let t₁ : Item 𝓤 = ‵ (flft κ qs.0) in let inX = κ ⊑ X.lives in
    qed 𝓛 (((t₁ ⊛ ‵ ftrue) ⊛ ‵ (owns (types_at En.signature.params κs) z.0.3 z.0.4)) ∷ raw (fact 𝓤 inX)
    ∷ ‵ ftrue ∷ []) ∵
    move ! (1 ∷ []) $ heard ! inX (λ lives. split ! $ split ! $ move ! (2 ∷ []) $ fsplit ! $ loose_had R ! v z.0.4.0
    (λ e0. move ! (1 ∷ []) $ fsplit ! $
    peeks ! heap.the_row (Is heap.the_row) (shows 𝓛 heap.the_row) a z.0.4.1.0
    (λ is. let e1 = heap_Tells a z.0.4.1.0 is in
    rewrite ! 0 (λ (us : List Val). ‵ ((heap.the_row).own_val a us)) e1 refl $
    -- [the handle; nothing; the block; the token]
    let Γ : List (Item 𝓤) = ‵ ((heap.the_row).own_val a (heap_val ∷ [])) ∷ ‵ (box_owns heap_token R v.ptr v.value) ∷ t₁
    ∷ [] in move ! (0 ∷ 2 ∷ 3 ∷ []) $ keep ! (0 ∷ 1 ∷ 2 ∷ []) $
    by ! (subst (λ (us : List Val × List Val). ent 𝓤 (⋆ 𝓛 Γ) (WpFn 𝓤 𝓛.H 𝓣.C 𝓣.Λ fn (us.0 ++ (us.1 ++ [])) Post))
    (λ j. (sym e0 j, sym e1 j)) (
    qed 𝓛 Γ ∵ enter ! 𝓣.C 𝓣.Λ fn (word v.ptr ∷ heap_val ∷ []) Post $ alloc_all !
    (λ l. pass_all ! refl (word-Good [] v.ptr, ((tt, ((tt, tt), tt)), tt)) $
    sets ! (of_opd ! (get_in ! (fld ! refl (stop !)) (sub ! 0 refl (whole !)))) refl (Ptr-Good v.ptr)
    $ lft_new ! tt (λ α.
    let t₂ : Item 𝓤 = ‵ (flft (α ∷ []) full_share) ⊛ ‵ ftrue in let κs' : Lfts 2 = (κ, (α ∷ [], tt)) in
    let inZ = (α ∷ []) ⊑ Z.lives in
    let y : k.Ghost = (
      (κs', (qs.0, (full_share, tt)), tt, (a, (v.ptr, tt)), (heap_val ∷ [], (ptr_val v.ptr ∷ [], tt))),
      v.value,
    ) in
    -- [the other token; the handle; the block; the token]
    nothing ! $ move ! (1 ∷ 0 ∷ []) $ join ! $ move ! (3 ∷ 0 ∷ []) $ join ! $
    nothing ! $ feq_i ! (List Val) (ptr_val v.ptr ∷ []) (ptr_val v.ptr ∷ []) refl $ fjoin ! $ move ! (2 ∷ 0 ∷ [])
    $ fjoin ! $ move ! (1 ∷ 0 ∷ []) $ join ! $ move ! (1 ∷ []) $
    use0 𝓛 (raw (fact 𝓤 inZ)) (fact_i 𝓤 inZ (emp 𝓤) (⊑_static (α ∷ []))) $ join ! $ use0 𝓛 (raw (fact 𝓤 inX))
    (fact_i 𝓤 inX (emp 𝓤) lives) $ join ! $ move ! (1 ∷ 0 ∷ []) $ join ! $
    use1 𝓛 (raw (k.pre y)) (id⊢ 𝓤 _) $ first ! $ blocks ! $
    calls_at_last ! (framed 𝓤 𝓛.H 𝓜 𝓣) k known y (and_then ! (get ! refl) (and_then ! (get ! refl) (no_more !))) (λ u.
    let ends = callee.ended X Z ghosts dict drops in
    use1 𝓛 (later (some (λ (r : (Bw X).Denot). ((t₁ ⊛ t₂) ⊛ ‵ ((Bw X).own_val r (u ∷ []))) ⊛ some
    (λ (ls : Lasts ends κs' y.0.3). ‵ (lasts ends κs' y.0.3 ls) ⊛
    (raw (fact 𝓤 (r.value ≡ v.value)) ⊛ raw (fact 𝓤 (r.alloc ≡ a))))))) (id⊢ 𝓤 (k.post y u)) $
    await ! tt $ pick ! (λ r. split ! $ move ! (1 ∷ [])
    $ pick ! (λ ls. split3 ! $ drop ! $ move ! (2 ∷ []) $ split ! $ split ! $ move ! (2 ∷ []) $ box_had X ! r
    (u ∷ []) (λ e. box_made X ! r $
    -- [the box; the token; the other one; its value; its allocator]
    rewrite ! 0 (λ (us : List Val). ‵ ((Bw X).own_val r us)) (sym e) refl $ let good : Good (layout (Bw X)) u = subst
    (Good (layout (Bw X))) (sym (ap only e)) (box_good [] r.ptr) in
    lands_last ! refl good $ exec ! 𝓣.C 𝓣.Λ (env fn.locals l) (after 2 fn.body) (at_ret (env fn.locals l) Post)
    $ sets ! (of_opd ! (get ! refl)) refl good $
    returns ! (look_at ! 0 refl) $ free_all ! refl $ nothing ! $ nothing ! $ fjoin ! $ nothing ! $ fjoin ! $
    nothing ! $ move ! (3 ∷ 0 ∷ []) $ join ! $ move ! (0 ∷ 1 ∷ 2 ∷ 4 ∷ []) $ keep ! (0 ∷ 1 ∷ 2 ∷ 3 ∷ []) $
    by ! (leaves 𝓛 En hs c z u r (tt, (tt, tt)) (tt, (tt, tt)))))))))))))))
