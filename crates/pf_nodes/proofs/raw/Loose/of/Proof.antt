-- `of` takes a box apart, and keeps what it owned.
use Rattle.std.proofs.Common.{◌≡◌, List, [], ◌∷◌, ◌++◌, refl, sym, ap, subst}
use mir.Syntax.{a_type, dcons, dnil}
use mir.MapTy.{inst_fn}
use mir.Val.{Val}
use base.Fraction.{full_share}
use base.Logic.{SProp, ent, emp, id⊢}
use base.Fml.{ftrue, flft}
use prog.Wp.{WpFn}
use contract.BorrowLft.{◌⊑◌, ⊑_static}
use contract.Lifetimes.{Lfts}
use contract.Monad.{fact, fact_i}
use contract.Running.{tables}
use types.Kit.{Item, ⋆, ‵, raw, ◌⊛◌, some, later, ◌$◌, ◌∵◌, !, qed, by, move, keep, drop, split, join, use0, use1}
use types.Kit.{await, pick, fsplit, fjoin, feq_l}
use types.Part.{agg}
use types.Run.{of_opd, no_more, and_then, returns, enter}
use types.ByLocal.{alloc_all, pass_all, free_all, look_at, get, sets, lands_as}
use types.Tokens.{lft_new}
use denote.Exit.{no}
use denote.RattleType.{RattleType, owns}
use denote.Param.{param, bounded}
use denote.RawPtr.{Ptr, RawPtr}
use denote.Signature.{types_at, plain}
use denote.Steps.{nothing, heard, only}
use denote.Triple.Clauses.{Lasts, lasts}
use denote.Triple.Spec.{triple_of}
use denote.Triple.Call.{calls_at}
use denote.Triple.Table.{framed}
use denote.Triple.Walked.{Stays, stay_dropped, walk_of}
use Rattle.std.proofs.alloc.Calls.{Goes-blank}
use Rattle.std.proofs.RcSteps.{Ptr-Good, word, word-Good}
use Rattle.std.proofs.raw_atomic.Walks.{proved_at, leaves}
use Rattle.std.proofs.impls.GlobalAllocator.TheImpl.Met.{passed}
use Rattle.std.specs.contracts.impls.GlobalAllocator.TheImpl.{ghosts, dict}
use Rattle.std.specs.Box.Ownership.{box_owns}
use Rattle.std.specs.contracts.boxed.Box.into_raw as callee
use Rattle.std.proofs.boxed.Box.into_raw.Met.{met}
use Rattle.pf_nodes.specs.Ownership.{heap_token}
use Rattle.pf_nodes.proofs.Boxes.{Z, LZ, drops, drops_nothing, Bw, box_val, box_good, box_had, box_made}
use Rattle.pf_nodes.proofs.Memory.{Lr, loose_made}
use Rattle.pf_nodes.specs.contracts.raw.Loose.of.{ended, clauses}
use Rattle.pf_nodes.specs.contracts.raw.Loose.of.Key.{name as #self}
use Rattle.pf_nodes.proofs.raw.Loose.of.Statement.{statement}
use Rattle.pf_nodes.proofs.raw.Loose.of.Code as code

pub of_spec : {M : Type 1} → statement M
of_spec {M = M} 𝓤 𝓛 𝓜 𝓡 wired X L dx glued =
    let 𝓣 = tables 𝓤 𝓛.H 𝓜 𝓡 𝓡.env in let En = ended X dx in let c = clauses X dx 𝓛 𝓜.mem 𝓡.returns in
    let hs : Stays En.signature.params En.kept = (stay_dropped (plain (λ _. Bw X)) no, tt) in
    let inst = bounded (a_type ∷ []) (X, tt) (dcons dx dnil) in let fn = inst_fn inst code.function in
    let R : RattleType = param 0 X in
    let allocator = passed 𝓡.env (code.calls-std_heap::GlobalAllocator::allocate 𝓡.env wired)
    (code.calls-std_heap::GlobalAllocator::deallocate 𝓡.env wired)
    (code.calls-std_heap::GlobalAllocator::grow 𝓡.env wired)
    (code.calls-std_heap::GlobalAllocator::shrink 𝓡.env wired) M 𝓤 𝓛 𝓜 𝓡 in
    let undropped = drops_nothing 𝓡.env (code.calls-pf_nodes::Destruct++none::drop 𝓡.env wired) M 𝓤 𝓛 𝓜 𝓡 in
    let k = triple_of 𝓛 (callee.signature X Z ghosts dict drops dx)
    (callee.spec X Z ghosts dict drops dx 𝓛 𝓜.mem 𝓡.returns) in
    let known = met 𝓤 𝓛 𝓜 𝓡 (code.calls-std_alloc::boxed::Box::into_raw 𝓡.env wired) X Z L LZ ghosts dict drops dx
    allocator undropped glued in
    proved_at 𝓛 En hs c 𝓜 𝓡 (Goes-blank 𝓛 1 (plain (λ _. Bw X)) no (λ κs x f. tt), tt) (#self inst) fn
    (code.unfolded 𝓤 𝓛.H 𝓜 𝓡 wired (X, tt) dx) (λ z are.
    let κs = z.0.0 in let qs = z.0.1 in let κ = κs.0 in let d = z.0.3.0 in let Post : Val
    → SProp 𝓤 = (walk_of 𝓛 En hs c).post z in
    let t₁ : Item 𝓤 = ‵ (flft κ qs.0) in let inX = κ ⊑ X.lives in let w : Val = box_val d.ptr in
    qed 𝓛 (((t₁ ⊛ ‵ ftrue) ⊛ ‵ (owns (types_at En.signature.params κs) z.0.3 z.0.4)) ∷ raw (fact 𝓤 inX)
    ∷ ‵ ftrue ∷ []) ∵
    move ! (1 ∷ []) $ heard ! inX (λ lives. split ! $ split ! $ move ! (2 ∷ []) $ fsplit ! $ box_had X ! d z.0.4.0
    (λ e0. box_made X ! d $
    let Γ : List (Item 𝓤) = ‵ ((Bw X).own_val d (w ∷ [])) ∷ t₁ ∷ [] in move ! (0 ∷ 2 ∷ []) $ keep ! (0 ∷ 1 ∷ []) $
    by ! (subst (λ (us : List Val). ent 𝓤 (⋆ 𝓛 Γ) (WpFn 𝓤 𝓛.H 𝓣.C 𝓣.Λ fn (us ++ []) Post)) (sym e0) (
    qed 𝓛 Γ ∵ enter ! 𝓣.C 𝓣.Λ fn (w ∷ []) Post $ alloc_all !
    (λ l. pass_all ! refl (box_good [] d.ptr, tt) $ sets ! (of_opd ! (get ! refl)) refl (box_good [] d.ptr)
    $ lft_new ! tt (λ α.
    let t₂ : Item 𝓤 = ‵ (flft (α ∷ []) full_share) ⊛ ‵ ftrue in let κs' : Lfts 2 = (κ, (α ∷ [], tt)) in
    let inZ = (α ∷ []) ⊑ Z.lives in
    let y : k.Ghost = ((κs', (qs.0, (full_share, tt)), tt, (d, tt), (w ∷ [], tt)), tt) in
    nothing ! $ move ! (1 ∷ 0 ∷ []) $ join ! $ move ! (2 ∷ 0 ∷ []) $ join ! $ nothing ! $ move ! (2 ∷ 0 ∷ []) $ fjoin !
    $ move ! (1 ∷ 0 ∷ []) $ join ! $
    nothing ! $ use0 𝓛 (raw (fact 𝓤 inZ)) (fact_i 𝓤 inZ (emp 𝓤) (⊑_static (α ∷ []))) $ join !
    $ use0 𝓛 (raw (fact 𝓤 inX)) (fact_i 𝓤 inX (emp 𝓤) lives) $ join ! $ move ! (1 ∷ 0 ∷ []) $ join ! $
    use1 𝓛 (raw (k.pre y)) (id⊢ 𝓤 _) $
    calls_at ! (framed 𝓤 𝓛.H 𝓜 𝓣) k known y (and_then ! (get ! refl) (no_more !)) (λ u.
    let after = callee.ended X Z ghosts dict drops dx in
    use1 𝓛 (later (some (λ (r : Ptr). ((t₁ ⊛ t₂) ⊛ ‵ (RawPtr.own_val r (u ∷ []))) ⊛ some
    (λ (ls : Lasts after κs' y.0.3). ‵ (lasts after κs' y.0.3 ls) ⊛ ‵ (box_owns heap_token R r d.value)))))
    (id⊢ 𝓤 (k.post y u)) $
    await ! tt $ pick ! (λ r. split ! $ move ! (1 ∷ [])
    $ pick ! (λ ls. split ! $ drop ! $ move ! (1 ∷ []) $ split ! $ split ! $ move ! (2 ∷ []) $ feq_l ! (λ e.
    -- [the token; the other one; the block]
    let out : (Lr R).Denot = record { ptr = r; value = d.value } in let Value = d.value ≡ d.value in
    lands_as ! (ap only e) refl (Ptr-Good r) $ sets ! (agg ! (and_then ! (get ! refl) (no_more !))) refl
    (word-Good [] r) $ returns ! (look_at ! 0 refl) $ free_all ! refl $
    move ! (2 ∷ []) $ loose_made R ! out $ use0 𝓛 (raw (fact 𝓤 Value)) (fact_i 𝓤 Value (emp 𝓤) refl) $ nothing !
    $ nothing ! $ fjoin ! $
    nothing ! $ move ! (4 ∷ 0 ∷ []) $ join ! $ move ! (0 ∷ 1 ∷ 3 ∷ 2 ∷ []) $ keep ! (0 ∷ 1 ∷ 2 ∷ 3 ∷ []) $
    by ! (leaves 𝓛 En hs c z (word r) out (tt, tt) (tt, tt)))))))))))))
