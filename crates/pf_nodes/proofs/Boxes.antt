-- Boxes of the heap, as the two walks that call `Box` see them. Assumes `Logic`.
--     Z, al      the heap's handle as an allocator, as a call of `Box` passes it
--     box_val    a box's machine value.        box_had, box_made      [the value's block; the handle]
use mathlib.Core.Path.{◌≡◌, refl, ◌∙◌}
use mathlib.Core.List.{List, [], ◌∷◌, ◌++◌}
use seplogic.Ra.Ura.{Ura}
use mir.Syntax.{Sym, Ty, Dict, impl, ty_ptr, ty_struct, ty_unit, tcons, tnil, dnil}
use mir.Val.{Val, vstruct, vcons, vnil, of_list}
use prog.Routine.{Env}
use prog.Wired.{Wired}
use types.Logic.{Logic}
use types.Kit.{Item, Goal, Seq, Step, step, ‵, ◌$◌, move, drop, fsplit, fjoin, fpick, fpack, rewrite, feq_l, feq_i}
use denote.Exit.{no}
use denote.RattleType.{RattleType, Valss}
use denote.Laws.{Is, shows}
use denote.Param.{param, arg}
use denote.Param.Glue.{Bound}
use denote.Param.NoDrop.{glues}
use denote.Param.Laws.{Laws, arg_laws}
use denote.RawPtr.{RawPtr, ptr_val, Ptr}
use denote.Steps.{nothing, peeks}
use denote.Struct.Struct.{as_fields, within}
use denote.Struct.Owning.{shape}
use Rattle.std.proofs.RcSteps.{Good, Ptr-Good}
use Rattle.std.proofs.Handle.{heap_val, heap_Tells}
use Rattle.std.proofs.alloc.Global.TheLaws as heap_laws
use Rattle.std.specs.contracts.alloc.Global as heap
use Rattle.std.specs.contracts.boxed.Box as box
use Rattle.std.specs.contracts.impls.GlobalAllocator.TheImpl.{ghosts}
use Rattle.std.specs.Box.Ownership.{box_owns}
use Rattle.pf_nodes.proofs.Destruct++none.drop.Code.{code}
use Rattle.pf_nodes.specs.Ownership.{heap_token}

abbrev raw_heap : Ty
raw_heap = ty_struct [] (tcons (ty_struct [] (tcons ty_unit tnil)) tnil)

abbrev pub Z : RattleType
Z = arg raw_heap no heap.the_row

abbrev pub LZ : Laws Z
LZ = arg_laws raw_heap no heap.the_row heap_laws.the_row_laws refl

-- the handle needs no drop
abbrev pub drops : Dict
drops = impl ("pf_nodes::Destruct++none::drop" ∷ []) (tcons raw_heap tnil) dnil

pub drops_nothing : (γ : Env) → Wired γ code → Bound γ Z drops
unfolding code
drops_nothing γ wired = glues "pf_nodes::Destruct++none::drop" γ wired Z LZ

abbrev pub box_val : Ptr → Val
box_val p = vstruct (vcons (ptr_val p) (vcons heap_val vnil))

pub box_good : (ν : Sym) (p : Ptr) → Good (ty_struct ν (tcons ty_ptr (tcons raw_heap tnil))) (box_val p)
box_good ν p = as_fields (ty_ptr ∷ raw_heap ∷ []) (ptr_val p ∷ heap_val ∷ []) (Ptr-Good p, ((tt, ((tt, tt), tt)), tt))

module _ (X : RattleType) where
  abbrev pub Bw : RattleType
  Bw = box.the_row (param 0 X) heap.the_row ghosts

  module _ {M : Type 1} {𝓤 : Ura M} {𝓛 : Logic 𝓤} {K : Type 0} {Γ : List (Item 𝓤)} {G : Goal 𝓤 𝓛.H} where
    pub box_had : K → (d : Bw.Denot) (vs : List Val)
        → (vs ≡ box_val d.ptr ∷ [] → Seq K 𝓛 (‵ (box_owns heap_token (param 0 X) d.ptr d.value)
        ∷ ‵ ((heap.the_row).own_val d.alloc (heap_val ∷ [])) ∷ Γ) G) → Seq K 𝓛 (‵ (Bw.own_val d vs) ∷ Γ) G
    box_had t d vs k =
        fsplit t $ fpick t (λ vss. fsplit t $ feq_l t (λ ev. fsplit t $ feq_l t (λ ep. fsplit t $
        peeks t heap.the_row (Is heap.the_row) (shows 𝓛 heap.the_row) d.alloc vss.1.0
        (λ is. let eh = heap_Tells d.alloc vss.1.0 is in
        rewrite t 0 (λ (us : List Val). ‵ ((heap.the_row).own_val d.alloc us)) eh refl $ move t (1 ∷ []) $ drop t
        $ move t (1 ∷ []) $
        k (ev ∙ (λ j. vstruct (of_list (ep j ++ (eh j ++ []))) ∷ []))))))

    pub box_made : K → (d : Bw.Denot) → Step K 𝓛 (‵ (Bw.own_val d (box_val d.ptr ∷ [])) ∷ Γ) G
        (‵ (box_owns heap_token (param 0 X) d.ptr d.value) ∷ ‵ ((heap.the_row).own_val d.alloc (heap_val ∷ [])) ∷ Γ) G
    box_made t d = step (λ s.
        nothing t $ move t (2 ∷ 0 ∷ []) $ fjoin t $ feq_i t (List Val) (ptr_val d.ptr ∷ []) (ptr_val d.ptr ∷ [])
        refl $ fjoin t $
        feq_i t (List Val) (box_val d.ptr ∷ []) (box_val d.ptr ∷ []) refl $ fjoin t $
        fpack t (Valss (RawPtr ∷ heap.the_row ∷ [])) (within (shape (box.the_type (param 0 X) heap.the_row ghosts))
        (d.ptr, (d.alloc, tt)) (box_val d.ptr ∷ [])) (ptr_val d.ptr ∷ [], (heap_val ∷ [], tt)) $ fjoin t $ s)
