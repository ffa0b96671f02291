-- Marks are shared by threads.
use Rattle.std.specs.Prelude.{ℕ, [], ◌∷◌}
use mir.Syntax.{Sym, Ty}
use denote.RattleType.{RattleType}
use denote.Exit.{no}
use denote.Param.{param, arg}
use denote.Ref.{NamedLft, ShrRef}
use denote.Slice.{MutSlice}
use denote.Struct.Tuple.{TupleAt}
use denote.Param.Send.{IsSend, IsSync, recorded_sync, param_send, param_sync, arg_send, arg_sync, shr_send, shr_sync}
use denote.Param.Send.{mut_slice_send, sendable}
use Rattle.std.proofs.Crossing as heap
use Rattle.std.specs.contracts.alloc.Global as Global
use Rattle.pf_tests_farm.specs.contracts.waiting.GateMark as Mark

mark_field_sync : IsSync (Mark.the_field).row
mark_field_sync = search (heap.crosses, sendable) depth 30

pub mark_sync : IsSync Mark.the_row
mark_sync = recorded_sync (Mark.the_field).row _ _ (Mark.the_type).to_one mark_field_sync

-- ---- a closure that has an allocator and lends four values

five_sync : (ν : Sym) (A B C D E : RattleType) → IsSync A → IsSync B → IsSync C → IsSync D → IsSync E
    → IsSync (TupleAt ν (A ∷ B ∷ C ∷ D ∷ E ∷ []))
five_sync ν A B C D E a b c d e = search sendable depth 20

module _ (A B C D : RattleType) where
  pub closure_sync :
      (i : ℕ) (δ : Ty) (ν : Sym) (a b c d : NamedLft) → IsSync A → IsSync B → IsSync C → IsSync D →
      IsSync
      (param i (arg δ no (TupleAt ν (Global.the_row ∷ ShrRef a.mir a.lft A ∷ ShrRef b.mir b.lft B
      ∷ ShrRef c.mir c.lft C ∷ ShrRef d.mir d.lft D ∷ []))))
  closure_sync i δ ν a b c d s t u v =
      param_sync i _ (arg_sync δ no _ (five_sync ν _ _ _ _ _ heap.sync (shr_sync a.mir a.lft A s)
      (shr_sync b.mir b.lft B t) (shr_sync c.mir c.lft C u) (shr_sync d.mir d.lft D v)))

-- ---- closures that lend an allocator and some values, and write a slice

five_send : (ν : Sym) (A B C D E : RattleType) → IsSend A → IsSend B → IsSend C → IsSend D → IsSend E
    → IsSend (TupleAt ν (A ∷ B ∷ C ∷ D ∷ E ∷ []))
five_send ν A B C D E a b c d e = search sendable depth 20

module _ (A B C D : RattleType) where
  pub work_send :
      (i : ℕ) (δ : Ty) (ν : Sym) (z a b c d : NamedLft) → IsSync A → IsSync B → IsSync C → IsSend D →
      IsSend
      (param i (arg δ no (TupleAt ν (ShrRef z.mir z.lft Global.the_row ∷ ShrRef a.mir a.lft A ∷ ShrRef b.mir b.lft B
      ∷ ShrRef c.mir c.lft C ∷ MutSlice d.mir d.lft D ∷ []))))
  work_send i δ ν z a b c d s t u v =
      param_send i _ (arg_send δ no _ (five_send ν _ _ _ _ _ (shr_send z.mir z.lft Global.the_row heap.sync)
      (shr_send a.mir a.lft A s) (shr_send b.mir b.lft B t) (shr_send c.mir c.lft C u)
      (mut_slice_send d.mir d.lft D v)))
