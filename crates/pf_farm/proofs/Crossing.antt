-- Workers' seats may go to another thread, and the floor may be shared by threads: a lemma a type, each from those of
-- its parts.
use Rattle.std.specs.Prelude.{ℕ, [], ◌∷◌}
use mir.Syntax.{Sym, Ty}
use denote.RattleType.{RattleType}
use denote.Exit.{no}
use denote.Param.{param, arg}
use denote.Ref.{NamedLft, ShrRef}
use denote.Struct.Tuple.{TupleAt}
use denote.Param.Send.{IsSend, IsSync, recorded_send, recorded_sync, param_sync, arg_sync, shr_sync, sendable}
use Rattle.std.proofs.Crossing as heap
use Rattle.std.proofs.sync.ledger.Share.TheSendSync as share
use Rattle.std.specs.contracts.alloc.Global as Global
use Rattle.pf_farm_accounts.specs.declared.names.FarmNames as names
use Rattle.pf_farm_accounts.proofs.deque.Owner.TheSendSync as owner
use Rattle.pf_farm_accounts.proofs.deque.Thief.TheSendSync as thief
use Rattle.pf_sched.proofs.Crossing as sched
use Rattle.pf_farm_state.proofs.Crossing as hall
use Rattle.pf_farm.proofs.tally.WorkTally.TheSendSync as tally
use Rattle.pf_farm.specs.contracts.held.HeldRun as HeldRun
use Rattle.pf_farm.specs.contracts.seat.WorkSeat as WorkSeat
use Rattle.pf_farm.specs.contracts.floor.SharedState as Shared
use Rattle.pf_farm.specs.contracts.floor.Floor as Floor

module _ (N : RattleType) (g : names.Ghosts N.Denot) where
  -- ---- a worker's seat

  held_run_send : IsSend (HeldRun.the_row N g)
  held_run_send = search (hall.open_claim_send, sched.parked_send, sendable) depth 30

  pub work_seat_send : IsSend (WorkSeat.the_row N g)
  work_seat_send = search (
    held_run_send,
    owner.the_send,
    thief.the_send,
    share.the_send,
    tally.the_field_send,
    heap.crosses,
    sendable,
  ) depth 30

  -- ---- the floor

  shared_field_send : IsSend (Shared.the_field N g).row
  shared_field_send = search (hall.hall_send, sendable) depth 30

  shared_send : IsSend (Shared.the_row N g)
  shared_send = recorded_send (Shared.the_field N g).row _ _ (Shared.the_type N g).to_one shared_field_send

  floor_field_sync : IsSync (Floor.the_field N g).row
  floor_field_sync = search (shared_send, heap.crosses, sendable) depth 30

  pub floor_sync : IsSync (Floor.the_row N g)
  floor_sync = recorded_sync (Floor.the_field N g).row _ _ (Floor.the_type N g).to_one floor_field_sync

-- ---- a closure that has an allocator and lends three values

four_sync : (ν : Sym) (A B C D : RattleType) → IsSync A → IsSync B → IsSync C → IsSync D
    → IsSync (TupleAt ν (A ∷ B ∷ C ∷ D ∷ []))
four_sync ν A B C D a b c d = search sendable depth 20

module _ (A B C : RattleType) where
  pub closure_sync :
      (i : ℕ) (δ : Ty) (ν : Sym) (a b c : NamedLft) → IsSync A → IsSync B → IsSync C →
      IsSync
      (param i (arg δ no (TupleAt ν (Global.the_row ∷ ShrRef a.mir a.lft A ∷ ShrRef b.mir b.lft B
      ∷ ShrRef c.mir c.lft C ∷ []))))
  closure_sync i δ ν a b c s t u =
      param_sync i _ (arg_sync δ no _ (four_sync ν _ _ _ _ heap.sync (shr_sync a.mir a.lft A s)
      (shr_sync b.mir b.lft B t) (shr_sync c.mir c.lft C u)))
