-- Clients may go to another thread: a lemma a type, each from those of its parts.
use Rattle.std.specs.Prelude.{ℕ, [], ◌∷◌}
use mir.Syntax.{Sym, Ty}
use denote.RattleType.{RattleType}
use denote.Exit.{no}
use denote.Param.{param, arg}
use denote.Ref.{NamedLft, ShrRef}
use denote.Slice.{MutSlice}
use denote.Struct.Tuple.{TupleAt}
use denote.Param.Send.{AllSend, IsSend, IsSync, arg_send, mut_slice_send, param_send, recorded_send, recorded_sync}
use denote.Param.Send.{sendable, shr_send, struct_send}
use denote.Struct.Declared.{shape}
use Rattle.std.proofs.Crossing as heap
use Rattle.std.proofs.io.Error.TheSendSync as error
use Rattle.pf_farm_accounts.specs.declared.names.FarmNames as names
use Rattle.pf_sched.proofs.Crossing as sched
use Rattle.pf_farm_state.proofs.Crossing as hall
use Rattle.pf_wire.specs.contracts.reported.WrittenAnswer as Reported
use Rattle.pf_wire.specs.contracts.reported.ReportedReport as Report
use Rattle.pf_wire.specs.contracts.ending.RefusedLine as Refused
use Rattle.pf_clients.specs.contracts.end.FileEnd as Ended
use Rattle.pf_clients.proofs.start.StartStage.TheSendSync as stage
use Rattle.pf_clients.specs.contracts.client.Client as Client
use Rattle.pf_clients.specs.contracts.start.FarmStart as Start
use Rattle.std.specs.contracts.alloc.Global as Global

report_field_send : IsSend (Report.the_field).row
report_field_send = search (sched.finished_send, heap.crosses, sendable) depth 30

reported_field_send : IsSend (Reported.the_field).row
reported_field_send = search (report_field_send, heap.crosses, sendable) depth 30

reported_send : IsSend Reported.the_row
reported_send = recorded_send (Reported.the_field).row _ _ (Reported.the_type).to_one reported_field_send

refused_field_send : IsSend (Refused.the_field).row
refused_field_send = search (heap.crosses, sendable) depth 30

ended_field_send : IsSend (Ended.the_field).row
ended_field_send = search (refused_field_send, error.the_field_send, sendable) depth 30

module _ (N S V : RattleType) (g : names.Ghosts N.Denot) (s : IsSend S) (v : IsSend V) where
  client_field_send : IsSend (Client.the_field N S V g).row
  client_field_send =
      let all : AllSend (shape (Client.the_type N S V g)).fields = (
        search (hall.client_seat_send N g, sendable) depth 30,
        (
          search (s, sendable) depth 30,
          (
            search (v, sendable) depth 30,
            (
              search (reported_send, heap.crosses, sendable) depth 30,
              (search (ended_field_send, sendable) depth 30, tt),
            ),
          ),
        ),
      ) in
      struct_send (shape (Client.the_type N S V g)) all

  pub client_send : IsSend (Client.the_row N S V g)
  client_send = recorded_send (Client.the_field N S V g).row _ _ (Client.the_type N S V g).to_one client_field_send

-- ---- the start is shared

start_field_sync : IsSync (Start.the_field).row
start_field_sync = search (stage.the_field_send, heap.crosses, sendable) depth 30

pub start_sync : IsSync Start.the_row
start_sync = recorded_sync (Start.the_field).row _ _ (Start.the_type).to_one start_field_sync

-- ---- a closure that lends an allocator and four values, and writes a slice

six_send : (ν : Sym) (A B C D E F : RattleType) → IsSend A → IsSend B → IsSend C → IsSend D → IsSend E → IsSend F
    → IsSend (TupleAt ν (A ∷ B ∷ C ∷ D ∷ E ∷ F ∷ []))
six_send ν A B C D E F a b c d e f = search sendable depth 20

module _ (A B C D E : RattleType) where
  pub work_send :
      (i : ℕ) (δ : Ty) (ν : Sym) (z a b c d e : NamedLft) → IsSync A → IsSync B → IsSync C → IsSync D → IsSend E →
      IsSend
      (param i (arg δ no (TupleAt ν (ShrRef z.mir z.lft Global.the_row ∷ ShrRef a.mir a.lft A ∷ ShrRef b.mir b.lft B
      ∷ ShrRef c.mir c.lft C ∷ ShrRef d.mir d.lft D ∷ MutSlice e.mir e.lft E ∷ []))))
  work_send i δ ν z a b c d e s t u v w =
      param_send i _ (arg_send δ no _ (six_send ν _ _ _ _ _ _ (shr_send z.mir z.lft Global.the_row heap.sync)
      (shr_send a.mir a.lft A s) (shr_send b.mir b.lft B t) (shr_send c.mir c.lft C u) (shr_send d.mir d.lft D v)
      (mut_slice_send e.mir e.lft E w)))
