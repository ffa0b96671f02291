-- The state under the lock, open claims and clients' seats may go to another thread: a lemma for each type, from those
-- of its parts.
use denote.RattleType.{RattleType}
use denote.Param.Send.{AllSend, IsSend, recorded_send, sendable, struct_send}
use denote.Struct.Declared.{shape}
use Rattle.std.proofs.Crossing as heap
use Rattle.std.proofs.sync.ledger.Book.TheSendSync as book
use Rattle.std.proofs.sync.ledger.Share.TheSendSync as share
use Rattle.pf_farm_accounts.proofs.register.Register.TheSendSync as register
use Rattle.pf_farm_accounts.proofs.register.RegisterToken.TheSendSync as token
use Rattle.pf_farm_accounts.specs.declared.names.FarmNames as names
use Rattle.pf_request.specs.contracts.call.Call as Call
use Rattle.pf_sched.specs.contracts.job.Job as Job
use Rattle.pf_farm_accounts.specs.contracts.row.Claim as Claim
use Rattle.pf_farm_accounts.specs.contracts.row.ClaimRow as Row
use Rattle.pf_farm_accounts.specs.contracts.ledger.Ledger as Ledger
use Rattle.pf_farm_accounts.specs.contracts.ledger.OpenClaim as OpenClaim
use Rattle.pf_book.specs.contracts.reply.Reply as Reply
use Rattle.pf_farm_accounts.specs.contracts.receipt.Receipt as Receipt
use Rattle.pf_farm_accounts.specs.contracts.log.CallLog as CallLog
use Rattle.pf_farm_accounts.specs.contracts.looks.LookLog as LookLog
use Rattle.pf_farm_accounts.specs.contracts.looks.SeatLooks as SeatLooks
use Rattle.pf_farm_accounts.specs.contracts.seat.Seat as Seat
use Rattle.pf_farm_state.specs.contracts.client.ClientSeat as ClientSeat
use Rattle.pf_farm_state.specs.contracts.client.ClientSeat.TheInside as SeatInside
use Rattle.pf_farm_state.specs.contracts.hall.Hall as Hall
use Rattle.pf_farm_state.specs.contracts.hall.Hall.TheInside as HallInside
use Rattle.pf_farm_state.specs.contracts.look.TrialLook as Look
use Rattle.pf_farm_state.proofs.BookCrossing.{book_send}

-- ---- claims and receipts

claim_field_send : IsSend (Claim.the_field Job.the_row).row
claim_field_send = search (heap.crosses, sendable) depth 30

row_field_send : IsSend (Row.the_field Job.the_row).row
row_field_send = search (claim_field_send, heap.crosses, sendable) depth 30

row_send : IsSend (Row.the_row Job.the_row)
row_send = recorded_send (Row.the_field Job.the_row).row _ _ (Row.the_type Job.the_row).to_one row_field_send

receipt_field_send : IsSend (Receipt.the_field Call.the_row Reply.the_row).row
receipt_field_send = search (heap.crosses, sendable) depth 30

receipt_send : IsSend (Receipt.the_row Call.the_row Reply.the_row)
receipt_send =
    recorded_send (Receipt.the_field Call.the_row Reply.the_row).row _ _
    (Receipt.the_type Call.the_row Reply.the_row).to_one receipt_field_send

module _ (N : RattleType) (g : names.Ghosts N.Denot) where
  pub open_claim_send : IsSend (OpenClaim.the_row N Job.the_row g)
  open_claim_send = search (claim_field_send, token.the_send, heap.crosses, sendable) depth 30

  -- ---- a client's seat

  seat_send : IsSend (Seat.the_row N Call.the_row Reply.the_row g)
  seat_send = search (receipt_send, share.the_send, token.the_send, heap.crosses, sendable) depth 30

  seat_looks_send : IsSend (SeatLooks.the_row N Look.the_row g)
  seat_looks_send = search (token.the_send, sendable) depth 30

  seat_inside_send : IsSend (SeatInside.the_row N g)
  seat_inside_send =
      let all : AllSend (shape (SeatInside.the_type N g)).fields = (
        seat_send,
        (seat_looks_send, (search sendable depth 30, tt)),
      ) in
      recorded_send (SeatInside.the_field N g).row _ _ (SeatInside.the_type N g).to_one
      (struct_send (shape (SeatInside.the_type N g)) all)

  pub client_seat_send : IsSend (ClientSeat.the_row N g)
  client_seat_send = search (seat_inside_send, sendable) depth 30

  -- ---- the state under the lock

  ledger_send : IsSend (Ledger.the_row N Job.the_row g)
  ledger_send = search (row_send, book.the_send, register.the_send, heap.crosses, sendable) depth 30

  log_send : IsSend (CallLog.the_row N Call.the_row Reply.the_row g)
  log_send = search (book.the_send, register.the_send, sendable) depth 30

  look_log_send : IsSend (LookLog.the_row N Look.the_row g)
  look_log_send = search (register.the_send, sendable) depth 30

  hall_inside_send : IsSend (HallInside.the_row N g)
  hall_inside_send =
      let all : AllSend (shape (HallInside.the_type N g)).fields = (
        book_send,
        (ledger_send, (log_send, (look_log_send, (search sendable depth 30, tt)))),
      ) in
      recorded_send (HallInside.the_field N g).row _ _ (HallInside.the_type N g).to_one
      (struct_send (shape (HallInside.the_type N g)) all)

  pub hall_send : IsSend (Hall.the_row N g)
  hall_send = search (hall_inside_send, sendable) depth 30
