-- Requests and calls may go to another thread, and be shared by threads: a lemma a type, each from those of
-- its parts.
use denote.Param.Send.{IsSend, IsSync, sendable}
use Rattle.std.proofs.Crossing as heap
use Rattle.pf_check.proofs.Crossing as check
use Rattle.pf_request.specs.contracts.choices.RunChoices as RunChoices
use Rattle.pf_request.specs.contracts.request.RequestKind as Kind
use Rattle.pf_request.specs.contracts.request.Request as Request
use Rattle.pf_request.specs.contracts.call.Order as Order
use Rattle.pf_request.specs.contracts.call.Call as Call

-- ---- to another thread

pub choices_field_send : IsSend (RunChoices.the_field).row
choices_field_send = search (heap.crosses, sendable) depth 30

pub kind_field_send : IsSend (Kind.the_field).row
kind_field_send = search (choices_field_send, heap.crosses, sendable) depth 30

pub request_field_send : IsSend (Request.the_field).row
request_field_send = search (kind_field_send, heap.crosses, sendable) depth 30

pub order_field_send : IsSend (Order.the_field).row
order_field_send = search (request_field_send, sendable) depth 30

pub call_field_send : IsSend (Call.the_field).row
call_field_send = search (check.source_send, order_field_send, sendable) depth 30

-- ---- shared by threads

pub choices_field_sync : IsSync (RunChoices.the_field).row
choices_field_sync = search (heap.crosses, sendable) depth 30

pub kind_field_sync : IsSync (Kind.the_field).row
kind_field_sync = search (choices_field_sync, heap.crosses, sendable) depth 30

pub request_field_sync : IsSync (Request.the_field).row
request_field_sync = search (kind_field_sync, heap.crosses, sendable) depth 30

pub order_field_sync : IsSync (Order.the_field).row
order_field_sync = search (request_field_sync, sendable) depth 30

pub call_field_sync : IsSync (Call.the_field).row
call_field_sync = search (check.source_sync, order_field_sync, sendable) depth 30

-- ---- all together

pub ruleset sends = (
  check.source_send,
  choices_field_send,
  kind_field_send,
  request_field_send,
  order_field_send,
  call_field_send,
)

pub ruleset shares = (
  check.source_sync,
  choices_field_sync,
  kind_field_sync,
  request_field_sync,
  order_field_sync,
  call_field_sync,
)

pub ruleset crosses = (sends, shares)
