-- The book of all desks may go to another thread: a lemma for each type, from those of its parts.
use denote.Param.Send.{IsSend, recorded_send, sendable}
use Rattle.std.proofs.Crossing as heap
use Rattle.std.proofs.hash.RandomState.TheSendSync as keys
use Rattle.indexmap.proofs.map.IndexMap.TheSendSync as index
use Rattle.pf_check.proofs.Crossing as read
use Rattle.pf_request.proofs.Crossing as request
use Rattle.pf_sched.proofs.Crossing as sched
use Rattle.pf_store.specs.contracts.store.StoredModule as Held
use Rattle.pf_store.specs.contracts.store.Store as Store
use Rattle.pf_quota.specs.contracts.usage.Usage as Usage
use Rattle.pf_book.proofs.refusal.CallRefusal.TheSendSync as refusal
use Rattle.pf_desks.specs.contracts.stage.TrialStage as Stage
use Rattle.pf_book.specs.contracts.entry.Entry as Entry
use Rattle.pf_book.specs.contracts.trial.TrialState as State
use Rattle.pf_book.specs.contracts.trial.Trial as Trial
use Rattle.pf_book.specs.contracts.desk.Desk as Desk
use Rattle.pf_book.specs.contracts.queue.TrialQueue as Queue
use Rattle.pf_book.specs.contracts.book.Book as Book
use Rattle.pf_farm_state.proofs.ResultCrossing.{whole_send}

-- ---- the store

held_send : IsSend Held.the_row
held_send = search (read.crosses, sendable) depth 30

store_send : IsSend Store.the_row
store_send = search (held_send, request.crosses, keys.the_send, index.the_send, heap.crosses, sendable) depth 30

-- ---- a desk

state_field_send : IsSend (State.the_field).row
state_field_send = search (whole_send, sched.crosses, heap.crosses, sendable) depth 30

trial_send : IsSend Trial.the_row
trial_send = search (state_field_send, sendable) depth 30

stage_field_send : IsSend (Stage.the_field).row
stage_field_send = search sendable depth 30

usage_send : IsSend Usage.the_row
usage_send = search sendable depth 30

entry_field_send : IsSend (Entry.the_field).row
entry_field_send =
    search (
      refusal.the_field_send,
      stage_field_send,
      usage_send,
      whole_send,
      read.source_send,
      request.order_field_send,
      sched.job_send,
      sched.job_sync,
      heap.Box-send,
      heap.Arc-send,
      sendable,
    )
    depth 40 fits 4000

entry_send : IsSend Entry.the_row
entry_send = recorded_send (Entry.the_field).row _ _ (Entry.the_type).to_one entry_field_send

desk_send : IsSend Desk.the_row
desk_send = search (trial_send, entry_send, read.crosses, heap.crosses, sendable) depth 30

-- ---- the book

queue_field_send : IsSend (Queue.the_field).row
queue_field_send = search (heap.crosses, sendable) depth 30

pub book_send : IsSend Book.the_row
book_send = search (
  desk_send,
  store_send,
  queue_field_send,
  keys.the_send,
  index.the_send,
  heap.crosses,
  sendable,
) depth 30
