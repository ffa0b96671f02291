-- A job's result may go to another thread, and be shared by threads: a lemma for each type, from those of its parts.
use denote.Param.Send.{IsSend, IsSync, recorded_send, recorded_sync, sendable}
use Rattle.std.proofs.Crossing as heap
use Rattle.pf_model.proofs.Crossing as model
use Rattle.pf_sched.proofs.Crossing as sched
use Rattle.pf_trace.specs.contracts.event_lines.EventLines as EventLines
use Rattle.pf_trace.specs.contracts.lines.WrittenReport as WrittenReport
use Rattle.pf_sched.specs.contracts.result.JobResult as JobResult
use Rattle.pf_sched.specs.contracts.result_block.JobWithResult as Came
use Rattle.pf_sched.specs.contracts.result_block.Whole as Whole

-- ---- to another thread

event_lines_field_send : IsSend (EventLines.the_field).row
event_lines_field_send = search (model.sends, heap.crosses, sendable) depth 30

written_report_field_send : IsSend (WrittenReport.the_field).row
written_report_field_send = search (event_lines_field_send, model.sends, sendable) depth 30

result_field_send : IsSend (JobResult.the_field).row
result_field_send = search (written_report_field_send, heap.crosses, sendable) depth 30

came_field_send : IsSend (Came.the_field).row
came_field_send = search (sched.crosses, result_field_send, heap.crosses, sendable) depth 30

came_send : IsSend Came.the_row
came_send = recorded_send (Came.the_field).row _ _ (Came.the_type).to_one came_field_send

-- ---- shared by threads

event_lines_field_sync : IsSync (EventLines.the_field).row
event_lines_field_sync = search (model.shares, heap.crosses, sendable) depth 30

written_report_field_sync : IsSync (WrittenReport.the_field).row
written_report_field_sync = search (event_lines_field_sync, model.shares, sendable) depth 30

result_field_sync : IsSync (JobResult.the_field).row
result_field_sync = search (written_report_field_sync, heap.crosses, sendable) depth 30

came_field_sync : IsSync (Came.the_field).row
came_field_sync = search (sched.crosses, result_field_sync, heap.crosses, sendable) depth 30

came_sync : IsSync Came.the_row
came_sync = recorded_sync (Came.the_field).row _ _ (Came.the_type).to_one came_field_sync

-- ---- the whole of it, in an `Arc`

pub whole_send : IsSend Whole.the_row
whole_send = search (came_send, came_sync, heap.crosses, sendable) depth 30
