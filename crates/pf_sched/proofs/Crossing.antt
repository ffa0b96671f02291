-- Jobs and their results may go to another thread, and be shared by threads; parked jobs and what a worker keeps may go
-- to another thread: a lemma a type, each from those of its parts.
use denote.Param.Send.{IsSend, IsSync, recorded_send, recorded_sync, sendable}
use Rattle.std.proofs.Crossing as heap
use Rattle.pf_syntax.proofs.node.FunctionId.TheSendSync as function
use Rattle.pf_model.proofs.Crossing as model
use Rattle.pf_property.proofs.Crossing as property
use Rattle.pf_request.proofs.Crossing as request
use Rattle.pf_check.proofs.Crossing as read
use Rattle.pf_sched.proofs.SystemCrossing as system
use Rattle.pf_trace.specs.contracts.event_lines.EventLines as EventLines
use Rattle.pf_trace.specs.contracts.lines.LinesSoFar as LinesSoFar
use Rattle.pf_trace.specs.contracts.lines.WrittenReport as WrittenReport
use Rattle.pf_shrink.specs.contracts.hunt.ShrinkingSearch as Hunt
use Rattle.pf_strategy.specs.contracts.last.Others as Others
use Rattle.pf_sched.specs.contracts.chooser.ActorChooser as Chooser
use Rattle.pf_sched.specs.contracts.execution.Execution as Execution
use Rattle.pf_sched.specs.contracts.finished.JobEnd as Ending
use Rattle.pf_sched.specs.contracts.finished.Finished as Finished
use Rattle.pf_sched.specs.contracts.job.Job as Job
use Rattle.pf_sched.specs.contracts.last.LastChooser as LastChooser
use Rattle.pf_sched.specs.contracts.last.Sampler as Sampler
use Rattle.pf_sched.specs.contracts.noted.NotedChoices as NotedChoices
use Rattle.pf_sched.specs.contracts.parked.Parked as Parked
use Rattle.pf_sched.specs.contracts.parked.ParkedWork as Work
use Rattle.pf_sched.specs.contracts.result.JobResult as JobResult
use Rattle.pf_sched.specs.contracts.result_block.JobWithResult as Came
use Rattle.pf_sched.specs.contracts.result_block.Whole as Whole
use Rattle.pf_sched.specs.contracts.run.Run as Run
use Rattle.pf_sched.specs.contracts.scratch.Scratch as Scratch
use Rattle.pf_sched.specs.contracts.shrinking.Shrinking as Shrinking
use Rattle.pf_sched.specs.contracts.trace.WrittenEvents as Written

pub job_send : IsSend Job.the_row
job_send = search (read.crosses, function.the_field_send, property.crosses, request.crosses, sendable) depth 30

pub job_sync : IsSync Job.the_row
job_sync = search (read.crosses, function.the_field_sync, property.crosses, request.crosses, sendable) depth 30

-- ---- lines of events

lines_field_send : IsSend (LinesSoFar.the_field).row
lines_field_send = search (model.sends, heap.crosses, sendable) depth 30

event_lines_field_send : IsSend (EventLines.the_field).row
event_lines_field_send = search (model.sends, heap.crosses, sendable) depth 30

event_lines_field_sync : IsSync (EventLines.the_field).row
event_lines_field_sync = search (model.shares, heap.crosses, sendable) depth 30

written_report_field_send : IsSend (WrittenReport.the_field).row
written_report_field_send = search (event_lines_field_send, model.sends, sendable) depth 30

written_report_send : IsSend WrittenReport.the_row
written_report_send = recorded_send (WrittenReport.the_field).row _ _ (WrittenReport.the_type).to_one
    written_report_field_send

written_report_field_sync : IsSync (WrittenReport.the_field).row
written_report_field_sync = search (event_lines_field_sync, model.shares, sendable) depth 30

written_report_sync : IsSync WrittenReport.the_row
written_report_sync = recorded_sync (WrittenReport.the_field).row _ _ (WrittenReport.the_type).to_one
    written_report_field_sync

-- ---- a parked job

hunt_send : IsSend Hunt.the_row
hunt_send = search (heap.crosses, sendable) depth 30

others_field_send : IsSend (Others.the_field).row
others_field_send = search (heap.crosses, sendable) depth 30

noted_field_send : IsSend (NotedChoices.the_field).row
noted_field_send = search (heap.crosses, sendable) depth 30

sampler_field_send : IsSend (Sampler.the_field).row
sampler_field_send = search (noted_field_send, heap.crosses, sendable) depth 30

last_field_send : IsSend (LastChooser.the_field).row
last_field_send = search (others_field_send, sampler_field_send, heap.crosses, sendable) depth 30

chooser_field_send : IsSend (Chooser.the_field).row
chooser_field_send = search (last_field_send, heap.crosses, sendable) depth 30

execution_field_send : IsSend (Execution.the_field).row
execution_field_send = search (chooser_field_send, system.crosses, heap.crosses, sendable) depth 30

written_field_send : IsSend (Written.the_field).row
written_field_send = search (lines_field_send, sendable) depth 30

run_field_send : IsSend (Run.the_field).row
run_field_send = search (execution_field_send, written_field_send, sendable) depth 30

shrinking_field_send : IsSend (Shrinking.the_field).row
shrinking_field_send = search (hunt_send, run_field_send, written_report_send, sendable) depth 30

work_field_send : IsSend (Work.the_field).row
work_field_send = search (run_field_send, shrinking_field_send, heap.crosses, sendable) depth 30

pub parked_send : IsSend Parked.the_row
parked_send = search (job_send, job_sync, work_field_send, heap.crosses, sendable) depth 30

-- ---- a finished job

result_field_send : IsSend (JobResult.the_field).row
result_field_send = search (written_report_field_send, heap.crosses, sendable) depth 30

result_field_sync : IsSync (JobResult.the_field).row
result_field_sync = search (written_report_field_sync, heap.crosses, sendable) depth 30

came_field_send : IsSend (Came.the_field).row
came_field_send = search (job_send, job_sync, result_field_send, heap.crosses, sendable) depth 30

came_send : IsSend Came.the_row
came_send = recorded_send (Came.the_field).row _ _ (Came.the_type).to_one came_field_send

came_field_sync : IsSync (Came.the_field).row
came_field_sync = search (job_send, job_sync, result_field_sync, heap.crosses, sendable) depth 30

came_sync : IsSync Came.the_row
came_sync = recorded_sync (Came.the_field).row _ _ (Came.the_type).to_one came_field_sync

whole_send : IsSend Whole.the_row
whole_send = search (came_send, came_sync, heap.crosses, sendable) depth 30

whole_sync : IsSync Whole.the_row
whole_sync = search (came_send, came_sync, heap.crosses, sendable) depth 30

ending_field_send : IsSend (Ending.the_field).row
ending_field_send = search (whole_send, job_send, job_sync, heap.crosses, sendable) depth 30

ending_field_sync : IsSync (Ending.the_field).row
ending_field_sync = search (whole_sync, job_send, job_sync, heap.crosses, sendable) depth 30

pub finished_send : IsSend Finished.the_row
finished_send = search (ending_field_send, sendable) depth 30

pub finished_sync : IsSync Finished.the_row
finished_sync = search (ending_field_sync, sendable) depth 30

-- ---- what a worker keeps

pub scratch_field_send : IsSend (Scratch.the_field).row
scratch_field_send = search (system.crosses, sendable) depth 30

pub scratch_send : IsSend Scratch.the_row
scratch_send = recorded_send (Scratch.the_field).row _ _ (Scratch.the_type).to_one scratch_field_send

-- ---- all together

pub ruleset crosses = (job_send, job_sync, parked_send, finished_send, finished_sync, scratch_field_send, scratch_send)
