-- The jobs of a hunt's workers are shared by threads.
use denote.Param.Send.{IsSync, recorded_sync, sendable}
use Rattle.std.proofs.Crossing as heap
use Rattle.pf_property.proofs.Crossing as property
use Rattle.pf_sched.proofs.Crossing as sched
use Rattle.pf_verdicts.specs.contracts.watched.WatchedJob as Watched
use Rattle.pf_verdicts.specs.contracts.watched.WorkerJobs as Jobs

watched_field_sync : IsSync (Watched.the_field).row
watched_field_sync = search (sched.job_sync, property.crosses, sendable) depth 30

watched_sync : IsSync Watched.the_row
watched_sync = recorded_sync (Watched.the_field).row _ _ (Watched.the_type).to_one watched_field_sync

pub jobs_field_sync : IsSync (Jobs.the_field).row
jobs_field_sync = search (watched_sync, sched.job_sync, heap.crosses, sendable) depth 30

pub jobs_sync : IsSync Jobs.the_row
jobs_sync = recorded_sync (Jobs.the_field).row _ _ (Jobs.the_type).to_one jobs_field_sync
