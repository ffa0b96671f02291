-- Who watches a farm is shared by its threads: a lemma a type, each from those of its parts.
use denote.RattleType.{RattleType}
use denote.Param.Send.{IsSync, recorded_sync, sendable}
use Rattle.std.proofs.Crossing as heap
use Rattle.pulsefarm.specs.contracts.watch.FarmWatch as FarmWatch
use Rattle.pulsefarm.specs.contracts.watch.Trials as Trials

trials_field_sync : IsSync (Trials.the_field).row
trials_field_sync = search (heap.crosses, sendable) depth 30

trials_sync : IsSync Trials.the_row
trials_sync = recorded_sync (Trials.the_field).row _ _ (Trials.the_type).to_one trials_field_sync
