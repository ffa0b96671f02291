-- The result of a hunt may go to another thread, and what is hunted may be shared: a lemma a type, each from those of
-- its parts.
use denote.Param.Send.{IsSend, IsSync, recorded_send, recorded_sync, sendable}
use Rattle.std.proofs.Crossing as heap
use Rattle.std.proofs.MapsCrossing as maps
use Rattle.pf_model.proofs.Crossing as model
use Rattle.pf_strategy.proofs.strategy.Strategy.TheSendSync as strategy
use Rattle.pf_property.proofs.Crossing as property
use Rattle.pf_sched.proofs.Crossing as sched
use Rattle.pf_verdicts.proofs.Crossing as verdicts
use Rattle.pf_hunt.specs.contracts.failure.FailingSeed as Failure
use Rattle.pf_hunt.specs.contracts.failure.Searched as Searched
use Rattle.pf_hunt.specs.contracts.leak.Leak as Leak
use Rattle.pf_hunt.specs.contracts.places.NumberPlace as Place
use Rattle.pf_hunt.specs.contracts.places.NumberPlaces as Places
use Rattle.pf_hunt.specs.contracts.row.OutcomeRow as Row
use Rattle.pf_hunt.specs.contracts.seeded.Hunt as Hunt
use Rattle.pf_hunt.specs.contracts.tallied.Tallied as Tallied
use Rattle.pf_hunt.specs.contracts.tally.Tally as Tally
use Rattle.pf_hunt.specs.contracts.workers.Team as Team

pub failure_field_send : IsSend (Failure.the_field).row
failure_field_send = search (model.sends, sendable) depth 30

pub failure_send : IsSend Failure.the_row
failure_send = recorded_send (Failure.the_field).row _ _ (Failure.the_type).to_one failure_field_send

leak_field_send : IsSend (Leak.the_field).row
leak_field_send = search sendable depth 30

leak_send : IsSend Leak.the_row
leak_send = recorded_send (Leak.the_field).row _ _ (Leak.the_type).to_one leak_field_send

pub searched_field_send : IsSend (Searched.the_field).row
searched_field_send = search (failure_send, leak_send, sendable) depth 30

pub searched_send : IsSend Searched.the_row
searched_send = recorded_send (Searched.the_field).row _ _ (Searched.the_type).to_one searched_field_send

row_field_send : IsSend (Row.the_field).row
row_field_send = search (model.sends, sendable) depth 30

row_send : IsSend Row.the_row
row_send = recorded_send (Row.the_field).row _ _ (Row.the_type).to_one row_field_send

place_field_send : IsSend (Place.the_field).row
place_field_send = search sendable depth 30

place_send : IsSend Place.the_row
place_send = recorded_send (Place.the_field).row _ _ (Place.the_type).to_one place_field_send

places_field_send : IsSend (Places.the_field).row
places_field_send = search (place_send, maps.crosses, heap.crosses, sendable) depth 30

pub tally_field_send : IsSend (Tally.the_field).row
tally_field_send = search (row_send, places_field_send, heap.crosses, sendable) depth 30

pub tally_send : IsSend Tally.the_row
tally_send = recorded_send (Tally.the_field).row _ _ (Tally.the_type).to_one tally_field_send

pub tallied_field_send : IsSend (Tallied.the_field).row
tallied_field_send = search (tally_field_send, leak_field_send, sendable) depth 30

pub tallied_send : IsSend Tallied.the_row
tallied_send = recorded_send (Tallied.the_field).row _ _ (Tallied.the_type).to_one tallied_field_send

team_field_send : IsSend (Team.the_field).row
team_field_send = search sendable depth 30

pub team_send : IsSend Team.the_row
team_send = recorded_send (Team.the_field).row _ _ (Team.the_type).to_one team_field_send

-- what is hunted is shared
pub hunt_field_sync : IsSync (Hunt.the_field).row
hunt_field_sync = search (
  sched.job_sync,
  verdicts.jobs_field_sync,
  verdicts.jobs_sync,
  property.property_sync,
  heap.crosses,
  strategy.the_field_sync,
  sendable,
) depth 30

pub hunt_sync : IsSync Hunt.the_row
hunt_sync = recorded_sync (Hunt.the_field).row _ _ (Hunt.the_type).to_one hunt_field_sync

pub ruleset crosses = (searched_field_send, searched_send, tallied_field_send, tallied_send)

pub ruleset shares = (hunt_field_sync, hunt_sync, team_send)
