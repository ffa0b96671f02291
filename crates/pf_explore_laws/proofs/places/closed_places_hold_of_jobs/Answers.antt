use Rattle.pf_explore_laws.proofs.Closed as places
use Rattle.pf_explore_laws.proofs.places.closed_places_hold_of_jobs.Goals as goal

pub returns : goal.returns
returns c = places.closed_places_hold_of_jobs
