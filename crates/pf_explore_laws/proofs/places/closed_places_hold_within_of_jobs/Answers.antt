use Rattle.pf_explore_laws.proofs.Within as within
use Rattle.pf_explore_laws.proofs.places.closed_places_hold_within_of_jobs.Goals as goal

pub returns : goal.returns
returns c = within.closed_places_hold_within_of_jobs
