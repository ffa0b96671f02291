use Rattle.pf_explore_laws.proofs.Within as within
use Rattle.pf_explore_laws.proofs.places.closed_places_hold_within.Goals as goal

pub returns : goal.returns
returns g c = within.closed_places_hold_within _
