use Rattle.pf_explore_laws.proofs.Closed as places
use Rattle.pf_explore_laws.proofs.places.closed_places_hold.Goals as goal

pub returns : goal.returns
returns g c = places.closed_places_hold _
