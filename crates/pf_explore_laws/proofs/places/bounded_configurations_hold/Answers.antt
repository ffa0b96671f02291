use Rattle.pf_explore_laws.proofs.Closed as places
use Rattle.pf_explore_laws.proofs.places.bounded_configurations_hold.Goals as goal

pub returns : goal.returns
returns g c = places.bounded_configurations_hold _
