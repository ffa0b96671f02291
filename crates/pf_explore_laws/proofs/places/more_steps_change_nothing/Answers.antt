use Rattle.pf_explore_laws.proofs.Room as room
use Rattle.pf_explore_laws.proofs.places.more_steps_change_nothing.Goals as goal

pub returns : goal.returns
returns c = room.more_steps_change_nothing
