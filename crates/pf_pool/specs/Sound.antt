-- What the fields of a world stand for, and what is true of them.
use Rattle.std.specs.Prelude.{◌≡◌, length}
use Rattle.pf_world.specs.World.{World}
use Rattle.pf_world.specs.Jobs.{RunsAreOfTrials}
use Rattle.pf_pool.specs.declared.world.World.TheInside as world

abbrev pub world_in : world.Inside → World
world_in s = record { desks = s.book; hands = s.hands.items; deques = s.deques.items }

-- each worker has a hand and a deque, and each run is of the job of its trial
pub record IsSound (s : World) : Type 0 where
  pub workers : length s.hands ≡ length s.deques
  pub jobs : RunsAreOfTrials s
