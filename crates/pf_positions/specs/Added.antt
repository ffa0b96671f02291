-- Spots as the code has them, with the numbers of nodes.
use Rattle.std.specs.Prelude.{◌≡◌, ℕ, List, [], ◌++◌, Option, Some, None, map, option_map}
use Rattle.std.specs.Global.{Vec}
use Rattle.pf_syntax.specs.Tree.{Tree, cons, bind}
use Rattle.pf_syntax.specs.Module.{Tables, tree_at}
use Rattle.pf_positions.specs.Spots.{Spot, tree_spots}
use Rattle.pf_positions.specs.declared.spot.Spot.{Spot as NumberedSpot}

-- what a spot stands for, over the tables of its module
abbrev pub spot_seen : Tables → NumberedSpot → Spot
spot_seen t s = record { sign = s.sign; function = s.function.0; tree = option_map (λ n. tree_at t n.0) s.node }

-- these spots were added after the others
abbrev pub AreAdded : Tables → (before after : Vec NumberedSpot) → List Spot → Type 0
AreAdded t before after more = map (spot_seen t) after.items ≡ map (spot_seen t) before.items ++ more

-- the part that is last in a long chain: the tail of a list, and the rest of a body
abbrev pub last_part : Tree → Option Tree
last_part (cons a b) = Some b
last_part (bind ps a r) = Some r
last_part t = None

abbrev pub spots_of_part : ℕ → Option Tree → List Spot
spots_of_part f None = []
spots_of_part f (Some t) = tree_spots f t

-- the spots of a tree were added, but for those of its last part
abbrev pub AreAddedBut : Tables → ℕ → (before after : Vec NumberedSpot) → Tree → Type 0
AreAddedBut t f before after u =
    map (spot_seen t) after.items ++ spots_of_part f (last_part u) ≡ map (spot_seen t) before.items ++ tree_spots f u
