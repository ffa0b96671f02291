use Rattle.std.proofs.Common.{◌≡◌, [], None, replicate}
use Rattle.pf_pool.proofs.world.World.new.Given as goal

-- as many hands are free, and as many deques empty, as were made
abbrev pub invariant-loop-index : goal.invariant-loop-index
invariant-loop-index l = record {
  hands : l.hands.items ≡ replicate l._index None;
  deques : l.deques.items ≡ replicate l._index [];
}
