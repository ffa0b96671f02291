use Rattle.std.proofs.Common.{sym, ap, ◌∙◌, subst}
use Rattle.pf_world.specs.World.{World}
use Rattle.pf_pool.specs.Sound.{IsSound}
use Rattle.pf_pool.proofs.Kept.{new_sound}
use Rattle.pf_pool.proofs.world.World.new.Goals as goal

pub invariant_of-result : goal.invariant_of-result
invariant_of-result c =
    let l = c.loop-index in
    subst IsSound (λ i. record {
      desks = sym c.new-2.ensures i;
      hands = sym l.invariant.hands i;
      deques =
          sym l.invariant.deques i;
    }) (new_sound l._index)
