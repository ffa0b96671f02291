use Rattle.std.proofs.Common.{length, subst, arith}
use Rattle.pf_lower.specs.Placed.{HasSlots}
use Rattle.pf_lower.proofs.Slots_of.{past, unbound, after}
use Rattle.pf_lower.proofs.slots.Slots.unbind.Goals as goal

pub index_mut-requires : goal.index_mut-requires
index_mut-requires c =
    let slots = c.self.inside.slots.items in
    let names = c.pop.new.self.items in
    let within = past _ slots (length names) c.in-Some.name
    (subst (λ l. HasSlots l slots) c.in-Some.ensures.items c.self.invariant) (after names c.in-Some.name) in
    omega (arith, within, c.self.inside.slots.ok.0)

pub invariant_of-self : goal.invariant_of-self
invariant_of-self c =
    let slots = c.self.inside.slots.items in
    unbound c.pop.new.self.items slots c.in-Some.name
    (subst (λ l. HasSlots l slots) c.in-Some.ensures.items c.self.invariant)
