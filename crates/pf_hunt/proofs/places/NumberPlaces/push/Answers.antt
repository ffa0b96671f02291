use Rattle.std.proofs.Common.{◌≡◌, ◌∷◌, ◌++◌, [], rules, length, subst, sym}
use Rattle.pf_hunt.specs.Places.{ArePlaced}
use Rattle.pf_hunt.specs.declared.places.NumberPlace.{NumberPlace}
use Rattle.pf_hunt.proofs.Placing.{placed_more}
use Rattle.pf_hunt.proofs.places.NumberPlaces.push.Goals as goal

pub invariant_of-self-2 : goal.invariant_of-self-2
invariant_of-self-2 c =
    let ps = c.self.inside.places.items in
    let place : NumberPlace = record { number = c.args.number; before = c.in_ok-before.before } in
    let items : c.push.new.self.items ≡ ps ++ place ∷ [] = search rules in
    let after : c.len.result ≡ length ps = search rules in
    subst (λ all. ArePlaced all c.insert.new.self) (sym items)
    (placed_more ps c.self.inside.lasts c.insert.new.self c.args.number c.len.result c.in_ok-before.before
    c.self.invariant after
    c.in_ok-before.ensures.old c.in_ok-before.ensures.updates.0)
