use Rattle.std.proofs.Common.{◌≡◌, All, arith, subst, take}
use Rattle.std.proofs.lemmas.List.{take_all}
use Rattle.std.proofs.lemmas.List.Elements.{All-map, All-more}
use Rattle.pf_property.specs.Views.{property_of}
use Rattle.pf_property.specs.declared.property.Property.{Property}
use Rattle.pf_verdicts.specs.Watching.{IsSeen}
use Rattle.pf_verdicts.proofs.watched.are_seen.Goals as goal

pub loop-property-preserved : goal.loop-property-preserved
loop-property-preserved c =
    let x = c.property-item.result in
    All-more (λ (q : Property). IsSeen (property_of c.args.watched.now) (property_of q)) c.args.properties.now
    c.loop-property.property-index x c.loop-property-test.true c.loop-property.invariant
    (subst (λ (q : Property). IsSeen (property_of c.args.watched.now) (property_of q)) c.property-item.is
    (c.is_seen.ensures c.if-not-is_seen.false))

pub returns : goal.returns
returns c all =
    let xs = c.args.properties.now in
    let so = λ (q : Property). IsSeen (property_of c.args.watched.now) (property_of q) in
    let whole : take c.loop-property.property-index xs ≡ xs = take_all c.loop-property.property-index xs
    (omega (arith, c.loop-property-test.false)) in
    All-map (IsSeen (property_of c.args.watched.now)) property_of xs (subst (All so) whole c.loop-property.invariant)
