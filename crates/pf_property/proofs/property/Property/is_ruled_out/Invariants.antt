use Rattle.std.proofs.Common.{◌≡◌, drop}
use Rattle.pf_property.specs.Views.{property_of}
use Rattle.pf_property.proofs.Shown.{ruled_out}
use Rattle.pf_property.proofs.property.Property.is_ruled_out.Given as goal

-- what is left rules it out where all do
abbrev pub invariant-loop-event : goal.invariant-loop-event
invariant-loop-event l = ruled_out (property_of l.self) (drop l.event-index l.events)
    ≡ ruled_out (property_of l.self) l.events
