use Rattle.std.proofs.Common.{All, take}
use Rattle.pf_property.specs.Views.{property_of}
use Rattle.pf_property.specs.declared.property.Property.{Property}
use Rattle.pf_verdicts.specs.Watching.{IsSeen}
use Rattle.pf_verdicts.proofs.watched.are_seen.Given as goal

-- all so far are
abbrev pub invariant-loop-property : goal.invariant-loop-property
invariant-loop-property l =
    All (λ (q : Property). IsSeen (property_of l.watched) (property_of q)) (take l.property-index l.properties)
