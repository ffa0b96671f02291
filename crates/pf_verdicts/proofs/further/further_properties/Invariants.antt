use Rattle.std.proofs.Common.{take, map}
use Rattle.pf_property.specs.Views.{property_of}
use Rattle.pf_verdicts.specs.Further.{AreProperties}
use Rattle.pf_verdicts.proofs.further.further_properties.Given as goal

-- the texts before are these properties
abbrev pub invariant-loop-text : goal.invariant-loop-text
invariant-loop-text l =
    AreProperties l.module.code.atoms (map (λ s. s.now) (take l.text-index l.texts))
    (map property_of l.properties.items)
