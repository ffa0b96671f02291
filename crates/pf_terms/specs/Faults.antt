-- The fault of building.
use Rattle.pf_errors.specs.declared.fault.OrNoMemory.{OrNoMemory}
use Rattle.pf_errors.specs.declared.fault.OrNoMemory.TheVariants.{Fault}
use Rattle.pf_terms.specs.declared.build.TooLarge.{TooLarge}

-- the value would be past its limits
abbrev pub past_limits : OrNoMemory TooLarge
past_limits = Fault (record {})
