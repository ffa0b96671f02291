use Rattle.pf_property.proofs.AnyProperty.{any_property}
use Rattle.pf_property.proofs.laws.some_property.Goals as goal

pub returns : goal.returns
returns c = λ names bytes. any_property names bytes
