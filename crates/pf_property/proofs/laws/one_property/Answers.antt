use Rattle.pf_property.proofs.One.{at_most_one}
use Rattle.pf_property.proofs.laws.one_property.Goals as goal

pub returns : goal.returns
returns c = λ names bytes p q a b. at_most_one names bytes p q a b
