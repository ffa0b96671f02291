use Rattle.pf_model.proofs.Contexts as places
use Rattle.pf_model.proofs.laws.one_context.Goals as goal

pub returns : goal.returns
returns c = places.one_context
