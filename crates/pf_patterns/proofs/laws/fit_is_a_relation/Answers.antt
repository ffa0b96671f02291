use Rattle.pf_patterns.proofs.FitLaws.{fits_from_fit, fit_from_fits}
use Rattle.pf_patterns.proofs.laws.fit_is_a_relation.Goals as goal

pub returns : goal.returns
returns c = λ p v before after. (fits_from_fit p v before after, fit_from_fits p v before after)
