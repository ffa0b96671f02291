use Rattle.pf_steps.proofs.Orders as proved
use Rattle.pf_steps.proofs.laws.reports_are_of_the_language.Goals as goal

pub returns : goal.returns
returns c = proved.reports_are_of_the_language
