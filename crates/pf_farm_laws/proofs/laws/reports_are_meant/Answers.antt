use Rattle.pf_farm_laws.proofs.Meant as proved
use Rattle.pf_farm_laws.proofs.laws.reports_are_meant.Goals as goal

pub returns : goal.returns
returns c = proved.reports_are_meant
