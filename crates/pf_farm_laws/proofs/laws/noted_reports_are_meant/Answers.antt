use Rattle.pf_farm_laws.proofs.Meant as proved
use Rattle.pf_farm_laws.proofs.laws.noted_reports_are_meant.Goals as goal

pub returns : goal.returns
returns c = proved.noted_reports_are_meant
