use Rattle.std.proofs.Common.{subst}
use Rattle.std.specs.Prelude.{option_map}
use Rattle.pf_hunt.specs.Hunts.{FirstLeaking}
use Rattle.pf_hunt.specs.Views.{leak_of}
use Rattle.pf_hunt.proofs.Leaking.{leaks_in_first, leaks_in_second}
use Rattle.pf_hunt.proofs.leak.earlier.Goals as goal

pub returns-in-Some : goal.returns-in-Some
returns-in-Some c w j a m b le le' front back =
    leaks_in_first w j a m b (leak_of c.in-Some.leak) le'
    (subst (λ o. FirstLeaking w j a m (option_map leak_of o)) c.in-Some.is front)

pub returns-in-None : goal.returns-in-None
returns-in-None c w j a m b le le' front back =
    leaks_in_second w j a m b (option_map leak_of c.args.second) le
    (subst (λ o. FirstLeaking w j a m (option_map leak_of o)) c.in-None.is front) back
