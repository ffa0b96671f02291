use Rattle.std.proofs.Common.{rules, ◌≡◌, arith}
use Rattle.pf_farm_accounts.specs.Places.{standing_at}
use Rattle.pf_farm_accounts.specs.Receipts.{EachOnce}
use Rattle.pf_farm_accounts.proofs.Standing.{each_once}
use Rattle.pf_farm_accounts.proofs.gathering.Gathering.settle.Goals as goal

pub returns-clause-once : goal.returns-clause-once
returns-clause-once g c =
    let k = c.self.inside.register in
    let whole : c.self.inside.all.parts ≡ g.N.FarmNames.seats = search rules in
    let once : EachOnce (standing_at k.1 k.0) k.0 =
    each_once k.1 k.0 c.self.invariant.2 (omega (
      arith,
      c.audit.ensures.whole whole,
      c.self.invariant.0,
      c.self.invariant.1,
    )) in
    rw (← c.self.view_is) once
