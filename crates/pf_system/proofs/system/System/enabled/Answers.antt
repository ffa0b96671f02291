use Rattle.std.proofs.Common.{ap}
use Rattle.pf_model.specs.Channels.{heads}
use Rattle.pf_system.proofs.Passing.{actors_are, inside, ready_few}
use Rattle.pf_system.proofs.system.System.enabled.Goals as goal

pub returns-clause-actors : goal.returns-clause-actors
returns-clause-actors c d r = actors_are c.self.inside c.args.self.now d c.self.view_is r

pub returns-clause-both : goal.returns-clause-both
returns-clause-both c d r =
    let i = inside c.self.inside c.args.self.now d c.self.view_is r in
    record { processes = i.core.ready; channels = ap heads i.channels }

pub returns-clause-few : goal.returns-clause-few
returns-clause-few c d r = ready_few c.self.inside c.args.self.now d c.self.view_is r
