use Rattle.std.proofs.Common.{◌-◌, arith}
use Rattle.pf_system.proofs.WhoMayGo.{delivers_within}
use Rattle.pf_system.proofs.system.System.pass.Goals as goal

pub returns-in_ok-deliver-in-Channel : goal.returns-in_ok-deliver-in-Channel
returns-in_ok-deliver-in-Channel c =
    rw c.in-Channel.is (delivers_within (c.args.limit - c.args.self.now.steps) _ _ c.args.self.now c.deliver.new.self _
    (omega (arith, c.requires.left)) c.in_ok-deliver-in-Channel.ensures.passed)
