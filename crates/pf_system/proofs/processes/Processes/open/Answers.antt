use Rattle.std.proofs.lemmas.Result.{IfOk-weaker}
use Rattle.pf_ties.specs.Ties.{ties_opened}
use Rattle.pf_system.proofs.Spawning.{opens_tied}
use Rattle.pf_system.proofs.processes.Processes.open.Goals as goal

pub returns : goal.returns
returns c =
    let w = c.args.self.now in
    IfOk-weaker c.enter.result _ _ (λ x h. opens_tied w c.enter.new.self c.args.life
    (ties_opened w.shared.ties c.args.parent) c.open.new.self c.in_ok-pid.ensures.opened h) c.enter.ensures
