use Rattle.std.proofs.lemmas.Result.{on_ok_weaker}
use Rattle.pf_system.proofs.Lasts.{settles_end}
use Rattle.pf_system.proofs.processes.Processes.finish.Goals as goal

pub returns : goal.returns
returns c =
    on_ok_weaker c.end.result (λ h. settles_end c.args.pid c.args.end c.args.self.now c.end.new.self _
    c.in_ok-shown.ensures h) c.end.ensures
