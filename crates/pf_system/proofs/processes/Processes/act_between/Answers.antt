use Rattle.std.proofs.Common.{refl}
use Rattle.std.proofs.lemmas.Result.{IfOk-weaker}
use Rattle.pf_system.specs.Acts.{answer}
use Rattle.pf_system.proofs.Settling.{acts_between}
use Rattle.pf_system.proofs.processes.Processes.act_between.Goals as goal

pub returns-clause-acts : goal.returns-clause-acts
returns-clause-acts c =
    IfOk-weaker c.act.result _ _ (λ v h. acts_between c.args.pid c.args.act c.args.self.now _ (answer v c.act.new.shown)
    c.requires.between h refl refl refl) c.act.ensures
