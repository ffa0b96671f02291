use Rattle.std.proofs.Common.{refl}
use Rattle.std.proofs.lemmas.Result.{IfOk-weaker}
use Rattle.pf_terms.specs.Term.{value_of}
use Rattle.pf_system.specs.Acts.{answer}
use Rattle.pf_system.proofs.Settling.{sends_in}
use Rattle.pf_system.proofs.processes.Processes.send.Goals as goal

pub returns-clause-acts : goal.returns-clause-acts
returns-clause-acts c =
    IfOk-weaker c.send.result _ _
    (λ v h. sends_in c.args.pid (value_of c.args.to) (value_of c.args.message) c.args.self.now _
    (answer v c.send.new.shown) h refl refl refl) c.send.ensures
