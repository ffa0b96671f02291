use Rattle.std.proofs.lemmas.Result.{IfOk-weaker}
use Rattle.pf_sched.proofs.Sliced.{continues_alike}
use Rattle.pf_sched.proofs.execution.Execution.go_on.Goals as goal

pub returns : goal.returns
returns g c =
    IfOk-weaker _ _ _ (λ over. continues_alike g.T.Trace.Reported c.args.limit c.args.turns c.args.self.now
    c.advance-went.new.self c.args.trace.now c.advance-went.new.trace
    c.put_spare.new.self c.take_spare-2.new.self c.put_spare.ensures c.take_spare-2.ensures over)
    c.advance-went.ensures
