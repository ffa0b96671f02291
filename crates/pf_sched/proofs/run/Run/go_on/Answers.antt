use Rattle.std.proofs.Common.{◌≡◌, refl, ◌∙◌}
use Rattle.std.proofs.lemmas.Result.{IfOk-weaker}
use Rattle.pf_sched.specs.declared.run.Run.{Run}
use Rattle.pf_sched.proofs.Sliced.{advances_written}
use Rattle.pf_sched.proofs.run.Run.go_on.Goals as goal

pub returns-clause-run : goal.returns-clause-run
returns-clause-run c =
    let t = c.new-writer.result in
    let u = c.go_on-went.new.trace in
    let new : Run = record { execution = c.go_on-went.new.self; written = u.written } in
    let before : t.written ≡ c.args.self.now.written = c.new-writer.ensures.written ∙ c.replace-written.ensures.value in
    IfOk-weaker _ _ _ (advances_written c.args.job.now c.args.turns c.limit.result c.limit.ensures.limit
    c.args.self.now new t u
    c.new-writer.ensures.property c.new-writer.ensures.atoms before refl) c.go_on-went.ensures
