use Rattle.std.proofs.Common.{Ok, Err, subst, sym, arith}
use Rattle.pf_check.specs.Reading.{IsModuleOf}
use Rattle.pf_cli.specs.Args.{view_of_run_args}
use Rattle.pf_sched.specs.Asked.{Asks, IsRefusal}
use Rattle.pf_sched.specs.Views.{code_of}
use Rattle.pf_cli_messages.specs.Explained.{job_refused, shrinks, source_refused}
use Rattle.pf_cli_messages.proofs.explained.job_of.Goals as goal

pub returns-in-Err : goal.returns-in-Err
returns-in-Err c = let r = c.in-Err._refusal in source_refused r.code r.offset c.in-Err.ensures

pub returns-in-Err-Fault : goal.returns-in-Err-Fault
returns-in-Err-Fault c =
    let a = view_of_run_args c.args.args.now in
    let m = c.in_ok-share.field-0 in
    let code = code_of c.in-Err-Fault._refusal in
    job_refused m code (subst (IsModuleOf c.args.source.now) (sym c.in_ok-share.ensures) c.in-Ok.ensures)
    (subst (λ e. Asks m e a.request (Err code)) c.number.ensures.number
    (subst (IsRefusal (Asks m c.number.result a.request)) c.in-Err-Fault.field-0-is c.in-Err-Fault.ensures))

pub returns-then-runs-gt0 : goal.returns-then-runs-gt0
returns-then-runs-gt0 c =
    let a = view_of_run_args c.args.args.now in
    let m = c.in_ok-share.field-0 in
    let j = c.in-Ok-new.job in
    shrinks m j (subst (IsModuleOf c.args.source.now) (sym c.in_ok-share.ensures) c.in-Ok.ensures)
    (subst (λ e. Asks m e a.request (Ok j)) c.number.ensures.number c.in-Ok-new.ensures)
    (λ none. let some = c.if-runs-gt0.true in let same = c.runs.ensures in absurd (omega (arith, some, same, none)))
