use Rattle.std.proofs.Common.{ℕ, List, subst, sym}
use Rattle.std.proofs.lemmas.Result.{IfOk-weaker}
use Rattle.pf_check.specs.Reading.{IsModuleOf}
use Rattle.pf_cli.specs.Args.{view_of_run_args}
use Rattle.pf_command.specs.Printed.{RunEndsAs}
use Rattle.pf_command.proofs.RunEnds.{source_refused_so}
use Rattle.pf_command.proofs.run.answer_of_run.Goals as goal

pub returns-in_ok-share-in-Ok : goal.returns-in_ok-share-in-Ok
returns-in_ok-share-in-Ok c =
    let a = view_of_run_args c.args.args.now in
    let bytes = c.args.source.now in
    IfOk-weaker c.answer_of_module.result
    (λ x. (b : List ℕ) → IsModuleOf b c.in_ok-share-in-Ok.field-0 → RunEndsAs a b x) (RunEndsAs a bytes)
    (λ x ends. ends bytes (subst (IsModuleOf bytes) (sym c.in_ok-share-in-Ok.ensures) c.in-Ok.ensures))
    c.answer_of_module.ensures

pub returns-in_ok-answer-in-Err : goal.returns-in_ok-answer-in-Err
returns-in_ok-answer-in-Err c =
    let refusal = c.in-Err.refusal in
    source_refused_so (view_of_run_args c.args.args.now) c.args.source.now refusal.code refusal.offset
    c.in-Err.ensures c.in_ok-answer-in-Err.answer c.in_ok-answer-in-Err.ensures
