use Rattle.std.proofs.Common.{subst, sym}
use Rattle.pf_check.specs.Reading.{IsModuleOf}
use Rattle.pf_cli.specs.Args.{view_of_hunt_args}
use Rattle.pf_command.specs.Hunts.{HuntAsksFor}
use Rattle.pf_command.proofs.Rows.{row_refused}
use Rattle.pf_command.proofs.seek.hunted_of.Goals as goal

pub returns-in_ok-share-in-Ok : goal.returns-in_ok-share-in-Ok
returns-in_ok-share-in-Ok c =
    c.hunted_in.ensures c.args.source.now
    (subst (IsModuleOf c.args.source.now) (sym c.in_ok-share-in-Ok.ensures) c.in-Ok.ensures)

pub returns-in_ok-answer-in-Err : goal.returns-in_ok-answer-in-Err
returns-in_ok-answer-in-Err c =
    let h = view_of_hunt_args c.args.args.now in
    let refusal = c.in-Err.refusal in
    row_refused (HuntAsksFor h h.sought) (λ j t s. ⊥) c.args.source.now c.in_ok-answer-in-Err.answer refusal.code
    refusal.offset c.in-Err.ensures c.in_ok-answer-in-Err.ensures
