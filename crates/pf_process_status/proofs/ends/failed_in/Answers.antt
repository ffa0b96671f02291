use Rattle.std.proofs.Common.{sym, ap, ◌∙◌, subst}
use Rattle.std.specs.Prelude.{IfSome, option_map}
use Rattle.pf_model.specs.Reports.{view_of_event}
use Rattle.pf_process_status.specs.Fates.{EndsSo}
use Rattle.pf_process_status.specs.declared.ends.EndedProcess.{EndedProcess}
use Rattle.pf_process_status.proofs.Noting.{none_failed}
use Rattle.pf_process_status.proofs.ends.failed_in.Goals as goal

pub returns-in-None : goal.returns-in-None
returns-in-None c =
    none_failed (view_of_event c.args.event.now)
    (sym c.ended_in.ensures.who ∙ ap (option_map (λ (x : EndedProcess). x.pid)) c.in-None.is)

pub returns-in-Some : goal.returns-in-Some
returns-in-Some c =
    let e = view_of_event c.args.event.now in
    c.failed.ensures e (subst (λ o. IfSome o (λ y. EndsSo y.pid y.end e)) c.in-Some.is c.ended_in.ensures.how)
    (sym c.ended_in.ensures.who ∙ ap (option_map (λ (x : EndedProcess). x.pid)) c.in-Some.is)
