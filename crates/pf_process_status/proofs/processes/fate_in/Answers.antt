use Rattle.std.proofs.Common.{sym, ap, ◌∙◌, subst}
use Rattle.pf_model.specs.Configuration.{of}
use Rattle.pf_process_status.specs.Fates.{IsAtPoint}
use Rattle.pf_process_status.proofs.Ready.{is_in, is_in_ready, or_waits, is_there_still}
use Rattle.pf_process_status.proofs.processes.fate_in.Goals as goal

pub returns-then-contains : goal.returns-then-contains
returns-then-contains c d is_there alive =
    let q = c.args.pid in
    let s = (of d.core q).state in
    let asks = c.contains.ensures.value ∙ ap (is_in q)
    (c.pids.ensures ∙ (c.enabled-enabled.ensures.both d is_there).processes) ∙ is_in_ready q d.core.processes in (
      sym asks ∙ c.if-contains.true,
      subst (IsAtPoint c.args.system.now.checked s) (sym c.unwrap_or-point.ensures)
          (is_there_still (IsAtPoint c.args.system.now.checked s) s c.point_of.result alive
          (c.point_of.ensures d is_there)),
    )

pub returns-else-contains : goal.returns-else-contains
returns-else-contains c d is_there alive =
    let q = c.args.pid in
    let s = (of d.core q).state in
    let asks = c.contains.ensures.value ∙ ap (is_in q)
    (c.pids.ensures ∙ (c.enabled-enabled.ensures.both d is_there).processes) ∙ is_in_ready q d.core.processes in (
      or_waits s alive (sym asks ∙ c.if-contains.false),
      subst (IsAtPoint c.args.system.now.checked s) (sym c.unwrap_or-point.ensures)
          (is_there_still (IsAtPoint c.args.system.now.checked s) s c.point_of.result alive
          (c.point_of.ensures d is_there)),
    )
