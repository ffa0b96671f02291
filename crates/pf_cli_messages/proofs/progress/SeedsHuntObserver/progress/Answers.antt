use Rattle.std.proofs.Common.{◌∙◌}
use Rattle.pf_cli_messages.proofs.Notices.{heard_run}
use Rattle.pf_cli_messages.proofs.progress.SeedsHuntObserver.progress.Goals as goal

pub returns : goal.returns
returns g c before heard =
    heard_run c.args.self.now.leak before heard c.pace.new.self.leak c.args.done c.args.failures c.pace.result
    (c.pace.ensures ∙ c.notify.ensures)
