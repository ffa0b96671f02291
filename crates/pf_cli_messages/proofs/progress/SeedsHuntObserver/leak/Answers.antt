use Rattle.pf_cli_messages.proofs.Notices.{heard_leak}
use Rattle.pf_cli_messages.proofs.progress.SeedsHuntObserver.leak.Goals as goal

pub returns : goal.returns
returns g c before heard = heard_leak c.args.self.now.leak before heard c.args.leak
