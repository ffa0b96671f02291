use Rattle.std.proofs.Common.{refl}
use Rattle.pf_system.proofs.Acting.{watches_so}
use Rattle.pf_system.proofs.shared.Shared.watch.Goals as goal

pub returns : goal.returns
returns c d e =
    let k = c.in_ok-reference.ensures in
    watches_so c.args.pid c.args.self.now (record { ties = c.monitor.new.self; channels = c.send.new.self }) _ d
    c.args.other c.in_ok-reference.reference e
    k.reference k.monitored c.in_ok-send.ensures.sent refl refl
