use Rattle.std.proofs.Common.{refl}
use Rattle.pf_chart.proofs.Sending.{sends_both, sends_none}
use Rattle.pf_chart.proofs.traffic.Traffic.end.Goals as goal

pub loop-watcher-init : goal.loop-watcher-init
loop-watcher-init c = sends_both _ _ _ _ _ (sends_none _ _ c.args.self.now _ refl refl) c.in_ok-send_exits.ensures

pub loop-watcher-preserved : goal.loop-watcher-preserved
loop-watcher-preserved c = sends_both _ _ _ _ _ c.loop-watcher.invariant c.in_ok-send.ensures.sends
