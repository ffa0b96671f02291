use Rattle.std.proofs.Common.{refl}
use Rattle.pf_chart.proofs.Sending.{sends_both, sends_none}
use Rattle.pf_chart.proofs.traffic.Traffic.send_exits.Goals as goal

pub loop-linked-init : goal.loop-linked-init
loop-linked-init c = sends_none _ _ _ _ refl refl

pub loop-linked-preserved : goal.loop-linked-preserved
loop-linked-preserved c = sends_both _ _ _ _ _ c.loop-linked.invariant c.in_ok-send.ensures.sends
