use Rattle.std.proofs.Common.{refl, ap}
use Rattle.pf_model.specs.Signals.{signal_of}
use Rattle.pf_system.specs.declared.processes.Processes.{Processes}
use Rattle.pf_system.proofs.Receiving.{drops_there, link_answered, monitor_answered}
use Rattle.pf_system.proofs.processes.Processes.at_ended.Goals.{in-Link, in-Monitor}
use Rattle.pf_system.proofs.processes.Processes.at_ended.Goals as goal

pub returns-in_default : goal.returns-in_default
returns-in_default c k h =
    drops_there c.args.self.now k c.args.from c.args.to c.args.signal c.in_default.not-Link c.in_default.not-Monitor h

pub returns : goal.returns
returns c k h =
    let w : Processes = c.args.self.now in
    let w1 : Processes = record w { shared = c.reply.new.self } in
    elim c.match-signal.branch [
      | in-Link e ↦ link_answered w w1 k c.args.from c.args.to c.args.signal c.match-signal.reply h refl refl refl
          c.reply.ensures.ties c.in_ok-reply.ensures.sent e.in-Link.is (ap signal_of e.reply-is)
      | in-Monitor e ↦ monitor_answered w w1 k c.args.from c.args.to c.args.signal c.match-signal.reply h refl refl refl
          c.reply.ensures.ties c.in_ok-reply.ensures.sent e.in-Monitor.reference e.in-Monitor.is
          (ap signal_of e.reply-is)
    ]
