use Rattle.std.proofs.Common.{refl, sym, ap, ◌∙◌, subst, IfOk}
use Rattle.pf_sorted.specs.Maps.{put, without, with_number, without_number}
use Rattle.pf_model.specs.Configuration.{of}
use Rattle.pf_model.specs.Signals.{signal_of}
use Rattle.pf_model.specs.declared.signal.Signal.TheVariants as code
use Rattle.pf_ties.specs.Ties as ties
use Rattle.pf_ties.proofs.Followed.{follow_deliveries}
use Rattle.pf_system.specs.Placed.{ShowsSuffix}
use Rattle.pf_system.specs.declared.processes.Processes.{Processes}
use Rattle.pf_system.proofs.Receiving.{ties_changed}
use Rattle.pf_system.proofs.processes.Processes.take.Goals.{in-Link+in_ok-on_link-in-Link, in-Unlink}
use Rattle.pf_system.proofs.processes.Processes.take.Goals.{in-Monitor+in_ok-on_monitor-in-Monitor, in-Demonitor}
use Rattle.pf_system.proofs.processes.Processes.take.Goals as goal

pub returns-in-Down : goal.returns-in-Down
returns-in-Down c =
    subst (λ s. IfOk c.down.result (λ x. ShowsSuffix c.args.from c.args.to (signal_of s) c.args.self.now x
    c.down.new.self)) (sym c.in-Down.is) c.down.ensures

pub returns-in-Exit : goal.returns-in-Exit
returns-in-Exit c =
    subst (λ s. IfOk c.exit.result (λ x. ShowsSuffix c.args.from c.args.to (signal_of s) c.args.self.now x
    c.exit.new.self)) (sym c.in-Exit.is) c.exit.ensures

pub returns : goal.returns
returns c k h alive =
    let w : Processes = c.args.self.now in
    let w' : Processes = c.match-signal.self in
    let a = c.args.from in
    let b = c.args.to in
    let s = c.args.signal.now in
    elim c.match-signal.branch [
      | in-Link+in_ok-on_link-in-Link e ↦
          ties_changed w k a b s h code.Link (record (of k b) { links = with_number a (of k b).links }) w'
          e.on_link.new.self e.in-Link.is e.self-is refl refl
          (follow_deliveries.link k a b ∙ ap (λ z. ties.link_placed z a b) h.ties
          ∙ sym e.in_ok-on_link-in-Link.ensures.placed)
      | in-Unlink e ↦
          ties_changed w k a b s h code.Unlink (record (of k b) { links = without_number a (of k b).links }) w'
          e.on_unlink.new.self e.in-Unlink.is e.self-is refl refl
          (follow_deliveries.unlink k a b ∙ ap (λ z. ties.unlink_placed z a b) h.ties ∙ sym e.on_unlink.ensures)
      | in-Monitor+in_ok-on_monitor-in-Monitor e ↦
          let r = e.in-Monitor.reference in
          ties_changed w k a b s h (code.Monitor r) (record (of k b) { watchers = put r a (of k b).watchers }) w'
          e.on_monitor.new.self e.in-Monitor.is e.self-is refl refl
          (follow_deliveries.monitor k a b r ∙ ap (λ z. ties.monitor_placed z a b r) h.ties
          ∙ sym e.in_ok-on_monitor-in-Monitor.ensures.placed)
      | in-Demonitor e ↦
          let r = e.in-Demonitor.reference in
          ties_changed w k a b s h (code.Demonitor r) (record (of k b) { watchers = without r (of k b).watchers }) w'
          e.on_demonitor.new.self e.in-Demonitor.is e.self-is refl refl
          (follow_deliveries.demonitor k a b r ∙ ap (λ z. ties.demonitor_placed z b r) h.ties
          ∙ sym e.on_demonitor.ensures)
    ]
