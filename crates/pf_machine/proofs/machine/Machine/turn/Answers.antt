use Rattle.std.proofs.Common.{◌≡◌, suc, subst, arith}
use Rattle.pf_model.specs.Contraction.{Becomes}
use Rattle.pf_model.specs.Context.{goes_on}
use Rattle.pf_syntax.specs.Tree.{receive}
use Rattle.pf_code.specs.Points.{inside, Steps, no_step}
use Rattle.pf_inbox.specs.Received.{IsReceiving}
use Rattle.pf_machine.specs.Statuses.{GoesOnWith}
use Rattle.pf_machine.proofs.Inboxes.{elsewhere_from}
use Rattle.pf_machine.proofs.Turned.{received}
use Rattle.pf_machine.proofs.machine.Machine.turn.Goals as goal

pub go-requires-clause-elsewhere : goal.go-requires-clause-elsewhere
go-requires-clause-elsewhere c = elsewhere_from c.args.self.now.process.status c.in_default.not-Receives

pub returns-in-Receives-clause-ran : goal.returns-in-Receives-clause-ran
returns-in-Receives-clause-ran c = λ m code entries u run every a.
    let own = c.args.setting.now.own in
    let h = c.args.heap.now in
    let k = c.args.self.now.process in
    let b = c.args.inbox.now in
    let d = c.in-Receives.field-0 in
    let w = subst (λ x. GoesOnWith m own code h k.machine x b u) c.in-Receives.is a in
    let receiving : IsReceiving h c.args.setting.now k m code entries d w.0 w.1 w.2 = record {
      runs = run;
      sound = every;
      waits = c.in-Receives.is;
      is_in = w.3;
      at = w.4;
    } in
    let t = c.in_ok-did.ensures.received m code entries d w.0 w.1 w.2 receiving w.6 in
    let one : 1 ≡ suc 0 = omega arith in
    let steps : Steps m own 0 (goes_on u) (inside w.1 (Becomes (receive w.2))) =
    subst (Steps m own 0 (goes_on u)) w.5 (no_step (goes_on u)) in
    received m own code c.args.left 1 0 u d w.1 w.2 b c.receive.new.inbox c.receive.new.heap c.receive.new.self.process
    c.in_ok-did.did one (omega (arith, c.requires.left)) steps t
