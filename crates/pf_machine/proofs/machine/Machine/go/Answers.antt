use Rattle.std.proofs.Common.{◌-◌, subst}
use Rattle.pf_model.specs.Context.{goes_on}
use Rattle.pf_loop.proofs.Followed.{code_keeps}
use Rattle.pf_loop.proofs.Words.{words_keep}
use Rattle.pf_turns.specs.Turns.{Stopped}
use Rattle.pf_inbox.specs.Received.{IsReceiving}
use Rattle.pf_machine.proofs.Inboxes.{goes_without, looks_from, none_before}
use Rattle.pf_machine.proofs.Turned.{moved, received}
use Rattle.pf_machine.proofs.machine.Machine.go.Goals as goal

pub receive-requires-clause-over : goal.receive-requires-clause-over
receive-requires-clause-over c = (c.run.ensures.words, c.run.ensures.status)

pub receive-requires-clause-constants : goal.receive-requires-clause-constants
receive-requires-clause-constants c =
    words_keep c.args.heap.now c.run.new.heap c.args.setting.now.constants.now c.run.ensures.keeps c.requires.constants

pub returns-in_err-ran-clause-over : goal.returns-in_err-ran-clause-over
returns-in_err-ran-clause-over c = (c.run.ensures.words, c.run.ensures.status)

pub returns-in-Receives-clause-ran : goal.returns-in-Receives-clause-ran
returns-in-Receives-clause-ran c = λ m code entries u run every a.
    let own = c.args.setting.now.own in
    let h = c.args.heap.now in
    let g = c.run.new.heap in
    let old = c.args.self.now.process in
    let k = c.run.new.self in
    let b = c.args.inbox.now in
    let n = c.in_ok-ran.ran.0 in
    let left = c.args.left in
    let d = c.in-Receives.field-0 in
    let here = goes_without m own code h old.machine b u old.status c.requires.elsewhere a in
    let stopped = c.in_ok-ran.ensures.ran m code entries (goes_on u) run every here.0 in
    let w = subst (Stopped m own code (goes_on u) n (left - n) g k.machine k.status) c.in-Receives.is stopped in
    let receiving : IsReceiving g c.args.setting.now k m code entries d w.1 w.2 w.3 = record {
      runs = code_keeps h g c.args.setting.now m code entries c.run.ensures.keeps c.requires.constants run;
      sound = every;
      waits = w.0;
      is_in = w.6;
      at = w.7;
    } in
    let t = c.in_ok-did.ensures.received m code entries d w.1 w.2 w.3 receiving (none_before m own w.3 b here.1) in
    received m own code left n w.4 u d w.2 w.3 b c.receive.new.inbox c.receive.new.heap c.receive.new.self.process
    c.in_ok-did.did w.5 c.in_ok-ran.ensures.within w.8 t

pub returns-clause-over : goal.returns-clause-over
returns-clause-over c = (c.run.ensures.words, c.run.ensures.status)

pub returns-clause-ran : goal.returns-clause-ran
returns-clause-ran c = λ m code entries u run every a.
    let own = c.args.setting.now.own in
    let h = c.args.heap.now in
    let old = c.args.self.now.process in
    let b = c.args.inbox.now in
    let n = c.in_ok-ran.ran.0 in
    let here = goes_without m own code h old.machine b u old.status c.requires.elsewhere a in
    let stopped = c.in_ok-ran.ensures.ran m code entries (goes_on u) run every here.0 in
    moved m own code c.args.left n u b c.run.new.heap c.run.new.self c.in_ok-ran.ran.1 c.in_ok-ending.ending
    (looks_from c.in_ok-ran.ran.1 c.in_default.not-Receives) c.in_ok-ran.ensures.within here.1 stopped
    c.in_ok-ending.ensures
