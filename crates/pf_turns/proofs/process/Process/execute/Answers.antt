use Rattle.std.proofs.Common.{◌≡◌, ◌+◌, ◌-◌, sym, subst, arith}
use Rattle.std.proofs.lemmas.Result.{IfOk-weaker}
use Rattle.pf_code.specs.Points.{inside, Steps}
use Rattle.pf_loop.specs.Reached.{Does}
use Rattle.pf_loop.proofs.Words.{keep_then, words_keep}
use Rattle.pf_loop.proofs.Reached.{all_reach}
use Rattle.pf_turns.specs.Turns.{Goes}
use Rattle.pf_turns.proofs.Going.{did}
use Rattle.pf_turns.proofs.Halted.{asking, raises}
use Rattle.pf_turns.proofs.process.Process.execute.Goals as goal

pub returns-clause-executed : goal.returns-clause-executed
returns-clause-executed c =
    let own = c.args.setting.now.own in
    let g = c.go.new.heap in
    let k = c.go.new.self in
    let n = c.args.rest.now - c.go.new.left in
    IfOk-weaker c.halted.result _ _ (λ (o : _) s m code entries p run every at.
    let ran = c.in_ok-halt.ensures.ran m code entries at.0 run at.1 in
    let does = did m own code entries at.0 p n g k c.go.new.left c.in_ok-halt.halt every at.2 ran in
    let e : n + (c.go.new.left - c.halted.new.rest) ≡ c.args.rest.now - c.halted.new.rest =
    omega (arith, c.in_ok-halt.ensures.no_more, c.halted.ensures.no_more) in
    subst (λ j. Goes m own code p j c.halted.new.rest g c.halted.new.self.machine c.halted.new.self.status o) e
    (s m own code entries p n g does)) c.halted.ensures.halted

pub returns-clause-status : goal.returns-clause-status
returns-clause-status c = c.halted.ensures.status c.go.new.heap c.in_ok-halt.ensures.halt

pub returns-clause-stop : goal.returns-clause-stop
returns-clause-stop c =
    IfOk-weaker c.halted.result _ _ (λ (o : _) s. s c.go.new.heap c.in_ok-halt.ensures.halt) c.halted.ensures.stop

pub returns-in-Asks-clause-executed : goal.returns-in-Asks-clause-executed
returns-in-Asks-clause-executed c =
    let own = c.args.setting.now.own in
    let g = c.go.new.heap in
    let k = c.go.new.self in
    let n = c.args.rest.now - c.go.new.left in
    let f = c.in-Asks.builtin in
    let d = c.in-Asks.register in
    IfOk-weaker c.settle.result _ _ (λ (o : _) s m code entries p run every at.
    let ran = c.in_ok-halt.ensures.ran m code entries at.0 run at.1 in
    let does = all_reach m own code entries at.0 p n g k c.go.new.left c.in_ok-halt.halt every at.2 ran in
    let a = asking m own code entries p n g k c.go.new.left f d c.in-Asks.from c.in-Asks.count
    (subst (Does m own code entries p n g k c.go.new.left) c.in-Asks.is does) in
    let made = c.in_ok-asked.ensures.made a.0 a.2 in
    let here = c.asked_of.ensures.stays a.0 a.2 in
    s m own code a.0 a.1 p n c.go.new.left here a.3
    (subst (λ x. Steps m own n p (inside a.1 x)) (sym made) a.4)) c.settle.ensures.settled

pub returns-in-Raises : goal.returns-in-Raises
returns-in-Raises c =
    let own = c.args.setting.now.own in
    let g = c.go.new.heap in
    let f = c.ending_reason.new.heap in
    let k = c.go.new.self in
    let n = c.args.rest.now - c.go.new.left in
    record {
      words = words_keep g f k.stack.words.items c.ending_reason.ensures.keeps c.in_ok-halt.ensures.words;
      keeps = keep_then c.args.heap.now g f c.in_ok-halt.ensures.keeps c.ending_reason.ensures.keeps;
      no_more = c.in_ok-halt.ensures.no_more;
      status = c.in_ok-ending_reason.ensures.word;
      stop = tt;
      executed = λ m code entries p run every at.
          let ran = c.in_ok-halt.ensures.ran m code entries at.0 run at.1 in
          let does = all_reach m own code entries at.0 p n g k c.go.new.left c.in_ok-halt.halt every at.2 ran in
          raises m own code entries p n g k c.go.new.left c.in-Raises.word c.in_ok-ending_reason.field-0 f
          c.in_ok-ending_reason.ensures.made
          (subst (Does m own code entries p n g k c.go.new.left) c.in-Raises.is does);
    }
