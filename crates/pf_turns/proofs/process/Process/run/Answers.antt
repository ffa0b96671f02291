use Rattle.std.proofs.Common.{◌≡◌, ◌+◌, ◌-◌, subst, arith}
use Rattle.pf_code.specs.Points.{Steps, no_step}
use Rattle.pf_loop.proofs.Words.{keep_none, keep_then}
use Rattle.pf_loop.proofs.Followed.{code_keeps}
use Rattle.pf_turns.specs.Turns.{Goes, Stopped}
use Rattle.pf_turns.proofs.Halted.{stopped_then, went_then}
use Rattle.pf_turns.proofs.process.Process.run.Goals as goal

pub steps-init : goal.steps-init
steps-init c = record {
  words = c.requires.words;
  keeps = keep_none c.args.heap.now;
  few = omega arith;
  status = c.requires.status;
  went = λ m code entries p run every a.
      let z : 0 ≡ c.args.left - c.args.left = omega arith in
      (p, subst (λ n. Steps m c.args.setting.now.own n p p) z (no_step p), a);
}

pub returns-in-Some-clause-ran : goal.returns-in-Some-clause-ran
returns-in-Some-clause-ran c = λ m code entries p run every a.
    let l = c.steps in
    let own = c.args.setting.now.own in
    let g = c.step.new.heap in
    let k = c.step.new.self.machine in
    let x = c.step.new.self.status in
    let rest = c.step.new.rest in
    let before = l.invariant.went m code entries p run every a in
    let here = code_keeps c.args.heap.now l.heap c.args.setting.now m code entries l.invariant.keeps
    c.requires.constants run in
    let done = subst (λ o. Goes m own code before.0 (l.rest - rest) rest g k x o) c.in-Some.is
    (c.in_ok-stop.ensures.stepped m code entries before.0 here every before.2) in
    let e : (c.args.left - l.rest) + (l.rest - rest) ≡ c.args.left - rest =
    omega (arith, l.invariant.few, c.in_ok-stop.ensures.no_more) in
    let z : rest ≡ c.args.left - (c.args.left - rest) = omega (arith, l.invariant.few, c.in_ok-stop.ensures.no_more) in
    subst (λ n. Stopped m own code p (c.args.left - rest) n g k x c.in-Some.stop) z
    (stopped_then m own code p before.0 (c.args.left - l.rest) (l.rest - rest) (c.args.left - rest) rest g k x
    c.in-Some.stop before.1 e done)

pub steps-preserved : goal.steps-preserved
steps-preserved c =
    let l = c.steps in
    let own = c.args.setting.now.own in
    let g = c.step.new.heap in
    let k = c.step.new.self.machine in
    let x = c.step.new.self.status in
    let rest = c.step.new.rest in
    record {
      words = c.in_ok-stop.ensures.words;
      keeps = keep_then c.args.heap.now l.heap g l.invariant.keeps c.in_ok-stop.ensures.keeps;
      few = omega (arith, l.invariant.few, c.in_ok-stop.ensures.no_more);
      status = c.in_ok-stop.ensures.status;
      went = λ m code entries p run every a.
          let before = l.invariant.went m code entries p run every a in
          let here = code_keeps c.args.heap.now l.heap c.args.setting.now m code entries l.invariant.keeps
          c.requires.constants run in
          let done = subst (λ o. Goes m own code before.0 (l.rest - rest) rest g k x o) c.in_default.is
          (c.in_ok-stop.ensures.stepped m code entries before.0 here every before.2) in
          let e : (c.args.left - l.rest) + (l.rest - rest) ≡ c.args.left - rest =
          omega (arith, l.invariant.few, c.in_ok-stop.ensures.no_more) in
          went_then m own code p before.0 (c.args.left - l.rest) (l.rest - rest) (c.args.left - rest) g k x before.1 e
          done;
    }
