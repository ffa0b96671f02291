use Rattle.std.proofs.Common.{◌≡◌, ◌+◌}
use Rattle.pf_stepper.specs.MicroSteps.{frames_weight, focus_weight}
use Rattle.pf_stepper.specs.Advanced.{stack_process, IsSound}
use Rattle.pf_stepper.proofs.stack.Stack.advance.Given as goal

abbrev pub invariant-loop-next : goal.invariant-loop-next
invariant-loop-next l = record {
  process : stack_process l.code l.self l.focus ≡ stack_process l.code l.fn.self l.fn.first;
  sound : IsSound l.self l.focus;
}

abbrev pub decreases-loop-next : goal.decreases-loop-next
decreases-loop-next l = frames_weight l.code.tables l.self.frames.items + focus_weight l.code.tables l.focus
