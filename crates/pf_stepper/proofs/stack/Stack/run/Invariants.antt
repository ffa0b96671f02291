use Rattle.std.proofs.Common.{◌-◌, ◌≤◌}
use Rattle.pf_model.specs.Module.{module_of}
use Rattle.pf_stepper.specs.Advanced.{Steps, stack_process, IsSound}
use Rattle.pf_stepper.proofs.stack.Stack.run.Given as goal

abbrev pub invariant-loop-used : goal.invariant-loop-used
invariant-loop-used l = record {
  steps : Steps (module_of l.code) l.own l.used (stack_process l.code l.fn.self l.fn.first)
      (stack_process l.code l.self l.focus);
  sound : IsSound l.self l.focus;
  within : l.used ≤ l.left;
}

abbrev pub decreases-loop-used : goal.decreases-loop-used
decreases-loop-used l = l.left - l.used
