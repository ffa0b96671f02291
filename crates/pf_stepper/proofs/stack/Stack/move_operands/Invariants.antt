use Rattle.std.proofs.Common.{◌≡◌, ◌≤◌, ◌++◌, drop, length, take}
use Rattle.pf_stepper.proofs.stack.Stack.move_operands.Given as goal

-- the slots with the operands that are left are all that there are
abbrev pub invariant-loop-at : goal.invariant-loop-at
invariant-loop-at l = record {
  all : l.self.env.items ++ drop l.at l.self.operands.items ≡ l.fn.self.env.items
      ++ drop l.from l.fn.self.operands.items;
  below : take l.from l.self.operands.items ≡ take l.from l.fn.self.operands.items;
  as_many : length l.self.operands.items ≡ length l.fn.self.operands.items;
  above : l.from ≤ l.at;
  frames : l.self.frames ≡ l.fn.self.frames;
  base : l.self.base ≡ l.fn.self.base;
}
