use Rattle.std.proofs.Common.{ℕ, ◌-◌, ◌≤◌, length, List}
use Rattle.pf_terms.specs.declared.term.Term.{Term}
use Rattle.pf_stepper.specs.Sound.{Stacked}
use Rattle.pf_stepper.specs.MicroSteps.{PassesToCall}
use Rattle.pf_stepper.specs.declared.frame.Frame.{Frame}
use Rattle.pf_stepper.specs.declared.frame.Focus.{Focus}
use Rattle.pf_stepper.proofs.stack.Stack.pass.Given as goal

abbrev pub invariant-loop-count : goal.invariant-loop-count
invariant-loop-count l = record {
  passes : (env ws : List Term) (base : ℕ) (fs : List Frame) (x : Focus)
      → PassesToCall l.code env ws base fs x l.fn.self.env.items l.fn.self.operands.items l.fn.self.base
      l.fn.self.frames.items l.callee l.id l.fn.from
      → PassesToCall l.code env ws base fs x l.self.env.items l.self.operands.items l.self.base l.self.frames.items
      l.callee l.id l.count;
  stacked : Stacked l.self.env.items l.self.operands.items l.self.frames.items l.count;
  inside : l.self.base ≤ length l.self.env.items;
}

abbrev pub decreases-loop-count : goal.decreases-loop-count
decreases-loop-count l = length l.arguments - l.count
