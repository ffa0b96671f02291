use Rattle.std.proofs.Common.{◌≡◌, length, take}
use Rattle.pf_stepper.proofs.stack.cut.Given as goal

-- what stays is the same all along
abbrev pub invariant-loop-values : goal.invariant-loop-values
invariant-loop-values l = take l.end l.values.items ≡ take l.end l.fn.values.items

abbrev pub decreases-loop-values : goal.decreases-loop-values
decreases-loop-values l = length l.values.items
