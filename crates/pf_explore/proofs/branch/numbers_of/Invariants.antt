use Rattle.std.proofs.Common.{◌≡◌, take}
use Rattle.std.specs.Prelude.{map}
use Rattle.pf_explore.proofs.branch.numbers_of.Given as goal

-- the choices so far
abbrev pub invariant-loop-point : goal.invariant-loop-point
invariant-loop-point l = l.numbers.items ≡ map (λ e. e.choice) (take l.point-index l.points)
