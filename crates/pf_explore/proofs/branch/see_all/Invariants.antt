use Rattle.std.proofs.Common.{◌≡◌, zero, take}
use Rattle.pf_explore.specs.Branching.{none_seen, seen_all}
use Rattle.pf_explore.proofs.branch.see_all.Given as goal

-- what is seen of the choices so far
abbrev pub invariant-loop-index : goal.invariant-loop-index
invariant-loop-index l = l.so_far ≡ seen_all (none_seen l.most) zero (take l.index l.points)
