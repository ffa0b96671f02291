use Rattle.std.proofs.Common.{◌≡◌, ◌+◌, drop}
use Rattle.pf_strategy.specs.Last.{place}
use Rattle.pf_strategy.proofs.last.Others.place.Given as goal

-- what is left of the number is the place among the marks that are left
abbrev pub invariant-loop-at : goal.invariant-loop-at
invariant-loop-at l = place l.number l.self.marks.items ≡ l.at + place l.left (drop l.at l.self.marks.items)
