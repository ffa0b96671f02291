use Rattle.std.proofs.Common.{◌≡◌, take, map}
use Rattle.pf_terms.specs.Atoms.{name_of}
use Rattle.pf_hunt_suite.proofs.roots.names_of.Given as goal

-- the names of the numbers so far
abbrev pub invariant-loop-number : goal.invariant-loop-number
invariant-loop-number l = map (λ name. name.items) l.names.items ≡ map (name_of l.atoms) (take l.number-index l.numbers)
