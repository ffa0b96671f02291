use Rattle.std.specs.List.{All}
use Rattle.pf_hints.specs.Fixed.{IsFixed}
use Rattle.pf_hints.specs.Faults.{IsOfFault}
use Rattle.pf_hints.proofs.reporting.reported_of_fixed.Given as goal

-- what is said so far is of faults, and only faults were taken out of the source
abbrev pub invariant-loop : goal.invariant-loop
invariant-loop l = record {
  all : All (IsOfFault l.source) l.reported.items;
  rest : IsFixed l.source l.fixed.items;
}
