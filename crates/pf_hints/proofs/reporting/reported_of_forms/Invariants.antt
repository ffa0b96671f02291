use Rattle.std.specs.List.{All}
use Rattle.pf_hints.specs.Faults.{IsOfFault}
use Rattle.pf_hints.proofs.reporting.reported_of_forms.Given as goal

-- what is reported so far is of faults
abbrev pub invariant-loop-end : goal.invariant-loop-end
invariant-loop-end l = All (IsOfFault l.source) l.reported.items
