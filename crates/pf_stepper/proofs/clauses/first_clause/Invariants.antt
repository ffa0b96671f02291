use Rattle.std.proofs.Common.{◌≡◌, drop}
use Rattle.pf_terms.specs.Term.{values_of}
use Rattle.pf_stepper.proofs.Selected.{entered_of}
use Rattle.pf_stepper.proofs.clauses.first_clause.Given as goal

abbrev pub invariant-loop-clause : goal.invariant-loop-clause
invariant-loop-clause l = record {
  same : l.env.items ≡ l.fn.env.items;
  left : entered_of l.code l.own (drop l.clause-index l.clauses) (values_of l.values) ≡ entered_of l.code l.own
      l.clauses (values_of l.values);
}
