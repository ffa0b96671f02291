use Rattle.std.proofs.Common.{◌≡◌, drop}
use Rattle.pf_terms.specs.Term.{value_of}
use Rattle.pf_stepper.proofs.Selected.{picked_of}
use Rattle.pf_stepper.proofs.clauses.choose.Given as goal

abbrev pub invariant-loop-clause : goal.invariant-loop-clause
invariant-loop-clause l = record {
  same : l.env.items ≡ l.fn.env.items;
  left : picked_of l.code l.own l.base l.env.items (drop l.clause-index l.clauses) (value_of l.value)
      ≡ picked_of l.code l.own l.base l.fn.env.items l.clauses (value_of l.value);
}
