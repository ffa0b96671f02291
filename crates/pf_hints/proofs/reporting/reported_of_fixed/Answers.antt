use Rattle.std.proofs.Common.{sym, subst, rules}
use Rattle.pf_hints.specs.Fixed.{IsFixed}
use Rattle.pf_hints.proofs.Fillers.{fixed_again, fixed_not}
use Rattle.pf_hints.proofs.Parts.{faults_of_rest}
use Rattle.pf_hints.proofs.reporting.reported_of_fixed.Goals as goal

pub put_fault-requires-clause-fault : goal.put_fault-requires-clause-fault
put_fault-requires-clause-fault c =
    faults_of_rest c.args.source.now c.next_fault.new.fixed.items _
    (fixed_again _ _ _ c.loop.invariant.rest c.next_fault.ensures.rest) c.in_ok-fault.ensures.fault

pub loop-init : goal.loop-init
loop-init c = record {
  all = search rules;
  rest = subst (IsFixed c.args.source.now) (sym c.in_ok-fixed.ensures.items) (fixed_not c.args.source.now);
}

pub loop-preserved : goal.loop-preserved
loop-preserved c = record {
  all = c.in_ok-put_fault.ensures;
  rest = fixed_again _ _ _ c.loop.invariant.rest c.next_fault.ensures.rest;
}
