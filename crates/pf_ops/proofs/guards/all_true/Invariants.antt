use Rattle.std.proofs.Common.{◌≡◌, drop}
use Rattle.pf_syntax.specs.Over.{parts_over}
use Rattle.pf_ops.specs.Surroundings.{tables_in, all_true_in}
use Rattle.pf_ops.proofs.guards.all_true.Given as goal

-- the tests so far gave `true`
abbrev pub invariant-loop-test : goal.invariant-loop-test
invariant-loop-test l =
    all_true_in l.around (parts_over (tables_in l.around) (drop l.test-index l.tests)) ≡ all_true_in l.around
    (parts_over (tables_in l.around) l.tests)
