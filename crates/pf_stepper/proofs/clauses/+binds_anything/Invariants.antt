use Rattle.std.proofs.Common.{length}
use Rattle.pf_stepper.proofs.clauses.+binds_anything.Given as goal

abbrev pub decreases-binds_anything : goal.decreases-binds_anything
decreases-binds_anything l = length l.patterns.now
