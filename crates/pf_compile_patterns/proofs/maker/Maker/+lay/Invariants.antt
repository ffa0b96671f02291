use Rattle.std.proofs.Common.{length}
use Rattle.pf_compile_patterns.proofs.maker.Maker.+lay.Given as goal

abbrev pub decreases-lay : goal.decreases-lay
decreases-lay l = length l.tests.now
