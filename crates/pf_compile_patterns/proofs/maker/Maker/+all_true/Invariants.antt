use Rattle.std.proofs.Common.{length}
use Rattle.pf_compile_patterns.proofs.maker.Maker.+all_true.Given as goal

abbrev pub decreases-all_true : goal.decreases-all_true
decreases-all_true l = length l.parts.now
