use Rattle.std.proofs.Common.{length}
use Rattle.pf_compile_patterns.proofs.maker.Maker.+alternatives.Given as goal

abbrev pub decreases-alternatives : goal.decreases-alternatives
decreases-alternatives l = length l.alternatives.now
