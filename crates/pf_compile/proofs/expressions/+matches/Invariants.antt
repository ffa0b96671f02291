use Rattle.std.proofs.Common.{length}
use Rattle.pf_compile.proofs.expressions.+matches.Given as goal

abbrev pub decreases-matches : goal.decreases-matches
decreases-matches l = length l.patterns.now
