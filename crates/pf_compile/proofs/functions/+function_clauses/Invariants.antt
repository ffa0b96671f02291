use Rattle.std.proofs.Common.{length}
use Rattle.pf_compile.proofs.functions.+function_clauses.Given as goal

abbrev pub decreases-function_clauses : goal.decreases-function_clauses
decreases-function_clauses l = length l.clauses.now
