use Rattle.std.proofs.Common.{◌+◌, ◌*◌}
use Rattle.pf_syntax.specs.Module.{pattern_at}
use Rattle.pf_syntax.specs.Over.{patterns_at}
use Rattle.pf_patterns.specs.Sizes.{pattern_size, patterns_size}
use Rattle.pf_patterns.proofs.finding.+find.Given as goal

abbrev pub decreases-find : goal.decreases-find
decreases-find l = 2 * pattern_size (pattern_at l.code.now.tables l.pattern.0)

abbrev pub decreases-find_cons : goal.decreases-find_cons
decreases-find_cons l = 2 * (pattern_size (pattern_at l.code.now.tables l.head.0) + pattern_size
    (pattern_at l.code.now.tables l.tail.0)) + 1

abbrev pub decreases-find_in : goal.decreases-find_in
decreases-find_in l = 2 * patterns_size (patterns_at l.code.now.tables l.patterns.now) + 1
