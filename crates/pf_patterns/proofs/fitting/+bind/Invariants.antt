use Rattle.std.proofs.Common.{◌+◌, ◌*◌}
use Rattle.pf_syntax.specs.Module.{pattern_at}
use Rattle.pf_syntax.specs.Over.{patterns_at}
use Rattle.pf_patterns.specs.Sizes.{pattern_size, patterns_size}
use Rattle.pf_patterns.proofs.fitting.+bind.Given as goal

abbrev pub decreases-bind : goal.decreases-bind
decreases-bind l = 3 * pattern_size (pattern_at l.code.now.tables l.pattern.0)

abbrev pub decreases-bind_all : goal.decreases-bind_all
decreases-bind_all l = 3 * patterns_size (patterns_at l.code.now.tables l.patterns.now) + 1

abbrev pub decreases-bind_cons : goal.decreases-bind_cons
decreases-bind_cons l = 3 * (pattern_size (pattern_at l.code.now.tables l.head.0) + pattern_size
    (pattern_at l.code.now.tables l.tail.0)) + 1

abbrev pub decreases-bind_tuple : goal.decreases-bind_tuple
decreases-bind_tuple l = 3 * patterns_size (patterns_at l.code.now.tables l.patterns.now) + 2
