use Rattle.std.proofs.Common.{◌+◌, ◌*◌}
use Rattle.pf_syntax.specs.Module.{pattern_at}
use Rattle.pf_syntax.specs.Over.{patterns_at}
use Rattle.pf_patterns.specs.Sizes.{pattern_size, patterns_size}
use Rattle.pf_patterns.specs.Walks.{tables_in}
use Rattle.pf_patterns.proofs.trying.+walk.Given as goal

abbrev pub decreases-fits_part : goal.decreases-fits_part
decreases-fits_part l = 2 * pattern_size (pattern_at (tables_in l.walk.now) l.part.0)

abbrev pub decreases-fits_cons : goal.decreases-fits_cons
decreases-fits_cons l = 2 * (pattern_size (pattern_at (tables_in l.walk.now) l.head.0) + pattern_size
    (pattern_at (tables_in l.walk.now) l.tail.0)) + 1

abbrev pub decreases-fits_all : goal.decreases-fits_all
decreases-fits_all l = 2 * patterns_size (patterns_at (tables_in l.walk.now) l.parts.now) + 1
