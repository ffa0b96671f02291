use Rattle.std.proofs.Common.{◌+◌, ◌*◌}
use Rattle.pf_syntax.specs.Module.{pattern_at}
use Rattle.pf_syntax.specs.Over.{patterns_at}
use Rattle.pf_patterns.specs.Sizes.{pattern_size, patterns_size}
use Rattle.pf_compile_patterns.proofs.maker.Maker.+plan.Given as goal

abbrev pub decreases-plan : goal.decreases-plan
decreases-plan l = 3 * pattern_size (pattern_at l.code.now.tables l.pattern.0)

abbrev pub decreases-plan_row : goal.decreases-plan_row
decreases-plan_row l = 3 * patterns_size (patterns_at l.code.now.tables l.parts.now) + 1

abbrev pub decreases-plan_cons : goal.decreases-plan_cons
decreases-plan_cons l = 3 * (pattern_size (pattern_at l.code.now.tables l.first.0) + pattern_size
    (pattern_at l.code.now.tables l.rest.0)) + 1

abbrev pub decreases-plan_tuple : goal.decreases-plan_tuple
decreases-plan_tuple l = 3 * patterns_size (patterns_at l.code.now.tables l.parts.now) + 2
