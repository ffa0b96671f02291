use Rattle.std.proofs.Common.{◌+◌, ◌*◌}
use Rattle.pf_syntax.specs.Module.{pattern_at}
use Rattle.pf_syntax.specs.Over.{pattern_over, patterns_at}
use Rattle.pf_patterns.specs.Sizes.{pattern_size, patterns_size}
use Rattle.pf_patterns.proofs.sameness.+same.Given as goal

abbrev pub decreases-same_at : goal.decreases-same_at
decreases-same_at l = 3 * pattern_size (pattern_at l.a.now.tables l.p.0) + 1

abbrev pub decreases-same_nodes : goal.decreases-same_nodes
decreases-same_nodes l = 3 * pattern_size (pattern_over l.a.now.tables l.node.now)

abbrev pub decreases-same_parts : goal.decreases-same_parts
decreases-same_parts l = 3 * patterns_size (patterns_at l.a.now.tables l.parts.now) + 2
