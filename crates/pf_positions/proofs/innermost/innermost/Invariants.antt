use Rattle.std.proofs.Common.{unwrap_or}
use Rattle.pf_syntax.specs.Module.{tree_at}
use Rattle.pf_syntax.specs.Tree.{Tree}
use Rattle.pf_positions.specs.Innermost.{IsInnermostAt}
use Rattle.pf_positions.proofs.Weights.{weight}
use Rattle.pf_positions.proofs.innermost.innermost.Given as goal

-- where the process is in this node, it is in the whole
abbrev pub invariant-loop-part : goal.invariant-loop-part
invariant-loop-part l = (v : Tree) → IsInnermostAt (tree_at l.module.tables l.at.0) l.following v
    → IsInnermostAt (tree_at l.module.tables l.fn.node.0) (unwrap_or l.fn.done 0) v

abbrev pub decreases-loop-part : goal.decreases-loop-part
decreases-loop-part l = weight (tree_at l.module.tables l.at.0)
