use Rattle.std.proofs.Common.{◌≡◌, take, []}
use Rattle.pf_lower.proofs.Threads.{SoFar}
use Rattle.pf_lower.proofs.Heads_mean.{next_head, EachHead}
use Rattle.pf_lower.proofs.build.clauses.Given as goal

abbrev pub invariant-loop-head : goal.invariant-loop-head
invariant-loop-head l =
    SoFar (next_head l.syntax.functions l.syntax.node_table) (EachHead l.syntax.functions l.syntax.node_table)
    l.initial.module l.module l.initial.slots l.slots
    (take l.head-index l.heads) l.found.items × (l.slots ≡ [])
