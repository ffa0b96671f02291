use Rattle.std.proofs.Common.{sym, subst, arith}
use Rattle.pf_lower.proofs.Threads.{step_at, SoFar}
use Rattle.pf_lower.proofs.Heads_mean.{next_head, EachHead, each_head_on, heads_done}
use Rattle.pf_lower.proofs.build.clauses.Goals as goal

pub loop-head-preserved : goal.loop-head-preserved
loop-head-preserved c =
    let fs = c.args.syntax.now.functions in
    let b = c.args.syntax.now.node_table in (
      subst (SoFar (next_head fs b) (EachHead fs b) _ _ _ _ _) (sym c.in_ok-push.ensures.items)
          (step_at (next_head fs b) (EachHead fs b) (each_head_on fs b) c.args.module.now c.loop-head.module _
          c.args.slots.now c.loop-head.slots _ c.args.heads.now c.loop-head.head-index
          c.loop-head.found.items c.head-item.result c.in_ok-one.one (omega arith) c.head-item.is
          c.loop-head.invariant.0 c.in_ok-one.ensures),
      c.in_ok-one.ensures.bound_is,
    )

pub returns : goal.returns
returns c =
    heads_done c.args.syntax.now.functions c.args.syntax.now.node_table c.args.module.now c.loop-head.module
    c.args.slots.now c.loop-head.slots c.args.heads.now c.loop-head.head-index
    c.loop-head.found.items c.requires.none_bound (omega arith) c.loop-head.invariant.0
