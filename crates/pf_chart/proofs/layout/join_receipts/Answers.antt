use Rattle.std.proofs.Common.{ℕ, List, Option, subst, arith}
use Rattle.pf_chart.specs.Signals.{IsJoinedBy}
use Rattle.pf_chart.proofs.Joined.{joined_all, joined_next, joined_none}
use Rattle.pf_chart.proofs.layout.join_receipts.Goals as goal

pub loop-index-init : goal.loop-index-init
loop-index-init c = joined_none _ _

pub loop-index-preserved : goal.loop-index-preserved
loop-index-preserved c =
    let a = c.index.result.now in
    let b = c.joined.result in
    let count = c.loop-index.invariant.count in
    joined_next c.in_ok-receipts.receipts.items c.loop-index.index c.args.arrows.now.items c.loop-index.arrows.items a b
    c.loop-index.invariant
    (omega (arith, count, c.loop-index-test.true, c.len-index-end.ensures, c.args.arrows.now.ok.0)) c.index.ensures
    (subst (λ (rs : List (Option ℕ)). IsJoinedBy rs a.kind a.reach a b) c.deref.ensures.value c.joined.ensures)

pub returns : goal.returns
returns c =
    let count = c.loop-index.invariant.count in
    joined_all _ _ _ _ _ c.in_ok-receipts.ensures c.loop-index.invariant
    (omega (arith, count, c.loop-index-test.false, c.len-index-end.ensures, c.args.arrows.now.ok.0))
