use Rattle.std.proofs.Common.{◌<◌, ◌^◌, subst, sym, arith}
use Rattle.pf_hunt.specs.Rows.{seeds_counted}
use Rattle.pf_hunt.specs.Views.{rows_in}
use Rattle.pf_hunt.proofs.Failing.{next_fits}
use Rattle.pf_hunt.proofs.tally.Tally.failures.Goals as goal

pub overflow_add-count : goal.overflow_add-count
overflow_add-count c =
    let at = c.loop-row in
    let xs = c.deref-row-items.result.now in
    let fits = subst (λ ys. seeds_counted (rows_in ys) < 2 ^ 64) (sym c.deref-row-items.ensures.value) c.requires in
    let more = next_fits xs at.row-index at.count c.row-item.result c.loop-row-test.true c.row-item.is
    at.invariant fits in
    omega (arith, more, c.failures-count.ensures)
