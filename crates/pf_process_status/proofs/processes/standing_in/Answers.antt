use Rattle.std.proofs.Common.{◌≡◌, ◌+◌, suc, refl, sym, subst, arith}
use Rattle.std.specs.Prelude.{get_or}
use Rattle.pf_process_status.specs.Put.{AreStanding}
use Rattle.pf_process_status.proofs.Survivors.{item_at, one_more}
use Rattle.pf_process_status.proofs.processes.standing_in.Goals as goal

pub loop-begun-preserved : goal.loop-begun-preserved
loop-begun-preserved c d is_there pids =
    let l = c.loop-begun in
    let f = c.args.followed.now in
    let i = l.begun-index in
    let number : suc i ≡ i + 1 = omega arith in
    let items = c.deref-begun-items.result.now in
    subst (λ n. AreStanding f.system.checked d f.begun.items n c.push.new.self.items) number
    (subst (AreStanding f.system.checked d f.begun.items (suc i)) (sym c.in_ok-push.ensures.items)
    (one_more f.system.checked d f.begun.items i (get_or items i _) l.standings.items _ pids
    (l.invariant d is_there pids)
    (item_at items f.begun.items i _ c.deref-begun-items.ensures.value c.loop-begun-test.true) refl refl
    (c.fate_in.ensures d is_there)))
