use denote.Param.Send.{sendable}
use Rattle.std.proofs.Common.{refl}
use Rattle.std.proofs.lemmas.Result.{IfOk-at_ok}
use Rattle.pf_hunt.specs.Known.{TalliesAll}
use Rattle.pf_hunt.proofs.Crossing.{crosses, shares}
use Rattle.pf_hunt.proofs.Counting.{counted_both, parts_are_the_whole}
use Rattle.pf_hunt.proofs.workers.+tallied.Goals as goal

pub join-front-requires-send-F : goal.join-front-requires-send-F
join-front-requires-send-F g t c κs = search (shares, c.requires, sendable) depth 30

pub join-front-requires-send-A : goal.join-front-requires-send-A
join-front-requires-send-A g t c κs = search (crosses, sendable) depth 30

pub join-requires : goal.join-requires
join-requires g t c =
    let h = c.args.hunt.now in
    let front = IfOk-at_ok (TalliesAll h c.args.from c.edge-middle.result) c.in_ok-front.was
    c.join-front.ensures.first in
    let back = IfOk-at_ok (TalliesAll h c.edge-middle.result c.args.end) c.in_ok-back.was c.join-front.ensures.second in
    counted_both h.strategy h.job.asked c.args.from c.edge-middle.result c.args.end _ _ c.edge-middle.ensures.0
    c.edge-middle.ensures.1 c.ranges.end.fits front.rows back.rows

pub returns : goal.returns
returns g t c =
    let h = c.args.hunt.now in
    let from = c.args.from in
    let middle = c.edge-middle.result in
    let end = c.args.end in
    let front = IfOk-at_ok (TalliesAll h from middle) c.in_ok-front.was c.join-front.ensures.first in
    let back = IfOk-at_ok (TalliesAll h middle end) c.in_ok-back.was c.join-front.ensures.second in
    record {
      rows = rw c.in_ok-join.ensures (parts_are_the_whole h.strategy h.job.asked from middle end _ _
          c.edge-middle.ensures.0 c.edge-middle.ensures.1 front.rows back.rows);
      leak = c.earlier-leak.ensures h.strategy h.job.asked from middle end c.edge-middle.ensures.0
          c.edge-middle.ensures.1 front.leak back.leak;
      end = refl;
    }

pub front_part-returns : goal.front_part-returns
front_part-returns g t c = c.tally_of_block.ensures

pub back_part-returns : goal.back_part-returns
back_part-returns g t c = c.tally_of_block.ensures
