use denote.Param.Send.{sendable}
use Rattle.std.proofs.lemmas.Result.{IfOk-at_ok}
use Rattle.pf_hunt.specs.Known.{FindsFailure}
use Rattle.pf_hunt.proofs.Crossing.{crosses, shares}
use Rattle.pf_hunt.proofs.workers.+first.Goals as goal

pub join-front-requires-send-F : goal.join-front-requires-send-F
join-front-requires-send-F g t c κs = search (shares, c.requires, sendable) depth 30

pub join-front-requires-send-A : goal.join-front-requires-send-A
join-front-requires-send-A g t c κs = search (crosses, sendable) depth 30

pub returns : goal.returns
returns g t c =
    let h = c.args.hunt.now in
    let from = c.args.from in
    let middle = c.edge-middle.result in
    let front = IfOk-at_ok (FindsFailure h from middle) c.in_ok-front.was c.join-front.ensures.first in
    c.both_parts.ensures h from middle c.edge-middle.ensures.0 c.edge-middle.ensures.1 front c.join-front.ensures.second

pub front_part-returns : goal.front_part-returns
front_part-returns g t c = c.first_of_block.ensures

pub back_part-returns : goal.back_part-returns
back_part-returns g t c = c.first_of_block.ensures
