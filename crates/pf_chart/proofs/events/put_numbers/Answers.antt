use Rattle.std.proofs.Common.{◌≡◌, get_or, rules}
use Rattle.pf_chart.specs.Rows.{star_labels_of}
use Rattle.pf_svg.proofs.Drawn.{grown_by, in_turn, nothing, renamed, to_end}
use Rattle.pf_chart.proofs.events.put_numbers.Goals as goal

pub loop-place-init : goal.loop-place-init
loop-place-init c = nothing _

pub loop-place-preserved : goal.loop-place-preserved
loop-place-preserved c =
    let row = c.index-rows-place.result in
    let read : row ≡ get_or c.args.rows.now c.loop-place.place row = search rules in
    renamed (grown_by star_labels_of c.args.rows.now c.loop-place.place row c.loop-place-test.true read)
    (in_turn c.loop-place.invariant c.in_ok-put_number_of.ensures)

pub returns : goal.returns
returns c = to_end star_labels_of c.args.rows.now c.loop-place.place c.loop-place-test.false c.loop-place.invariant
