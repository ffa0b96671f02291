use Rattle.std.proofs.Common.{◌++◌, sym, subst, arith}
use Rattle.pf_cli_messages.specs.Explained.{AreStatusLines}
use Rattle.pf_cli_messages.proofs.Reporting.{all_lines, next_line}
use Rattle.pf_cli_messages.proofs.explained.lines_of.Goals as goal

pub loop-standing-preserved : goal.loop-standing-preserved
loop-standing-preserved c rest lines =
    let k = c.args.run.now in
    let places = c.args.places.now in
    let xs = c.args.standings.now in
    let l = c.loop-standing in
    subst (λ t. AreStatusLines k places xs (t ++ rest)) (sym c.in_ok-push.ensures.items)
    (next_line k places xs l.standing-index _ l.text.items c.put_standing.new.out.items rest c.loop-standing-test.true
    c.in_ok-put_standing.ensures lines l.invariant)

pub returns : goal.returns
returns c =
    let l = c.loop-standing in
    all_lines c.args.run.now c.args.places.now c.args.standings.now l.standing-index l.text.items
    (omega arith) l.invariant
