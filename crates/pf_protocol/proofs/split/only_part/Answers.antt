use Rattle.pf_protocol.proofs.Splitting.{more_parts}
use Rattle.pf_protocol.proofs.split.only_part.Goals as goal

pub returns-in-Some : goal.returns-in-Some
returns-in-Some c = more_parts c.args.at c.args.text.now c.in-Some.field-0.0.now c.in-Some.field-0.1.now
    c.in-Some.ensures
