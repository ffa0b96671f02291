use Rattle.std.proofs.Common.{ap, sym, ◌∙◌}
use Rattle.pf_protocol.specs.Commands.{first_line}
use Rattle.pf_protocol.proofs.Splitting.{line_cut, line_whole}
use Rattle.pf_protocol.proofs.split.first_line.Goals as goal

pub returns-in-Some : goal.returns-in-Some
returns-in-Some c = sym (ap first_line c.in-Some.ensures.0 ∙ line_cut c.in-Some.text.now c.in-Some.rest.now
    c.in-Some.ensures.1)

pub returns-in-None : goal.returns-in-None
returns-in-None c = sym (line_whole c.args.bytes.now c.in-None.ensures)
