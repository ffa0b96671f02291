use Rattle.std.proofs.Common.{sym, subst}
use Rattle.std.specs.List.{All}
use Rattle.std.proofs.lemmas.List.Elements.{All-push}
use Rattle.pf_hints.specs.Faults.{IsOfFault}
use Rattle.pf_hints.proofs.reporting.put_fault.Goals as goal

pub returns : goal.returns
returns c =
    let source = c.args.source.now in
    subst (All (IsOfFault source)) (sym c.in_ok-push.ensures.items)
    (All-push (IsOfFault source) c.args.reported.now.items c.in_ok-advise_on.field-0 c.requires.reported
    c.in_ok-advise_on.ensures)
