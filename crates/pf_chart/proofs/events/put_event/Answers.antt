use Rattle.std.proofs.Common.{◌≡◌, ap, rules}
use Rattle.std.proofs.lemmas.Result.{on_ok_weaker}
use Rattle.pf_terms.specs.Atoms.{name_of}
use Rattle.pf_model.specs.Reports.{label_of}
use Rattle.pf_chart.specs.Chart.{shown_text, twice}
use Rattle.pf_svg.proofs.Drawn.{grouped, renamed}
use Rattle.pf_chart.proofs.events.put_event.Goals as goal

pub returns : goal.returns
returns c =
    let text : c.deref.result.now ≡ shown_text (name_of c.args.atoms.now) (label_of c.args.row.now.event.now.label) =
    search rules in
    on_ok_weaker c.put_mark.result (λ h. renamed (ap twice text) (grouped c.in_ok-put_opening.ensures h))
    c.put_mark.ensures
