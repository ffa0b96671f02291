use Rattle.std.proofs.Common.{◌++◌, map, ap, sym, ◌∙◌, subst}
use Rattle.std.proofs.lemmas.Result.{IfErr-weaker}
use Rattle.pf_terms.specs.Atoms.{name_of}
use Rattle.pf_streams.specs.Streams.{LeavesFront}
use Rattle.pf_model.specs.Reports.{view_of_event, view_of_report}
use Rattle.pf_trace.specs.Written.{report_end_text, gone_from, lines_text, reported_so_far}
use Rattle.pf_trace.proofs.Fronts.{stops_at_end}
use Rattle.pf_trace.proofs.printing.print_report.Goals as goal

pub returns-clause-fault : goal.returns-clause-fault
returns-clause-fault g c =
    let r = view_of_report c.args.report.now in
    let name = name_of c.args.atoms.now in
    let p = c.in_ok-pieces.pieces in
    IfErr-weaker c.print_end.result _ _
    (λ e leaves.
    stops_at_end name e r (gone_from p) (reported_so_far p.lines) _ _ _ _ _
    (ap (map view_of_event) (sym c.deref.ensures.value) ∙ c.in_ok-pieces.ensures.out.0)
    c.in_ok-pieces.ensures.out.2
    (subst
    (λ n. LeavesFront e (lines_text name (reported_so_far p.lines) ++ report_end_text name r)
    (g.W.Write.contents c.print_events.new.writer.inner) (g.W.Write.contents c.print_end.new.writer.inner) n
    c.print_end.new.writer.failures.total)
    c.in_ok-pieces.ensures.kept leaves))
    c.print_end.ensures.fault
