use Rattle.std.proofs.Common.{◌∙◌, map, sym, subst}
use Rattle.pf_model.specs.Meaning.{schedule}
use Rattle.pf_model.specs.Reports.{view_of_event, view_of_report}
use Rattle.pf_sched.specs.Choosing.{last, noted}
use Rattle.pf_sched.specs.Parts.{Executes}
use Rattle.pf_sched.proofs.NotedChoices.{makes_choices}
use Rattle.pf_sched.proofs.with_last.noted_to_end.Goals as goal

pub complete-requires-clause-first : goal.complete-requires-clause-first
complete-requires-clause-first c = (last c.requires.0 (noted (schedule c.requires.1)), c.requires.2)

pub returns : goal.returns
returns c p ns first =
    let j = c.args.job.now in
    let w = last p (noted (schedule ns)) in
    let x = c.complete.new.self in
    let all = c.in_ok-complete.ensures w first in
    let run = subst (λ es. Executes j w es x) (sym all.2) all.1 in
    makes_choices j p ns (map view_of_event c.complete.new.trace.items) x run all.3
    (view_of_report c.in_ok-report.report) c.in_ok-report.ensures c.take_points-points.result.items
    c.take_points-points.ensures
