use Rattle.std.proofs.Common.{◌∙◌, ap, map, sym, subst, None}
use Rattle.std.proofs.lemmas.Simd.{map-map}
use Rattle.pf_model.specs.Reports.{view_of_event, view_of_report}
use Rattle.pf_strategy.specs.Noted.{MakesChoices}
use Rattle.pf_explore_laws.specs.Parting.{point_of}
use Rattle.pf_explore_laws.proofs.Parting.{events_are_choices}
use Rattle.pf_explore_answer.proofs.job_runs.free_run.Goals as goal

pub returns : goal.returns
returns c =
    let j = c.args.job.now.asked in
    let ns = c.args.schedule.now in
    let r = c.in_ok-report.report in
    let all = c.in_ok-points.ensures ∙ ap (map (λ e. point_of (view_of_event e))) c.as_slice.ensures.value
    ∙ sym (map-map point_of view_of_event r.events.items) in
    subst (λ es. MakesChoices None j ns es (view_of_report r)) (sym all)
    (events_are_choices j ns (view_of_report r) c.in_ok-report.ensures)
