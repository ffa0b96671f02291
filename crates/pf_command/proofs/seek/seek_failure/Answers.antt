use Rattle.std.proofs.Common.{◌∙◌, map, subst}
use Rattle.std.specs.Prelude.{option_map}
use Rattle.pf_property.specs.Views.{property_of}
use Rattle.pf_verdicts.specs.Watching.{AreJobsOf}
use Rattle.pf_hunt.specs.Hunts.{FirstFailing, SearchedTo}
use Rattle.pf_hunt.specs.Notices.{SearchNotices}
use Rattle.pf_hunt.specs.Views.{failure_of}
use Rattle.pf_cli.specs.Args.{view_of_hunt_args}
use Rattle.pf_command.specs.Hunts.{failures_by, none_fails, properties_of}
use Rattle.pf_command.proofs.Found.{least_of_all, none_so_far}
use Rattle.pf_command.proofs.seek.seek_failure.Goals as goal

pub returns : goal.returns
returns g c =
    let args = c.args.asked.now.args.now in
    let h = view_of_hunt_args args in
    let j = c.args.hunted.job in
    let ps = properties_of c.args.hunted in
    let found = c.in_ok-failure in
    let end = found.field-0.end in
    let may = c.may_stop-may_stop in
    let heard = found.ensures.heard in
    let known = subst (λ f. FirstFailing (failures_by h ps) args.strategy j.asked args.first end
    (option_map failure_of f))
    c.in-Some.is found.ensures.known.failure in
    let reported = subst (λ f. SearchNotices args.strategy j.asked may.result args.first args.end end
    (option_map failure_of f) heard.0) c.in-Some.is heard.1 in (
      heard.0,
      (λ bytes of. (
        (
          of,
          least_of_all h bytes j ps heard.0 may.result end (failure_of c.in-Some.failure) may.ensures known
              reported,
        ),
        λ t s say. say,
      )),
      heard.2,
    )

pub returns-in_default : goal.returns-in_default
returns-in_default g c =
    let args = c.args.asked.now.args.now in
    let h = view_of_hunt_args args in
    let j = c.args.hunted.job in
    let ps = properties_of c.args.hunted in
    let found = c.in_ok-failure in
    let end = found.field-0.end in
    let may = c.may_stop-may_stop in
    let heard = found.ensures.heard in
    let none = subst (λ f. FirstFailing (failures_by h ps) args.strategy j.asked args.first end
    (option_map failure_of f))
    c.in_default.is found.ensures.known.failure in
    let reported = subst (λ f. SearchNotices args.strategy j.asked may.result args.first args.end end
    (option_map failure_of f) heard.0) c.in_default.is heard.1 in
    let reach = subst (λ b. SearchedTo b args.first args.end end) may.ensures found.ensures.reach in
    let is = c.in_ok-write_none.ensures in (
      heard.0,
      (λ bytes of. (
        tt,
        λ t s say. rw (say.0 ∙ is.0, say.1 ∙ is.1)
            (none_fails c.args.runs end reach (none_so_far h bytes j ps heard.0 may.result end may.ensures none
            reported)),
      )),
      heard.2,
    )

pub invariant_of-hunt : goal.invariant_of-hunt
invariant_of-hunt g c = record {
  alike = subst (λ xs. AreJobsOf c.args.hunted.job (map property_of xs) c.in_ok-jobs.jobs) c.as_slice.ensures.value
      c.in_ok-jobs.ensures;
}
