use Rattle.std.proofs.Common.{[], sym, subst}
use Rattle.std.proofs.lemmas.Result.{IfOk-weaker}
use Rattle.pf_hunt.specs.Notices.{HearsSome}
use Rattle.pf_hunt.proofs.Hearing.{hears_none, hears_weaker}
use Rattle.pf_cli.specs.Args.{view_of_hunt_args}
use Rattle.pf_cli.specs.declared.args.HuntGoal.TheVariants.{Failure, Outcomes}
use Rattle.pf_command.specs.Hunts.{OfEach, properties_of}
use Rattle.pf_command.specs.Printed.{HuntEndsAs, PrintsAs}
use Rattle.pf_command.specs.declared.answers.Answer.TheVariants.{Reported}
use Rattle.pf_command.proofs.Found.{answered_as, ends_as, refused_as}
use Rattle.pf_command.proofs.hunt.answer_of_hunt.Goals as goal

pub returns-in-Failure : goal.returns-in-Failure
returns-in-Failure g c =
    let h = view_of_hunt_args c.args.asked.now.args.now in
    let bytes = c.args.source.now in
    let x = c.in-Ok.hunted in
    let known = c.in-Ok.ensures in
    let sought = Failure c.in-Failure.runs in
    let heard = g.S.HuntObserver.Heard in
    let old = c.args.seeds.now in
    let new = c.seek_failure.new.seeds in
    IfOk-weaker c.seek_failure.result
    (λ e. HearsSome heard old (OfEach x.module (λ bytes. PrintsAs h bytes x.job (properties_of x) sought e)) new)
    (λ e. HearsSome heard old (HuntEndsAs h h.sought bytes e) new)
    (λ e.
    hears_weaker heard (OfEach x.module (λ bytes. PrintsAs h bytes x.job (properties_of x) sought e))
    (HuntEndsAs h h.sought bytes e) old
    new
    (λ ns reports. ends_as h bytes x.module x.job (properties_of x) ns sought (sym c.in-Failure.is) known.0 known.1
    known.2 e
    (reports bytes known.0)))
    c.seek_failure.ensures

pub returns-in_ok-answer-in-Outcomes : goal.returns-in_ok-answer-in-Outcomes
returns-in_ok-answer-in-Outcomes g c =
    let h = view_of_hunt_args c.args.asked.now.args.now in
    let bytes = c.args.source.now in
    let x = c.in-Ok.hunted in
    let known = c.in-Ok.ensures in
    let answer = c.in_ok-answer-in-Outcomes.answer in
    let heard = c.in_ok-answer-in-Outcomes.ensures in (
      heard.0,
      answered_as h bytes x.module x.job (properties_of x) heard.0 Outcomes
          (sym c.in-Outcomes.is) known.0 known.1 known.2
          answer (heard.1 bytes),
      heard.2,
    )

pub returns-in-Err-Fault : goal.returns-in-Err-Fault
returns-in-Err-Fault g c =
    let h = view_of_hunt_args c.args.asked.now.args.now in
    let bytes = c.args.source.now in
    let answers = rw c.in-Err-Fault.field-0-is at c.in-Err-Fault.ensures in (
      [],
      subst (λ a. HuntEndsAs h h.sought bytes (Reported a) []) (sym c.in-Err-Fault.answer-is)
          (refused_as h bytes c.in-Err-Fault.answer answers),
      hears_none g.S.HuntObserver.Heard c.args.seeds.now,
    )
