use Rattle.std.proofs.Common.{◌≡◌, ◌+◌, ◌-◌, ◌≤◌, length, sym, subst, arith}
use Rattle.std.proofs.lemmas.Result.{IfOk-weaker}
use Rattle.pf_model.specs.Meaning.{schedule}
use Rattle.pf_model.specs.Shrinking.{is_failure}
use Rattle.pf_sched.specs.Choosing.{choices}
use Rattle.pf_sched.specs.Parts.{events_in, events_so_far}
use Rattle.pf_sched.specs.Slices.{runs_left}
use Rattle.pf_sched.proofs.Asking.{within_bounds}
use Rattle.pf_sched.proofs.Hunted.{few_before}
use Rattle.pf_sched.proofs.Reported.{with_choices}
use Rattle.pf_sched.proofs.SoFar.{few_so_far}
use Rattle.pf_sched.proofs.Shrunk.{fewer_runs, follows_so, hunt_goes_on, report_goes_on}
use Rattle.pf_sched.proofs.shrinking.Shrinking.follow.Goals as goal

pub overflow_add-after : goal.overflow_add-after
overflow_add-after c =
    let j = c.args.job.now in
    let s = c.args.self in
    let x = c.requires.shrinking in
    let bounds = within_bounds j c.requires.valid in
    let made = few_before j c.requires.valid s.hunt s.before x.hunt in
    let events = few_so_far x.run.run.run in
    omega (arith, made, events, bounds.0, c.len.ensures)

pub begin-requires-clause-hunt : goal.begin-requires-clause-hunt
begin-requires-clause-hunt c =
    let s = c.args.self in
    let x = c.requires.shrinking in
    let reported = c.in_ok-ended.ensures (choices (schedule x.next)) x.run c.requires.over in
    let count : s.before + c.len.result ≡ s.before + length (events_in s.run) = omega (arith, c.len.ensures) in
    hunt_goes_on c.args.job.now s x c.in_ok-ended.ended
    (with_choices c.args.job.now.asked (schedule x.next) _ reported.0.0)
    reported.1 c.notify-kept.new.hunt c.notify-kept.ensures.reported (s.before + c.len.result) count

pub begin-requires-clause-report : goal.begin-requires-clause-report
begin-requires-clause-report c =
    let s = c.args.self in
    let x = c.requires.shrinking in
    let reported = c.in_ok-ended.ensures (choices (schedule x.next)) x.run c.requires.over in
    report_goes_on c.args.job.now s x c.in_ok-ended.ended
    (with_choices c.args.job.now.asked (schedule x.next) _ reported.0.0) reported.0.1 c.notify-kept.new.hunt
    c.notify-kept.ensures.reported c.notify-kept.result c.notify-kept.ensures.kept

pub returns : goal.returns
returns c =
    let s = c.args.self in
    let x = c.requires.shrinking in
    let count : s.before + c.len.result ≡ s.before + length (events_in s.run) = omega (arith, c.len.ensures) in
    let fewer = fewer_runs s.hunt x.next x.is_next (is_failure c.in_ok-ended.ended.verdict) in
    let left : runs_left c.notify-kept.new.hunt ≤ runs_left s.hunt - 1 = subst (λ h. runs_left h ≤ runs_left s.hunt - 1)
    (sym c.notify-kept.ensures.reported) fewer in
    IfOk-weaker _ _ _ (follows_so c.args.job.now (s.before + c.len.result) (events_so_far s)
    (runs_left c.notify-kept.new.hunt) (runs_left s.hunt - 1) count left) c.begin.ensures
