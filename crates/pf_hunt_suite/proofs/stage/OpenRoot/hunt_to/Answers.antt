use Rattle.std.proofs.Common.{◌≡◌, ◌<◌, sym, subst, arith}
use Rattle.std.specs.Prelude.{option_map}
use Rattle.pf_hunt.specs.Hunts.{SearchedTo}
use Rattle.pf_hunt.specs.Notices.{CutNotices, HearsSome, SearchNotices, has_none}
use Rattle.pf_hunt.specs.Views.{failure_of}
use Rattle.pf_hunt.proofs.Hearing.{hears_weaker}
use Rattle.pf_hunt.proofs.Stopping.{no_further}
use Rattle.pf_hunt_suite.specs.Stages.{PartNotices, asked_of, next_of}
use Rattle.pf_hunt_suite.proofs.Ended.{at_err, goes_past, so_if_some}
use Rattle.pf_hunt_suite.proofs.stage.OpenRoot.hunt_to.Goals as goal

pub returns-clause-stage : goal.returns-clause-stage
returns-clause-stage g c h known =
    let o = c.args.self in
    let s = c.in_ok-searched.searched in
    let end = c.part_end-end.result in
    let may = c.args.may_stop in
    let found = c.in_ok-searched.ensures in
    let left : o.next < o.hunted.args.now.end = rw known.hunted known.left in
    let past = goes_past may o.next end s.end found.reach (c.part_end-end.ensures.past left) in
    let within = no_further may o.next end s.end found.reach in
    c.after.ensures.stage h known found.known.failure past
    (rw (sym known.hunted) (omega (arith, within, c.part_end-end.ensures.within)))

pub returns-clause-reach : goal.returns-clause-reach
returns-clause-reach g c =
    let o = c.args.self in
    let s = c.in_ok-searched.searched in
    so_if_some (next_of c.after.result) (SearchedTo c.args.may_stop o.next _) s.end c.after.ensures.next
    (subst (λ b. SearchedTo c.args.may_stop o.next b s.end) c.part_end-end.ensures.end c.in_ok-searched.ensures.reach)

pub returns-clause-heard : goal.returns-clause-heard
returns-clause-heard g c =
    let o = c.args.self in
    let s = c.in_ok-searched.searched in
    let x = option_map failure_of s.failure in
    let found = c.in_ok-searched.ensures in
    let w = o.hunt.strategy in
    let j = o.hunt.job.asked in
    let may = c.args.may_stop in
    subst (λ b. HearsSome g.O.HuntObserver.Heard c.args.observer.now (PartNotices o may b) c.first_failing.new.observer)
    c.part_end-end.ensures.end
    (hears_weaker g.O.HuntObserver.Heard (SearchNotices w j may o.next c.part_end-end.result s.end x)
    (PartNotices o may c.part_end-end.result)
    c.args.observer.now c.first_failing.new.observer
    (λ ns reported. (s.end, x, found.known.failure, reported)) found.heard)

pub returns-in_err-searched-clause-cut : goal.returns-in_err-searched-clause-cut
returns-in_err-searched-clause-cut g c =
    let o = c.args.self in
    at_err c.from_residual.result
    (subst
    (λ b. HearsSome g.O.HuntObserver.Heard c.args.observer.now (CutNotices has_none c.args.may_stop o.next b)
    c.first_failing.new.observer)
    c.part_end-end.ensures.end c.in_err-searched.ensures.cut)
