use Rattle.std.proofs.Common.{◌≡◌, ◌+◌, ◌++◌, ◌∷◌, [], suc, sym, ap, ◌∙◌, subst, arith}
use Rattle.pf_model.specs.Reports.{view_of_event, label_of}
use Rattle.pf_process_status.specs.Followed.{HasGone}
use Rattle.pf_process_status.proofs.Following.{At, at_start, event_at, followed, none_began, not_stopped, one_began}
use Rattle.pf_process_status.proofs.Following.{root_of, is_there}
use Rattle.pf_process_status.proofs.follow.Followed.go_through.Goals as goal
use Rattle.pf_process_status.proofs.follow.Followed.go_through.Goals.{in-Some+in_ok-push-2, in_default}

pub loop-event-init : goal.loop-event-init
loop-event-init c d h =
    at_start c.args.run.now d h c.args.self.now.system c.push.new.self.items c.requires.system
    (c.in_ok-push.ensures.items ∙ ap (λ fs. fs ++ root_of c.args.run.now ∷ []) c.requires.none)

pub returns-then-not-branch : goal.returns-then-not-branch
returns-then-not-branch c d h =
    let k = c.args.run.now in
    let l = c.loop-event in
    let a = l.invariant d h in
    let at = event_at k.events.now l.event-index c.event-item.result c.loop-event-test.true c.event-item.is in
    let went = c.in_ok-go.ensures a.here a.is_there in
    absurd (not_stopped k d h l.event-index l.self.system l.self.begun.items a (view_of_event c.event-item.result) at
    (label_of c.go.new.shown) c.go.new.system
    (subst (λ o. HasGone k.limit c.event-item.result.choice a.here l.self.system (label_of c.go.new.shown)
    c.go.new.system o) c.if-not-branch.true went))

pub loop-event-preserved : goal.loop-event-preserved
loop-event-preserved c d h =
    let k = c.args.run.now in
    let l = c.loop-event in
    let i = l.event-index in
    let fs = l.self.begun.items in
    let a = l.invariant d h in
    let e = view_of_event c.event-item.result in
    let shown = label_of c.go.new.shown in
    let at = event_at k.events.now i c.event-item.result c.loop-event-test.true c.event-item.is in
    let went =
    subst (λ o. HasGone k.limit c.event-item.result.choice a.here l.self.system shown c.go.new.system o)
    c.if-not-branch.false
    (c.in_ok-go.ensures a.here a.is_there) in
    let number : suc i ≡ i + 1 = omega arith in
    subst (λ n. At k d h n c.match-begun_in.self.system c.match-begun_in.self.begun.items) number
    (elim c.match-begun_in.branch [
      | in-Some+in_ok-push-2 w ↦ (
          let began = sym c.begun_in.ensures ∙ w.in-Some.is in
          let calls = w.called-function.ensures _
          (is_there k d h i l.self.system fs a e at shown c.go.new.system went) in
          let there = one_began k d h i l.self.system fs a e at shown c.go.new.system went w.in-Some.pid
          w.called-function.result began calls in
          subst (λ f. At k d h (suc i) f.system f.begun.items) (sym w.self-is)
          (subst (At k d h (suc i) c.go.new.system) (sym w.in_ok-push-2.ensures.items) there))
      | in_default w ↦ (
          let none = none_began k d h i l.self.system fs a e at shown c.go.new.system went
          (sym c.begun_in.ensures ∙ w.in_default.is) in
          subst (λ f. At k d h (suc i) f.system f.begun.items) (sym w.self-is) none)
    ])

pub returns : goal.returns
returns c d h =
    let l = c.loop-event in
    followed c.args.run.now d h l.event-index l.self (l.invariant d h) (omega arith) (omega arith)
