use Rattle.std.proofs.Common.{◌≡◌, ◌+◌, suc, sym, ap, ◌∙◌, subst, arith}
use Rattle.std.specs.Prelude.{IfSome, get_or, option_map}
use Rattle.pf_model.specs.Reports.{view_of_event}
use Rattle.pf_process_status.specs.Fates.{EndsSo}
use Rattle.pf_process_status.specs.Known.{events_of}
use Rattle.pf_process_status.specs.Put.{ReportsEnds}
use Rattle.pf_process_status.specs.declared.ends.EndedProcess.{EndedProcess}
use Rattle.pf_process_status.proofs.Following.{event_in}
use Rattle.pf_process_status.proofs.Putting.{none_ended, one_ended}
use Rattle.pf_process_status.proofs.processes.put_ends.Goals as goal
use Rattle.pf_process_status.proofs.processes.put_ends.Goals.{in-Some, in_default}

pub loop-event-preserved : goal.loop-event-preserved
loop-event-preserved c =
    let k = c.args.run.now in
    let es = events_of k in
    let l = c.loop-event in
    let i = l.event in
    let item = c.index-run-event.result in
    let e = view_of_event (get_or k.events.now i item) in
    let at = event_in k.events.now i item c.loop-event-test.true in
    let xs = c.args.standings.now.items in
    let ys = l.standings.items in
    let number : suc i ≡ i + 1 = omega arith in
    subst (λ n. ReportsEnds es n xs c.match-ended_in.standings.items) number
    (elim c.match-ended_in.branch [
      | in-Some w ↦ (
          let x = w.in-Some.ended in
          let who = sym c.ended_in.ensures.who ∙ ap (option_map (λ (y : EndedProcess). y.pid)) w.in-Some.is in
          let how = subst (λ o. IfSome o (λ y. EndsSo y.pid y.end e)) w.in-Some.is c.ended_in.ensures.how in
          let has = w.fate_by.ensures es (e, at, how) in
          let put = one_ended es i e at xs ys l.invariant w.put_fate.new.standings.items x.pid w.fate_by.result who has
          w.put_fate.ensures in
          subst (λ v. ReportsEnds es (suc i) xs v.items) (sym w.standings-is) put)
      | in_default w ↦ (
          let who = sym c.ended_in.ensures.who ∙ ap (option_map (λ (y : EndedProcess). y.pid)) w.in_default.is in
          subst (λ v. ReportsEnds es (suc i) xs v.items) (sym w.standings-is)
          (none_ended es i e at xs ys l.invariant who))
    ])
