use Rattle.std.proofs.Common.{◌∙◌}
use Rattle.pf_command.proofs.Adding.{adds_next, at_fault, front_next}
use Rattle.pf_command.proofs.ending.add_others.Goals as goal

pub returns-in_err-add_choice-clause-front : goal.returns-in_err-add_choice-clause-front
returns-in_err-add_choice-clause-front g c =
    let l = c.loop-event in
    at_fault c.from_residual.result
    (front_next c.args.events.now l.event-index c.event-item.result c.loop-event-test.true c.event-item.is
    c.args.waiting.now.items l.waiting.items _ _ _ l.invariant.added
    c.in_err-add_choice.ensures.front)

pub loop-event-preserved : goal.loop-event-preserved
loop-event-preserved g c =
    let l = c.loop-event in
    record {
      added =
          adds_next c.args.events.now l.event-index c.event-item.result c.loop-event-test.true c.event-item.is
          c.args.waiting.now.items l.waiting.items
          c.add_choice.new.waiting.items _ _ _ l.invariant.added c.in_ok-add_choice.ensures.added;
      kept = c.in_ok-add_choice.ensures.kept ∙ l.invariant.kept;
    }
