use Rattle.std.proofs.Common.{ap, ◌∙◌, refl, arith, get_or}
use Rattle.pf_model.specs.Shrinking.{halved}
use Rattle.pf_shrink.specs.Rounds.{from_position}
use Rattle.pf_shrink.proofs.Rounds.{number_back, past_zero, all_past}
use Rattle.pf_shrink.proofs.round.halved_from.Goals as goal

pub loop-at-preserved : goal.loop-at-preserved
loop-at-preserved c = (
  c.loop-at.invariant.0,
  past_zero c.loop-at.at c.args.start c.loop-at.numbers (omega arith) c.if-number-gt0.false
      c.loop-at.invariant.1,
)

pub returns-then-number-gt0-clause-schedule : goal.returns-then-number-gt0-clause-schedule
returns-then-number-gt0-clause-schedule c =
    number_back c.loop-at.at _ (get_or c.loop-at.numbers c.loop-at.at 0) c.loop-at.numbers refl ∙ c.loop-at.invariant.0

pub returns-then-number-gt0-clause-left : goal.returns-then-number-gt0-clause-left
returns-then-number-gt0-clause-left c =
    ap (from_position halved c.loop-at.at) (number_back c.loop-at.at _ (get_or c.loop-at.numbers c.loop-at.at 0)
    c.loop-at.numbers refl)
    ∙ c.loop-at.invariant.1 ∙ ap (from_position halved c.args.start) c.loop-at.invariant.0

pub returns-clause-left : goal.returns-clause-left
returns-clause-left c =
    all_past c.loop-at.at c.args.start c.loop-at.numbers (omega arith) c.loop-at.invariant.1
    ∙ ap (from_position halved c.args.start) c.loop-at.invariant.0
