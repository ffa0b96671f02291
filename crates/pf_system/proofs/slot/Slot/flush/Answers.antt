use Rattle.std.proofs.Common.{refl, ap, ◌∙◌}
use Rattle.pf_model.specs.Flush.{flushed}
use Rattle.pf_system.proofs.slot.Slot.flush.Goals as goal

pub returns : goal.returns
returns c =
    record {
      keeps = record { life = refl; ahead = λ k h. c.flush-reported.ensures.ahead k };
      mail = ap (λ z. z.messages) c.flush-reported.ensures.flushed ∙ ap (λ z. flushed c.args.reference z.messages)
          c.reset_mark.ensures.unmarked;
    }
