use Rattle.std.proofs.Common.{[], refl, inr, arith}
use Rattle.std.proofs.KnownBytes.{Consumes-nil}
use Rattle.pf_words.proofs.Ends.{handed_on, steps_end}
use Rattle.pf_words.proofs.steps.answer_commands.Goals as goal

pub returns-in_err-keys-clause-ended : goal.returns-in_err-keys-clause-ended
returns-in_err-keys-clause-ended g c = handed_on _ _ c.from_residual.result c.in_err-keys.field-0.0
    c.from_residual.ensures (inr refl)

pub returns-in_err-keys-clause-taken : goal.returns-in_err-keys-clause-taken
returns-in_err-keys-clause-taken g c = ([], omega arith, Consumes-nil _)

pub returns-clause-ended : goal.returns-clause-ended
returns-clause-ended g c =
    steps_end _ _ _ _ _ _ _ _ c.run_steps.result c.run_steps.ensures.answered c.run_steps.ensures.counts
    c.run_steps.ensures.fault
