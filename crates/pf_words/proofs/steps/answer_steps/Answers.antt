use Rattle.pf_words.proofs.Ends.{handed_on}
use Rattle.pf_words.proofs.steps.answer_steps.Goals as goal

pub returns-in_err-status-clause-ended : goal.returns-in_err-status-clause-ended
returns-in_err-status-clause-ended g c =
    handed_on _ _ c.from_residual.result c.in_err-status.field-0.0 c.from_residual.ensures
    c.in_err-status.ensures.ended
