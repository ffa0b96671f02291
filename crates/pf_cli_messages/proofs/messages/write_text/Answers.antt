use Rattle.std.proofs.Common.{inl, inr, refl}
use Rattle.pf_cli_messages.proofs.Texts.{counts_write}
use Rattle.pf_cli_messages.proofs.messages.write_text.Goals as goal

pub returns-in-Ok : goal.returns-in-Ok
returns-in-Ok g c = inl (_, refl, c.in-Ok.ensures.written, c.in-Ok.ensures.kept)

pub returns-in-Err : goal.returns-in-Err
returns-in-Err g c = inr (c.failed.ensures, counts_write _ _ _ c.in-Err.ensures.counted)
