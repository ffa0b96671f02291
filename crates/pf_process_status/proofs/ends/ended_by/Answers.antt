use Rattle.std.proofs.Common.{sym, ◌∙◌}
use Rattle.pf_process_status.proofs.Struck.{struck_by}
use Rattle.pf_process_status.proofs.ends.ended_by.Goals as goal

pub returns-then-is_struck-clause-how : goal.returns-then-is_struck-clause-how
returns-then-is_struck-clause-how c e actor label =
    let s = struck_by _ (sym c.is_struck.ensures ∙ c.if-is_struck.true) in (actor, (s.0, s.1, label ∙ s.2))
