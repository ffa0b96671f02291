use Rattle.std.proofs.lemmas.Result.{IfOk-weaker}
use Rattle.std.specs.Prelude.{ℕ, List}
use Rattle.pf_cli_messages.specs.Reasons.{IsReason}
use Rattle.pf_cli_messages.proofs.finding.find_reason.Goals as goal

pub returns-in-Ok : goal.returns-in-Ok
returns-in-Ok c =
    IfOk-weaker c.reason_of_module.result (λ r. (bytes : List ℕ) → IsReason bytes r) (IsReason c.args.source.now)
    (λ r is. is c.args.source.now)
    c.reason_of_module.ensures
