use Rattle.std.proofs.Common.{◌≡◌, subst}
use Rattle.std.specs.Prelude.{IfOk, codes}
use Rattle.std.proofs.lemmas.Result.{IfOk-weaker}
use Rattle.pf_model.specs.TermText.{line}
use Rattle.pf_command.specs.Checks.{Checks, IsCheckRefused}
use Rattle.pf_command.proofs.Rows.{row_module, row_check_refused}
use Rattle.pf_command.proofs.check.answer_check.Goals as goal

pub returns-in-Ok : goal.returns-in-Ok
returns-in-Ok c =
    let bytes = c.args.source.now in
    IfOk-weaker c.accepted.result (λ a. (a.text.items ≡ line (codes "ok")) × (a.status ≡ 0))
    (λ a. Checks c.args.explain bytes a.text.items a.status)
    (λ a is. row_module c.args.explain c.in-Ok.field-0.now bytes a.text.items a.status c.in-Ok.ensures.1 is.0 is.1)
    c.accepted.ensures

pub returns-in-Err : goal.returns-in-Err
returns-in-Err c =
    let refusal = c.in-Err.refusal in
    let bytes = c.args.source.now in
    let refuse = subst (λ b. IfOk c.refuse.result (IsCheckRefused c.args.explain b refusal.code refusal.offset))
    c.bytes.ensures c.refuse.ensures in
    IfOk-weaker c.refuse.result (IsCheckRefused c.args.explain bytes refusal.code refusal.offset)
    (λ a. Checks c.args.explain bytes a.text.items a.status)
    (λ a is. row_check_refused c.args.explain bytes a.text.items is.0 a.status refusal.code refusal.offset
    c.in-Err.ensures is.1 is.2 is.3) refuse
