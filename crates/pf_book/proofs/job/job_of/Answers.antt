use Rattle.std.proofs.Common.{rules, ◌≡◌, Some, Ok, Err, sym, subst}
use Rattle.pf_errors.specs.declared.code.Code.{Code}
use Rattle.pf_request.specs.Job.{Job}
use Rattle.pf_request.specs.View.{view_of_request}
use Rattle.pf_desks.specs.Desk.{held_at}
use Rattle.pf_sched.specs.Asked.{Asks, IsRefusal}
use Rattle.pf_sched.specs.Views as job
use Rattle.pf_book.specs.Orders.{OrderAsksFor}
use Rattle.pf_book.specs.View.{code_of}
use Rattle.pf_book.proofs.Profiles.{order_asks}
use Rattle.pf_book.proofs.job.job_of.Goals as goal

pub returns-in_ok-new-in-Ok-clause-asked : goal.returns-in_ok-new-in-Ok-clause-asked
returns-in_ok-new-in-Ok-clause-asked c =
    let m = c.in_ok-share.field-0 in
    let e = c.args.edition in
    let r = view_of_request c.args.order.now.request in
    let found : held_at c.args.modules.now c.args.order.now.module ≡ Some m = search rules in
    let asks : Asks m e r (Ok c.in_ok-new-in-Ok.field-0.value) =
    subst (λ (j : Job). Asks m e r (Ok j)) (sym c.in_ok-new-in-Ok.ensures.ok) c.in-Ok.ensures in
    order_asks e c.args.modules.now c.args.order.now m _ found asks

pub returns-in-Err-Fault-clause-asked : goal.returns-in-Err-Fault-clause-asked
returns-in-Err-Fault-clause-asked c =
    let m = c.in_ok-share.field-0 in
    let e = c.args.edition in
    let r = view_of_request c.args.order.now.request in
    let found : held_at c.args.modules.now c.args.order.now.module ≡ Some m = search rules in
    let asks : Asks m e r (Err (job.code_of c.in-Err-Fault.refusal)) =
    subst (IsRefusal (Asks m e r)) c.in-Err-Fault.field-0-is c.in-Err-Fault.ensures in
    let same : code_of c.from.result ≡ job.code_of c.in-Err-Fault.refusal = search rules in
    subst (λ (x : Code). OrderAsksFor e c.args.modules.now c.args.order.now (Err x)) (sym same)
    (order_asks e c.args.modules.now c.args.order.now m _ found asks)
