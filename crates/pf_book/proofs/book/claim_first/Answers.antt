use Rattle.std.proofs.Common.{Option, Some, Ok, subst}
use Rattle.std.specs.declared.alloc.Global.{Global}
use Rattle.std.specs.declared.sync.Arc.{Arc}
use Rattle.pf_request.specs.Job.{Job}
use Rattle.pf_book.specs.Answers.{ClaimsAt}
use Rattle.pf_book.proofs.Claims.{queues_first_claimed}
use Rattle.pf_book.proofs.book.claim_first.Goals as goal

pub returns-in-Ok-Some-clause-queue : goal.returns-in-Ok-Some-clause-queue
returns-in-Ok-Some-clause-queue c =
    let l = c.loop-project in
    let q = c.in-Some.project in
    let t = c.in-Some.ticket in
    let w' = c.claim_in.new.desks.entries in
    let claims : ClaimsAt l.desks.entries q t (Ok (Some c.in-Ok-Some.job)) w' =
    subst (λ (o : Option (Arc Job Global)). ClaimsAt l.desks.entries q t (Ok o) w') c.in-Ok-Some.field-0-is
    c.in-Ok-Some.ensures in
    queues_first_claimed q t l.queue c.begin.new.self c.pop_front.new.self.items l.desks.entries w' c.in-Ok-Some.job
    claims l.invariant.waits c.in-Some.ensures.items c.begin.ensures.waiting c.begin.ensures.running
    c.begin.ensures.room
