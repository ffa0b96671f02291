use Rattle.std.proofs.Common.{true, false, Bool, refl, sym, subst, arith}
use Rattle.pf_desks.specs.Desk.{Desk, no_desk}
use Rattle.pf_desks.specs.Jobs.{KeepsTickets}
use Rattle.pf_book.specs.Answers.{DeskFiles}
use Rattle.pf_book.specs.Kept.{CountsAll}
use Rattle.pf_book.specs.Queues.{FollowsQueue, HoldsRoom, QueuesAll}
use Rattle.pf_book.proofs.Counts.{counts_kept}
use Rattle.pf_book.proofs.Placed.{desk_at_index, no_desk_at, files, no_file, none_running, own_job_at}
use Rattle.pf_book.proofs.Queued.{file_followed, queue_kept, queues_put, running_within}
use Rattle.pf_book.proofs.Worked.{some_run}
use Rattle.pf_book.proofs.Tickets.{file_tickets, put_tickets, same_all_tickets, same_tickets}
use Rattle.pf_book.proofs.book.Book.file.Goals as goal

pub returns-in_default-clause-file : goal.returns-in_default-clause-file
returns-in_default-clause-file c =
    let q = c.args.project in
    let here = no_desk_at q c.self.inside.desks.entries c.args.self.now (sym c.in_default.ensures.index)
    c.self.view_is in
    no_file q c.args.self.now c.args.ticket no_desk here c.args.finished (none_running c.args.ticket) _ refl

pub end-requires : goal.end-requires
end-requires c =
    let es = c.self.inside.desks.entries in
    let q = c.args.project in
    let d = c.index_mut.result.now in
    let at = desk_at_index q es es c.in-Some.index d (sym c.in-Some.ensures.index) c.index_mut.ensures.value refl in
    let filed : DeskFiles d c.args.ticket c.args.finished true c.file-filed.new.self =
    subst (λ (b : Bool). DeskFiles d c.args.ticket c.args.finished b c.file-filed.new.self) c.if-filed.true
    c.file-filed.ensures.file in
    omega (
      arith,
      some_run d.trials c.args.ticket filed.0,
      running_within q c.self.inside.queue es d at.here c.self.invariant.1,
    )

pub invariant_of-self : goal.invariant_of-self
invariant_of-self c =
    let es = c.self.inside.desks.entries in
    let q = c.args.project in
    let t = c.args.ticket in
    let f = c.args.finished in
    let k = c.self.inside.queue in
    let k' = c.end.new.self in
    let d = c.index_mut.result.now in
    let d' = c.file-filed.new.self in
    let at = desk_at_index q es es c.in-Some.index d (sym c.in-Some.ensures.index) c.index_mut.ensures.value refl in
    let filed : DeskFiles d t f true d' = subst (λ (b : Bool). DeskFiles d t f b d') c.if-filed.true
    c.file-filed.ensures.file in
    let room : HoldsRoom k' 0 = omega (arith, c.end.ensures.room c.self.invariant.1.room) in
    let follows : FollowsQueue q k d k' d' =
    subst (λ (x : Desk). FollowsQueue q k d k' x) (sym filed.1)
    (file_followed q k k' d t f.result filed.0 c.end.ensures.waiting c.end.ensures.running room) in (
      subst (CountsAll c.self.inside.store) (sym (at.put d'))
          (counts_kept c.self.inside.store q es d d' at.here c.self.invariant.0 c.file-filed.ensures.modules),
      subst (QueuesAll k') (sym (at.put d')) (queues_put q k k' es d d' at.here c.self.invariant.1 follows),
    )

pub invariant_of-self-else-filed : goal.invariant_of-self-else-filed
invariant_of-self-else-filed c =
    let es = c.self.inside.desks.entries in
    let q = c.args.project in
    let t = c.args.ticket in
    let f = c.args.finished in
    let k = c.self.inside.queue in
    let d = c.index_mut.result.now in
    let d' = c.file-filed.new.self in
    let at = desk_at_index q es es c.in-Some.index d (sym c.in-Some.ensures.index) c.index_mut.ensures.value refl in
    let stray : DeskFiles d t f false d' = subst (λ (b : Bool). DeskFiles d t f b d') c.if-filed.false
    c.file-filed.ensures.file in (
      subst (CountsAll c.self.inside.store) (sym (at.put d'))
          (counts_kept c.self.inside.store q es d d' at.here c.self.invariant.0 c.file-filed.ensures.modules),
      subst (QueuesAll k) (sym (at.put d')) (queues_put q k k es d d' at.here c.self.invariant.1
          (queue_kept q k k d d' refl refl c.self.invariant.1.room stray.1)),
    )

pub returns-then-filed-clause-file : goal.returns-then-filed-clause-file
returns-then-filed-clause-file c =
    let q = c.args.project in
    let d = c.index_mut.result.now in
    let d' = c.file-filed.new.self in
    let at = desk_at_index q c.self.inside.desks.entries c.args.self.now c.in-Some.index d (sym c.in-Some.ensures.index)
    c.index_mut.ensures.value c.self.view_is in
    files q c.args.self.now c.args.ticket c.args.finished d d' at.here _ (at.put d') at.same c.file-filed.result
    c.file-filed.ensures.file

pub returns-else-filed-clause-file : goal.returns-else-filed-clause-file
returns-else-filed-clause-file c =
    let q = c.args.project in
    let d = c.index_mut.result.now in
    let d' = c.file-filed.new.self in
    let at = desk_at_index q c.self.inside.desks.entries c.args.self.now c.in-Some.index d (sym c.in-Some.ensures.index)
    c.index_mut.ensures.value c.self.view_is in
    files q c.args.self.now c.args.ticket c.args.finished d d' at.here _ (at.put d') at.same c.file-filed.result
    c.file-filed.ensures.file

pub returns-in_default-clause-tickets : goal.returns-in_default-clause-tickets
returns-in_default-clause-tickets c = same_all_tickets c.args.self.now _ refl

pub returns-then-filed-clause-tickets : goal.returns-then-filed-clause-tickets
returns-then-filed-clause-tickets c =
    let q = c.args.project in
    let d = c.index_mut.result.now in
    let d' = c.file-filed.new.self in
    let at = desk_at_index q c.self.inside.desks.entries c.args.self.now c.in-Some.index d (sym c.in-Some.ensures.index)
    c.index_mut.ensures.value c.self.view_is in
    let filed : DeskFiles d c.args.ticket c.args.finished true d' =
    subst (λ (b : Bool). DeskFiles d c.args.ticket c.args.finished b d') c.if-filed.true c.file-filed.ensures.file in
    let keeps : KeepsTickets d d' = subst (KeepsTickets d) (sym filed.1)
    (file_tickets d c.args.ticket c.args.finished.result) in
    put_tickets q c.args.self.now _ d d' at.here (at.put d') keeps

pub returns-else-filed-clause-tickets : goal.returns-else-filed-clause-tickets
returns-else-filed-clause-tickets c =
    let q = c.args.project in
    let d = c.index_mut.result.now in
    let d' = c.file-filed.new.self in
    let at = desk_at_index q c.self.inside.desks.entries c.args.self.now c.in-Some.index d (sym c.in-Some.ensures.index)
    c.index_mut.ensures.value c.self.view_is in
    let stray : DeskFiles d c.args.ticket c.args.finished false d' =
    subst (λ (b : Bool). DeskFiles d c.args.ticket c.args.finished b d') c.if-filed.false c.file-filed.ensures.file in
    put_tickets q c.args.self.now _ d d' at.here (at.put d') (same_tickets d d' stray.1)

pub returns-then-filed-clause-own : goal.returns-then-filed-clause-own
returns-then-filed-clause-own c =
    let q = c.args.project in
    let d = c.index_mut.result.now in
    let at = desk_at_index q c.self.inside.desks.entries c.args.self.now c.in-Some.index d (sym c.in-Some.ensures.index)
    c.index_mut.ensures.value c.self.view_is in
    own_job_at q c.args.self.now c.args.ticket c.args.finished.job d at.here c.file-filed.result
    c.file-filed.ensures.own

pub returns-else-filed-clause-own : goal.returns-else-filed-clause-own
returns-else-filed-clause-own c =
    let q = c.args.project in
    let d = c.index_mut.result.now in
    let at = desk_at_index q c.self.inside.desks.entries c.args.self.now c.in-Some.index d (sym c.in-Some.ensures.index)
    c.index_mut.ensures.value c.self.view_is in
    own_job_at q c.args.self.now c.args.ticket c.args.finished.job d at.here c.file-filed.result
    c.file-filed.ensures.own
