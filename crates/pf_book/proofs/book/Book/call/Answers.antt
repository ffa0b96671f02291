use Rattle.std.proofs.Common.{◌≡◌, nat_eq, position, Ok, None, refl, sym, ap, ◌∙◌, subst, rules, arith}
use Rattle.std.specs.Map.{keys_of}
use Rattle.std.proofs.lemmas.Result.{err_from_is_err_and}
use Rattle.indexmap.specs.IndexMap.{insert_entry}
use Rattle.pf_request.specs.View.{view_of_call}
use Rattle.pf_desks.specs.Desk.{Desk, no_desk}
use Rattle.pf_desks.specs.Desks.{Desks, desk_at, put_desk}
use Rattle.pf_book.specs.Answers.{DeskAnswers}
use Rattle.pf_book.specs.Kept.{modules_of, CountsAll}
use Rattle.pf_book.specs.Queues.{QueuesAll}
use Rattle.pf_book.proofs.Counts.{counts_one, counts_put}
use Rattle.pf_book.proofs.Placed.{desk_at_index, no_desk_at, put_insert, answers, answers_all, empty_room}
use Rattle.pf_book.proofs.Queued.{queues_put, queues_kept, running_within}
use Rattle.pf_book.proofs.Tickets.{put_tickets, same_all_tickets}
use Rattle.pf_book.proofs.book.Book.call.Goals as goal

-- ---- the project has a desk

pub call-reply-requires : goal.call-reply-requires
call-reply-requires c =
    let es = c.self.inside.desks.entries in
    let q = c.args.project in
    let d = c.index_mut.result.now in
    let at = desk_at_index q es es c.in-Some.index d (sym c.in-Some.ensures.index) c.index_mut.ensures.value refl in
    record {
      store = counts_one c.self.inside.store q es d at.here c.self.invariant.0;
      room = c.self.invariant.1.room;
      running = running_within q c.self.inside.queue es d at.here c.self.invariant.1;
    }

pub let_pass-requires : goal.let_pass-requires
let_pass-requires c =
    let es = c.self.inside.desks.entries in
    let q = c.args.project in
    let d = c.index_mut.result.now in
    let d' = c.call-reply.new.self in
    let at = desk_at_index q es es c.in-Some.index d (sym c.in-Some.ensures.index) c.index_mut.ensures.value refl in
    subst (QueuesAll c.call-reply.new.queue) (sym (at.put d'))
    (queues_put q c.self.inside.queue c.call-reply.new.queue es d d' at.here c.self.invariant.1
    c.call-reply.ensures.queue)

pub invariant_of-self : goal.invariant_of-self
invariant_of-self c =
    let es = c.self.inside.desks.entries in
    let q = c.args.project in
    let d = c.index_mut.result.now in
    let d' = c.call-reply.new.self in
    let at = desk_at_index q es es c.in-Some.index d (sym c.in-Some.ensures.index) c.index_mut.ensures.value refl in (
      subst (CountsAll c.call-reply.new.store) (sym (at.put d'))
          (counts_put c.self.inside.store c.call-reply.new.store q es d d' at.here c.self.invariant.0
          c.call-reply.ensures.store),
      c.let_pass.ensures.queue,
    )

pub invariant_of-self-else-drops : goal.invariant_of-self-else-drops
invariant_of-self-else-drops c =
    let es = c.self.inside.desks.entries in
    let q = c.args.project in
    let d = c.index_mut.result.now in
    let d' = c.call-reply.new.self in
    let at = desk_at_index q es es c.in-Some.index d (sym c.in-Some.ensures.index) c.index_mut.ensures.value refl in (
      subst (CountsAll c.call-reply.new.store) (sym (at.put d'))
          (counts_put c.self.inside.store c.call-reply.new.store q es d d' at.here c.self.invariant.0
          c.call-reply.ensures.store),
      subst (QueuesAll c.call-reply.new.queue) (sym (at.put d'))
          (queues_put q c.self.inside.queue c.call-reply.new.queue es d d' at.here c.self.invariant.1
          c.call-reply.ensures.queue),
    )

pub returns-then-drops-clause-answer : goal.returns-then-drops-clause-answer
returns-then-drops-clause-answer c =
    let q = c.args.project in
    let d = c.index_mut.result.now in
    let d' = c.call-reply.new.self in
    let at = desk_at_index q c.self.inside.desks.entries c.args.self.now c.in-Some.index d (sym c.in-Some.ensures.index)
    c.index_mut.ensures.value c.self.view_is in
    answers_all q c.args.self.now (view_of_call c.args.call) d d' at.here _ (at.put d') at.same c.call-reply.result
    c.call-reply.ensures.answer

pub returns-else-drops-clause-answer : goal.returns-else-drops-clause-answer
returns-else-drops-clause-answer c =
    let q = c.args.project in
    let d = c.index_mut.result.now in
    let d' = c.call-reply.new.self in
    let at = desk_at_index q c.self.inside.desks.entries c.args.self.now c.in-Some.index d (sym c.in-Some.ensures.index)
    c.index_mut.ensures.value c.self.view_is in
    answers_all q c.args.self.now (view_of_call c.args.call) d d' at.here _ (at.put d') at.same c.call-reply.result
    c.call-reply.ensures.answer

pub returns-then-drops-clause-tickets : goal.returns-then-drops-clause-tickets
returns-then-drops-clause-tickets c =
    let q = c.args.project in
    let d = c.index_mut.result.now in
    let d' = c.call-reply.new.self in
    let at = desk_at_index q c.self.inside.desks.entries c.args.self.now c.in-Some.index d (sym c.in-Some.ensures.index)
    c.index_mut.ensures.value c.self.view_is in
    put_tickets q c.args.self.now _ d d' at.here (at.put d') c.call-reply.ensures.tickets

pub returns-else-drops-clause-tickets : goal.returns-else-drops-clause-tickets
returns-else-drops-clause-tickets c =
    let q = c.args.project in
    let d = c.index_mut.result.now in
    let d' = c.call-reply.new.self in
    let at = desk_at_index q c.self.inside.desks.entries c.args.self.now c.in-Some.index d (sym c.in-Some.ensures.index)
    c.index_mut.ensures.value c.self.view_is in
    put_tickets q c.args.self.now _ d d' at.here (at.put d') c.call-reply.ensures.tickets

-- ---- it has none yet

pub returns-in_err-reserve-clause-answer : goal.returns-in_err-reserve-clause-answer
returns-in_err-reserve-clause-answer c =
    let es = c.self.inside.desks.entries in
    let q = c.args.project in
    let none : position (nat_eq q) (keys_of es) ≡ None = search rules in
    let seen = c.self.view_is in
    let here : desk_at q c.args.self.now ≡ no_desk = no_desk_at q es c.args.self.now none c.self.view_is in
    let p = err_from_is_err_and c.from_residual.result c.from_residual.ensures.1 in
    rw p.1 (empty_room q c.args.self.now here, c.reserve.ensures.entries ∙ seen)

pub returns-in_err-reply-clause-answer : goal.returns-in_err-reply-clause-answer
returns-in_err-reply-clause-answer c =
    let es = c.self.inside.desks.entries in
    let q = c.args.project in
    let none : position (nat_eq q) (keys_of es) ≡ None = search rules in
    let seen = c.self.view_is in
    let here : desk_at q c.args.self.now ≡ no_desk = no_desk_at q es c.args.self.now none c.self.view_is in
    let p = err_from_is_err_and c.from_residual-in_err-reply.result c.from_residual-in_err-reply.ensures.1 in
    rw p.1 (empty_room q c.args.self.now here, c.reserve.ensures.entries ∙ seen)

pub returns-in_err-reserve-clause-tickets : goal.returns-in_err-reserve-clause-tickets
returns-in_err-reserve-clause-tickets c =
    same_all_tickets c.args.self.now _ (c.reserve.ensures.entries ∙ c.self.view_is)

pub returns-in_err-reply-clause-tickets : goal.returns-in_err-reply-clause-tickets
returns-in_err-reply-clause-tickets c =
    same_all_tickets c.args.self.now _ (c.reserve.ensures.entries ∙ c.self.view_is)

pub invariant_of-self-2 : goal.invariant_of-self-2
invariant_of-self-2 c =
    let es = c.self.inside.desks.entries in
    let q = c.args.project in
    let none : position (nat_eq q) (keys_of es) ≡ None = search rules in
    let d' = c.call-2.new.self in
    let put =
    c.in_ok-insert.ensures.entries
    ∙ ap (λ (w : Desks). insert_entry nat_eq w q d') (c.reserve.ensures.entries)
    ∙ put_insert q es d' in
    let here : desk_at q es ≡ c.new-desk.result = no_desk_at q es es none refl ∙ sym c.new-desk.ensures in (
      subst (λ (w : Desks). CountsAll c.call-2.new.store w) (sym put)
          (counts_put c.self.inside.store c.call-2.new.store q es c.new-desk.result d' here c.self.invariant.0
          c.call-2.ensures.store),
      subst (λ (w : Desks). QueuesAll c.call-2.new.queue w) (sym put)
          (queues_put q c.self.inside.queue c.call-2.new.queue es c.new-desk.result d' here c.self.invariant.1
          c.call-2.ensures.queue),
    )

pub returns-clause-answer : goal.returns-clause-answer
returns-clause-answer c =
    let es = c.self.inside.desks.entries in
    let q = c.args.project in
    let none : position (nat_eq q) (keys_of es) ≡ None = search rules in
    let d' = c.call-2.new.self in
    let reply = c.in_ok-reply.reply in
    let seen = c.self.view_is in
    let here : desk_at q c.args.self.now ≡ no_desk = no_desk_at q es c.args.self.now none c.self.view_is in
    let put =
    c.in_ok-insert.ensures.entries
    ∙ ap (λ (w : Desks). insert_entry nat_eq w q d') (c.reserve.ensures.entries)
    ∙ put_insert q es d'
    ∙ ap (put_desk q d') seen in
    let made : DeskAnswers no_desk (view_of_call c.args.call) (Ok reply) d' =
    subst (λ (k : Desk). DeskAnswers k (view_of_call c.args.call) (Ok reply) d') c.new-desk.ensures
    c.in_ok-reply.ensures.answer in
    answers q c.args.self.now (view_of_call c.args.call) no_desk d' here _ put reply made

pub invariant_of-self-in_err-reply : goal.invariant_of-self-in_err-reply
invariant_of-self-in_err-reply c =
    let es = c.self.inside.desks.entries in
    let q = c.args.project in
    let none : position (nat_eq q) (keys_of es) ≡ None = search rules in
    let d = c.new-desk.result in
    let d' = c.call-2.new.self in
    let entries : c.reserve.new.self.entries ≡ es = c.reserve.ensures.entries in
    let here : desk_at q es ≡ d = no_desk_at q es es none refl ∙ sym c.new-desk.ensures in
    let stays : d' ≡ d = c.in_err-reply.ensures.answer.1 in
    let counts : CountsAll c.call-2.new.store es =
    λ source. omega (arith, c.self.invariant.0 source, c.call-2.ensures.store source, ap (modules_of source) stays) in (
      subst (λ (w : Desks). CountsAll c.call-2.new.store w) (sym entries) counts,
      subst (λ (w : Desks). QueuesAll c.call-2.new.queue w) (sym entries)
          (queues_kept q c.self.inside.queue c.call-2.new.queue es d d' here stays c.self.invariant.1
          c.call-2.ensures.queue),
    )

pub returns-clause-tickets : goal.returns-clause-tickets
returns-clause-tickets c =
    let es = c.self.inside.desks.entries in
    let q = c.args.project in
    let none : position (nat_eq q) (keys_of es) ≡ None = search rules in
    let d' = c.call-2.new.self in
    let put =
    c.in_ok-insert.ensures.entries
    ∙ ap (λ (w : Desks). insert_entry nat_eq w q d') (c.reserve.ensures.entries)
    ∙ put_insert q es d'
    ∙ ap (put_desk q d') c.self.view_is in
    let here : desk_at q c.args.self.now ≡ c.new-desk.result = no_desk_at q es c.args.self.now none c.self.view_is
    ∙ sym c.new-desk.ensures in
    put_tickets q c.args.self.now _ c.new-desk.result d' here put c.call-2.ensures.tickets
