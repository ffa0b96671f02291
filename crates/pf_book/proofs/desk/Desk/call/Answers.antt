use Rattle.std.proofs.Common.{sym, arith, ◌+◌, ◌-◌, ◌≤◌, length, Option, rules, ◌≡◌, List, [], ◌∷◌, ◌++◌, map, None, Ok}
use Rattle.std.proofs.Common.{refl, ap, ◌∙◌, subst}
use Rattle.std.proofs.lemmas.List.{map_push}
use Rattle.pf_quota.specs.declared.charges.Charge.TheVariants as charge
use Rattle.pf_quota.specs.Checks.{refusal_of}
use Rattle.pf_request.specs.View.{view_of_call}
use Rattle.pf_desks.specs.Desk as desk
use Rattle.pf_desks.specs.Desk.{Desk, Trial, called}
use Rattle.pf_desks.specs.Calls.{HasRoom}
use Rattle.pf_desks.specs.Jobs.{KeepsTickets}
use Rattle.pf_book.specs.Answers.{DeskAnswers}
use Rattle.pf_book.specs.Kept.{desk_in}
use Rattle.pf_book.specs.Plans.{with_change, IsPlan}
use Rattle.pf_book.specs.Queues.{trials_dropped_by, lined_up, FollowsQueue}
use Rattle.pf_book.specs.Running.{running_in}
use Rattle.pf_book.specs.Users.{holding}
use Rattle.pf_book.specs.View.{view_of_reply, view_of_entry}
use Rattle.pf_book.specs.declared.entry.Entry.{Entry}
use Rattle.pf_book.proofs.Called.{has_room, changed_desk, called_answers, called_valid}
use Rattle.pf_book.proofs.Tickets.{change_tickets}
use Rattle.pf_book.proofs.Queued.{change_followed, ended_within}
use Rattle.pf_book.proofs.desk.Desk.call.Goals as goal

pub follow-requires-clause-ended : goal.follow-requires-clause-ended
follow-requires-clause-ended c =
    let d = desk_in c.self.inside in
    let plan = c.in_ok-change.field-0 in
    let ends : c.ended_by-ended.result ≡ trials_dropped_by d.trials plan.change =
    c.ended_by-ended.ensures ∙ ap (λ (l : List (Option Trial)). trials_dropped_by l plan.change)
    (c.deref.ensures.value ∙ c.make_call_room.ensures.trials) in
    omega (
      arith,
      ends,
      ended_within d plan.change,
      c.requires.running,
      ap running_in c.self.view_is,
      c.make_room.ensures.running,
    )

pub overflow_sub-self : goal.overflow_sub-self
overflow_sub-self c =
    let b = c.self.inside in
    let d = desk_in b in
    let plan = c.in_ok-change.field-0 in
    let ran : b.running ≡ running_in d = c.self.invariant.running in
    let ends : c.ended_by-ended.result ≡ trials_dropped_by d.trials plan.change =
    c.ended_by-ended.ensures ∙ ap (λ (l : List (Option Trial)). trials_dropped_by l plan.change)
    (c.deref.ensures.value ∙ c.make_call_room.ensures.trials) in
    omega (arith, ran, ends, ended_within d plan.change)

pub returns-clause-queue : goal.returns-clause-queue
returns-clause-queue c =
    let b = c.self.inside in
    let d = desk_in b in
    let call = view_of_call c.args.call in
    let plan = c.in_ok-change.field-0 in
    let room = c.make_call_room in
    let grown : Desk = record {
      edition = b.edition;
      modules = room.new.modules.items;
      trials = room.new.trials.items;
      history = map view_of_entry room.new.history.items;
    } in
    let same : grown ≡ d = λ i. record {
      edition = b.edition;
      modules = room.ensures.modules i;
      trials =
          room.ensures.trials i;
      history = map view_of_entry (room.ensures.history i);
    } in
    let planned : IsPlan d call plan = subst (λ (k : Desk). IsPlan k call plan) same c.in_ok-change.ensures.plan in
    let within : refusal_of b.edition b.usage charge.Call ≡ None = search rules in
    let has : HasRoom d = has_room d b.usage c.self.invariant.sums within in
    let e = called call (view_of_reply plan.reply) in
    let made : holding c.carry_out.new.edition c.carry_out.new.modules.items c.carry_out.new.trials.items ≡ with_change
    (holding d.edition d.modules d.trials) plan.change =
    c.carry_out.ensures.held
    ∙ (λ i. with_change (holding b.edition (room.ensures.modules i) (room.ensures.trials i)) plan.change) in
    let noted : map view_of_entry c.push_reserved.new.self.items ≡ d.history ++ e ∷ [] =
    ap (map view_of_entry) (c.push_reserved.ensures.items ∙ ap (λ (l : List Entry). l ++ plan.noted ∷ [])
    room.ensures.history)
    ∙ map_push view_of_entry b.history.items plan.noted
    ∙ ap (λ (x : desk.Entry). d.history ++ x ∷ []) planned.notes in
    let is = changed_desk d plan.change e c.carry_out.new.edition c.carry_out.new.modules.items
    c.carry_out.new.trials.items _ made noted in
    let d' : Desk =
    desk_in (record {
      edition = c.carry_out.new.edition;
      modules = c.carry_out.new.modules;
      trials =
          c.carry_out.new.trials;
      history = c.push_reserved.new.self;
      users = c.carry_out.new.users;
      usage = plan.usage;
      running = b.running - c.ended_by-ended.result;
    }) in
    let ends : c.ended_by-ended.result ≡ trials_dropped_by d.trials plan.change =
    c.ended_by-ended.ensures ∙ ap (λ (l : List (Option Trial)). trials_dropped_by l plan.change)
    (c.deref.ensures.value ∙ c.make_call_room.ensures.trials) in
    let counted : c.len.result ≡ length room.new.trials.items = search rules in
    let many : c.len.result ≡ length d.trials = counted ∙ ap length room.ensures.trials in
    let trials : d'.trials ≡ (with_change d plan.change).trials = ap (λ (k : Desk). k.trials) is in
    let waiting : c.follow.new.self.waiting.items ≡ c.args.queue.now.waiting.items ++ lined_up c.args.project
    (length d.trials + 1) plan.change =
    c.follow.ensures.waiting ∙ (λ i. c.make_room.ensures.waiting i ++ lined_up c.args.project (many i + 1) plan.change)
    in
    let running : c.follow.new.self.running + trials_dropped_by d.trials plan.change ≡ c.args.queue.now.running =
    omega (arith, c.follow.ensures.running, ends, c.make_room.ensures.running) in
    let follows = change_followed c.args.project c.args.queue.now c.follow.new.self d d' plan.change trials waiting
    running c.follow.ensures.room in
    subst (λ (k : Desk). FollowsQueue c.args.project c.args.queue.now k c.follow.new.self d') c.self.view_is follows

pub returns-clause-tickets : goal.returns-clause-tickets
returns-clause-tickets c =
    let b = c.self.inside in
    let d = desk_in b in
    let call = view_of_call c.args.call in
    let plan = c.in_ok-change.field-0 in
    let room = c.make_call_room in
    let grown : Desk = record {
      edition = b.edition;
      modules = room.new.modules.items;
      trials = room.new.trials.items;
      history = map view_of_entry room.new.history.items;
    } in
    let same : grown ≡ d = λ i. record {
      edition = b.edition;
      modules = room.ensures.modules i;
      trials =
          room.ensures.trials i;
      history = map view_of_entry (room.ensures.history i);
    } in
    let planned : IsPlan d call plan = subst (λ (k : Desk). IsPlan k call plan) same c.in_ok-change.ensures.plan in
    let within : refusal_of b.edition b.usage charge.Call ≡ None = search rules in
    let has : HasRoom d = has_room d b.usage c.self.invariant.sums within in
    let e = called call (view_of_reply plan.reply) in
    let made : holding c.carry_out.new.edition c.carry_out.new.modules.items c.carry_out.new.trials.items ≡ with_change
    (holding d.edition d.modules d.trials) plan.change =
    c.carry_out.ensures.held
    ∙ (λ i. with_change (holding b.edition (room.ensures.modules i) (room.ensures.trials i)) plan.change) in
    let noted : map view_of_entry c.push_reserved.new.self.items ≡ d.history ++ e ∷ [] =
    ap (map view_of_entry) (c.push_reserved.ensures.items ∙ ap (λ (l : List Entry). l ++ plan.noted ∷ [])
    room.ensures.history)
    ∙ map_push view_of_entry b.history.items plan.noted
    ∙ ap (λ (x : desk.Entry). d.history ++ x ∷ []) planned.notes in
    let is = changed_desk d plan.change e c.carry_out.new.edition c.carry_out.new.modules.items
    c.carry_out.new.trials.items _ made noted in
    let d' : Desk =
    desk_in (record {
      edition = c.carry_out.new.edition;
      modules = c.carry_out.new.modules;
      trials =
          c.carry_out.new.trials;
      history = c.push_reserved.new.self;
      users = c.carry_out.new.users;
      usage = plan.usage;
      running = b.running - c.ended_by-ended.result;
    }) in
    let keeps : KeepsTickets d d' = subst (KeepsTickets d) (sym is) (change_tickets d plan.change) in
    subst (λ (k : Desk). KeepsTickets k d') c.self.view_is keeps

pub invariant_of-self-3 : goal.invariant_of-self-3
invariant_of-self-3 c =
    let b = c.self.inside in
    let d = desk_in b in
    let call = view_of_call c.args.call in
    let plan = c.in_ok-change.field-0 in
    let room = c.make_call_room in
    let grown : Desk = record {
      edition = b.edition;
      modules = room.new.modules.items;
      trials = room.new.trials.items;
      history = map view_of_entry room.new.history.items;
    } in
    let same : grown ≡ d = λ i. record {
      edition = b.edition;
      modules = room.ensures.modules i;
      trials =
          room.ensures.trials i;
      history = map view_of_entry (room.ensures.history i);
    } in
    let planned : IsPlan d call plan = subst (λ (k : Desk). IsPlan k call plan) same c.in_ok-change.ensures.plan in
    let within : refusal_of b.edition b.usage charge.Call ≡ None = search rules in
    let has : HasRoom d = has_room d b.usage c.self.invariant.sums within in
    let e = called call (view_of_reply plan.reply) in
    let made : holding c.carry_out.new.edition c.carry_out.new.modules.items c.carry_out.new.trials.items ≡ with_change
    (holding d.edition d.modules d.trials) plan.change =
    c.carry_out.ensures.held
    ∙ (λ i. with_change (holding b.edition (room.ensures.modules i) (room.ensures.trials i)) plan.change) in
    let noted : map view_of_entry c.push_reserved.new.self.items ≡ d.history ++ e ∷ [] =
    ap (map view_of_entry) (c.push_reserved.ensures.items ∙ ap (λ (l : List Entry). l ++ plan.noted ∷ [])
    room.ensures.history)
    ∙ map_push view_of_entry b.history.items plan.noted
    ∙ ap (λ (x : desk.Entry). d.history ++ x ∷ []) planned.notes in
    let is = changed_desk d plan.change e c.carry_out.new.edition c.carry_out.new.modules.items
    c.carry_out.new.trials.items _ made noted in
    let ran : b.running ≡ running_in d = c.self.invariant.running in
    let ends : c.ended_by-ended.result ≡ trials_dropped_by d.trials plan.change = c.ended_by-ended.ensures
    ∙ ap (λ (l : List (Option Trial)). trials_dropped_by l plan.change)
    (c.deref.ensures.value ∙ room.ensures.trials) in
    let within : trials_dropped_by d.trials plan.change ≤ running_in d = ended_within d plan.change in
    called_valid d call plan planned has _ is _ refl refl c.carry_out.ensures.edition c.carry_out.ensures.counts
    (omega (arith, ran, ends, within))
    (omega (
      arith,
      c.in_ok-make_call_room.ensures.room.0,
      c.push_reserved.ensures.len,
      c.push_reserved.ensures.capacity,
    ))
    c.self.invariant.legal

pub returns-clause-answer : goal.returns-clause-answer
returns-clause-answer c =
    let b = c.self.inside in
    let d = desk_in b in
    let call = view_of_call c.args.call in
    let plan = c.in_ok-change.field-0 in
    let room = c.make_call_room in
    let grown : Desk = record {
      edition = b.edition;
      modules = room.new.modules.items;
      trials = room.new.trials.items;
      history = map view_of_entry room.new.history.items;
    } in
    let same : grown ≡ d = λ i. record {
      edition = b.edition;
      modules = room.ensures.modules i;
      trials =
          room.ensures.trials i;
      history = map view_of_entry (room.ensures.history i);
    } in
    let planned : IsPlan d call plan = subst (λ (k : Desk). IsPlan k call plan) same c.in_ok-change.ensures.plan in
    let within : refusal_of b.edition b.usage charge.Call ≡ None = search rules in
    let has : HasRoom d = has_room d b.usage c.self.invariant.sums within in
    let e = called call (view_of_reply plan.reply) in
    let made : holding c.carry_out.new.edition c.carry_out.new.modules.items c.carry_out.new.trials.items ≡ with_change
    (holding d.edition d.modules d.trials) plan.change =
    c.carry_out.ensures.held
    ∙ (λ i. with_change (holding b.edition (room.ensures.modules i) (room.ensures.trials i)) plan.change) in
    let noted : map view_of_entry c.push_reserved.new.self.items ≡ d.history ++ e ∷ [] =
    ap (map view_of_entry) (c.push_reserved.ensures.items ∙ ap (λ (l : List Entry). l ++ plan.noted ∷ [])
    room.ensures.history)
    ∙ map_push view_of_entry b.history.items plan.noted
    ∙ ap (λ (x : desk.Entry). d.history ++ x ∷ []) planned.notes in
    let is = changed_desk d plan.change e c.carry_out.new.edition c.carry_out.new.modules.items
    c.carry_out.new.trials.items _ made noted in
    let d' =
    desk_in (record {
      edition = c.carry_out.new.edition;
      modules = c.carry_out.new.modules;
      trials =
          c.carry_out.new.trials;
      history = c.push_reserved.new.self;
      users = c.carry_out.new.users;
      usage = plan.usage;
      running = b.running - c.ended_by-ended.result;
    }) in
    let answers : DeskAnswers d call (Ok plan.reply) d' =
    called_answers d call plan planned has d' is plan.reply refl in
    subst (λ (k : Desk). DeskAnswers k call (Ok plan.reply) d') c.self.view_is answers
