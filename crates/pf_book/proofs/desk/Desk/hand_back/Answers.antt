use Rattle.std.proofs.Common.{◌≡◌, ◌-◌, ◌+◌, ◌≤◌, [], ◌∷◌, ◌++◌, map, true, rules, refl, sym, ap, ◌∙◌, arith}
use Rattle.std.proofs.lemmas.List.{map_push}
use Rattle.pf_desks.specs.Desk.{Desk, queued, running, handed_back, held_at}
use Rattle.pf_desks.specs.Work.{is_running, after_hand_back, hand_back, hand_back_step}
use Rattle.pf_book.specs.Kept.{desk_in}
use Rattle.pf_book.specs.Running.{running_among}
use Rattle.pf_book.specs.View.{view_of_entry}
use Rattle.pf_book.specs.declared.desk.Desk.TheInside.{Inside}
use Rattle.pf_book.specs.declared.entry.Entry.TheVariants.{HandedBack}
use Rattle.pf_desks.proofs.Always.{of_back}
use Rattle.pf_desks.proofs.Histories.{legal_work}
use Rattle.pf_book.proofs.Worked.{back_is, running_at, some_run, undone_at, worked_valid}
use Rattle.pf_book.proofs.desk.Desk.hand_back.Goals as goal

pub set_running-requires : goal.set_running-requires
set_running-requires c =
    let ts = c.self.inside.trials.items in
    let t = c.args.ticket in
    let runs : is_running (held_at ts t) ≡ true = search rules in
    undone_at (held_at ts t) running refl (running_at (held_at ts t) runs)

pub overflow_sub-self : goal.overflow_sub-self
overflow_sub-self c =
    let b = c.self.inside in
    let runs : is_running (held_at b.trials.items c.args.ticket) ≡ true = search rules in
    let ran : b.running ≡ running_among b.trials.items = c.self.invariant.running in
    omega (arith, ran, some_run b.trials.items c.args.ticket runs)

pub push_reserved-requires : goal.push_reserved-requires
push_reserved-requires c =
    let b = c.self.inside in
    let runs : is_running (held_at b.trials.items c.args.ticket) ≡ true = search rules in
    let ran : b.running ≡ running_among b.trials.items = c.self.invariant.running in
    omega (arith, ran, some_run b.trials.items c.args.ticket runs, c.self.invariant.room)

pub invariant_of-self : goal.invariant_of-self
invariant_of-self c =
    let b = c.self.inside in
    let d = desk_in b in
    let t = c.args.ticket in
    let runs : is_running (held_at d.trials t) ≡ true = search rules in
    let ran : b.running ≡ running_among d.trials = c.self.invariant.running in
    let some : 1 ≤ b.running = omega (arith, ran, some_run d.trials t runs) in
    let b' : Inside = record {
      edition = b.edition;
      modules = b.modules;
      trials = c.set_running.new.trials;
      history =
          c.push_reserved.new.self;
      users = b.users;
      usage = b.usage;
      running = b.running - 1;
    } in
    let history : map view_of_entry c.push_reserved.new.self.items ≡ d.history ++ handed_back t ∷ [] =
    ap (map view_of_entry) c.push_reserved.ensures.items ∙ map_push view_of_entry b.history.items (HandedBack t) in
    let is : desk_in b' ≡ after_hand_back d t = λ i. record {
      edition = d.edition;
      modules = d.modules;
      trials =
          c.set_running.ensures i;
      history = history i;
    } in
    let as_many : b.running - 1 + 1 ≡ b.running + 0 = omega (arith, some) in
    worked_valid b b' t running queued (handed_back t) (running_at (held_at d.trials t) runs) (of_back t) refl refl
    c.set_running.ensures history refl refl
    as_many
    (omega (arith, c.self.invariant.room, some, c.push_reserved.ensures.len, c.push_reserved.ensures.capacity))
    (λ p right. legal_work p d (desk_in b') (hand_back t) (back_is d (desk_in b') t runs is)
    (c.self.invariant.legal p right))
    c.self.invariant

pub returns-clause-back : goal.returns-clause-back
returns-clause-back c =
    let b = c.self.inside in
    let d = desk_in b in
    let t = c.args.ticket in
    let runs : is_running (held_at d.trials t) ≡ true = search rules in
    let history : map view_of_entry c.push_reserved.new.self.items ≡ d.history ++ handed_back t ∷ [] =
    ap (map view_of_entry) c.push_reserved.ensures.items ∙ map_push view_of_entry b.history.items (HandedBack t) in
    let d' : Desk = record {
      edition = d.edition;
      modules = d.modules;
      trials = c.set_running.new.trials.items;
      history = map view_of_entry c.push_reserved.new.self.items;
    } in
    let is : d' ≡ after_hand_back d t = λ i. record {
      edition = d.edition;
      modules = d.modules;
      trials =
          c.set_running.ensures i;
      history = history i;
    } in
    ap (λ (k : Desk). hand_back_step k t) (sym c.self.view_is) ∙ back_is d d' t runs is
