use Rattle.std.proofs.Common.{◌≡◌, ◌+◌, List, [], ◌∷◌, ◌++◌, map, true, Option, Some, refl, sym, ap, ◌∙◌, arith}
use Rattle.std.proofs.lemmas.List.{map_push}
use Rattle.std.proofs.lemmas.Result.{err_from_is_err_and}
use Rattle.pf_desks.specs.Desk.{Desk, Trial, queued, running, claimed, held_at}
use Rattle.pf_desks.specs.Work.{is_queued, after_claim, claim, claim_step}
use Rattle.pf_book.specs.Kept.{desk_in}
use Rattle.pf_book.specs.Queued.{job_at}
use Rattle.pf_book.specs.View.{view_of_entry}
use Rattle.pf_book.specs.declared.desk.Desk.TheInside.{Inside}
use Rattle.pf_book.specs.declared.entry.Entry.{Entry}
use Rattle.pf_book.specs.declared.entry.Entry.TheVariants.{Claimed}
use Rattle.pf_desks.proofs.Always.{of_claim}
use Rattle.pf_desks.proofs.Histories.{legal_work}
use Rattle.pf_book.proofs.Worked.{claim_is, is_waiting, queued_at, undone_at, worked_valid}
use Rattle.pf_book.proofs.desk.Desk.claim.Goals as goal

pub set_running-requires : goal.set_running-requires
set_running-requires c =
    let ts = c.self.inside.trials.items in
    let t = c.args.ticket in
    let waits : job_at ts t ≡ Some c.in-Some.job.now.value = ap (λ (l : List (Option Trial)). job_at l t)
    (sym c.deref.ensures.value) ∙ sym c.in-Some.ensures in
    undone_at (held_at ts t) queued refl (queued_at (held_at ts t) (is_waiting ts t c.in-Some.job.now.value waits))

pub returns-in_err-job-clause-claim : goal.returns-in_err-job-clause-claim
returns-in_err-job-clause-claim c =
    let ts = c.self.inside.trials.items in
    let t = c.args.ticket in
    let waits : job_at ts t ≡ Some c.in-Some.job.now.value = ap (λ (l : List (Option Trial)). job_at l t)
    (sym c.deref.ensures.value) ∙ sym c.in-Some.ensures in
    let p = err_from_is_err_and c.from_residual.result c.from_residual.ensures.1 in
    rw p.1 (
      ap (λ (k : Desk). is_queued (held_at k.trials t)) (sym c.self.view_is)
          ∙ is_waiting ts t c.in-Some.job.now.value waits,
      refl,
    )

pub returns-in_err-make_room-clause-claim : goal.returns-in_err-make_room-clause-claim
returns-in_err-make_room-clause-claim c =
    let b = c.self.inside in
    let ts = b.trials.items in
    let t = c.args.ticket in
    let waits : job_at ts t ≡ Some c.in-Some.job.now.value = ap (λ (l : List (Option Trial)). job_at l t)
    (sym c.deref.ensures.value) ∙ sym c.in-Some.ensures in
    let p = err_from_is_err_and c.from_residual-in_err-make_room.result c.from_residual-in_err-make_room.ensures.1 in
    let seen = c.self.view_is in
    rw p.1 (
      ap (λ (k : Desk). is_queued (held_at k.trials t)) (sym seen) ∙ is_waiting ts t c.in-Some.job.now.value waits,
      (λ i. record {
        edition = b.edition;
        modules = b.modules.items;
        trials = b.trials.items;
        history =
            map view_of_entry (c.make_room.ensures.items i);
      }) ∙ seen,
    )

pub invariant_of-self-2 : goal.invariant_of-self-2
invariant_of-self-2 c =
    let b = c.self.inside in
    let d = desk_in b in
    let t = c.args.ticket in
    let j = c.in-Some.job.now.value in
    let waits : job_at d.trials t ≡ Some j = ap (λ (l : List (Option Trial)). job_at l t) (sym c.deref.ensures.value)
    ∙ sym c.in-Some.ensures in
    let queues : is_queued (held_at d.trials t) ≡ true = is_waiting d.trials t j waits in
    let b' : Inside = record {
      edition = b.edition;
      modules = b.modules;
      trials = c.set_running.new.trials;
      history =
          c.push_reserved.new.self;
      users = b.users;
      usage = b.usage;
      running = b.running + 1;
    } in
    let history : map view_of_entry c.push_reserved.new.self.items ≡ d.history ++ claimed t ∷ [] =
    ap (map view_of_entry) (c.push_reserved.ensures.items ∙ ap (λ (l : List Entry). l ++ Claimed t ∷ [])
    c.make_room.ensures.items)
    ∙ map_push view_of_entry b.history.items (Claimed t) in
    let is : desk_in b' ≡ after_claim d t = λ i. record {
      edition = d.edition;
      modules = d.modules;
      trials =
          c.set_running.ensures i;
      history = history i;
    } in
    let as_many : b.running + 1 + 0 ≡ b.running + 1 = omega arith in
    worked_valid b b' t queued running (claimed t) (queued_at (held_at d.trials t) queues) (of_claim t) refl refl
    c.set_running.ensures history refl refl
    as_many
    (omega (arith, c.in_ok-make_room.ensures.room, c.push_reserved.ensures.len, c.push_reserved.ensures.capacity))
    (λ p right. legal_work p d (desk_in b') (claim t) (claim_is d (desk_in b') t queues is)
    (c.self.invariant.legal p right))
    c.self.invariant

pub returns-clause-claim : goal.returns-clause-claim
returns-clause-claim c =
    let b = c.self.inside in
    let d = desk_in b in
    let t = c.args.ticket in
    let j = c.in-Some.job.now.value in
    let waits : job_at d.trials t ≡ Some j = ap (λ (l : List (Option Trial)). job_at l t) (sym c.deref.ensures.value)
    ∙ sym c.in-Some.ensures in
    let history : map view_of_entry c.push_reserved.new.self.items ≡ d.history ++ claimed t ∷ [] =
    ap (map view_of_entry) (c.push_reserved.ensures.items ∙ ap (λ (l : List Entry). l ++ Claimed t ∷ [])
    c.make_room.ensures.items)
    ∙ map_push view_of_entry b.history.items (Claimed t) in
    let d' : Desk = record {
      edition = d.edition;
      modules = d.modules;
      trials = c.set_running.new.trials.items;
      history = map view_of_entry c.push_reserved.new.self.items;
    } in
    let is : d' ≡ after_claim d t = λ i. record {
      edition = d.edition;
      modules = d.modules;
      trials =
          c.set_running.ensures i;
      history = history i;
    } in
    let seen = sym c.self.view_is in (
      ap (λ (k : Desk). job_at k.trials t) seen ∙ waits ∙ ap Some (sym c.in_ok-job.ensures),
      ap (λ (k : Desk). claim_step k t) seen ∙ claim_is d d' t (is_waiting d.trials t j waits) is,
    )
